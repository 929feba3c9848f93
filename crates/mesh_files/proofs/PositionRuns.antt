-- How positions become points.
use Rattle.std.proofs.Common.{◌≡◌, List, [], ◌∷◌, ◌++◌, arith}
use Rattle.std.specs.Prelude.{All, IfSome, None, Some}
use Rattle.std.proofs.lemmas.List.Elements.{All-append}
use Rattle.std.specs.List.{AllByRecursion}
use Rattle.json.specs.Token.{Token}
use Rattle.mesh_files.specs.{AddsSpot, Drawing, DrawsRuns, GeoPosition, HasPositions, IsPosition}
use Rattle.mesh_files.specs.{Runs.AddsRun, Runs.IsRun, SameNumbers}
use Rattle.mesh_files.specs.{declared.shapes.Shape.Shape, declared.shapes.WholeLine.WholeLine}
use Rattle.mesh_files.proofs.PointRows.{draws_more, draws_same}

all_more : {X : Type 0} (P : X → Type 0) (xs : List X) (x : X) → AllByRecursion P xs → P x
    → AllByRecursion P (xs ++ x ∷ [])
all_more P [] x h p = (p, tt)
all_more P (y ∷ xs) x h p = (h.0, all_more P xs x h.1 p)

-- a position is one more point
pub run_added : (p : GeoPosition) (old new : Drawing) → AddsSpot p.spot p.height old new
    → AddsRun p old new
run_added p old new adds = λ tokens at drawn. record {
  rows = drawn.rows ++ at.row ∷ [];
  runs = all_more (IsRun tokens) drawn.rows at.row drawn.runs at.run;
  drawn = draws_more drawn.rows at.row 0 1 (Some 2) p.spot p.height old new drawn.drawn adds at.spot_is
      at.height_is;
}

-- the same points are the same runs
pub runs_same : (tokens : List Token) (old new : Drawing) → SameNumbers old new
    → DrawsRuns tokens old → DrawsRuns tokens new
runs_same tokens old new same drawn = record {
  rows = drawn.rows;
  runs = drawn.runs;
  drawn = draws_same drawn.rows 0 1 (Some 2) old new drawn.drawn same.spots_are same.heights_are;
}

one_more : {X : Type 0} (P : X → Type 0) (xs : List X) (x : X) → All P xs → P x
    → All P (xs ++ x ∷ [])
one_more P xs x h p = All-append P xs (x ∷ []) h (one P x p)
  where
    one : {Y : Type 0} (Q : Y → Type 0) (y : Y) → Q y → All Q (y ∷ [])
    one Q y q = λ k d lt. grind (arith, q)

-- one more line, which repeats its first position or does not
pub line_more : (tokens : List Token) (old new : Shape) (line : WholeLine)
    → HasPositions tokens old → IfSome line.closing (IsPosition tokens) → new.open ≡ None
    → new.lines.items ≡ old.lines.items ++ line ∷ [] → HasPositions tokens new
line_more tokens old new line h at none lines = record {
  open_is = rw none tt;
  lines_are = rw lines (one_more (λ (l : WholeLine). IfSome l.closing (IsPosition tokens))
      old.lines.items line h.lines_are at);
}
