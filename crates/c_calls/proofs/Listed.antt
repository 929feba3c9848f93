-- How the insertion of a list that C asks for ended, by what the library's insertion says.
-- Lemmas: write_more, write_all, vertices_in_range, points_in_range, count_same,
-- may_insert, is_all_inserted, is_stopped, listed_in_plain, listed_in_constrained.
use Rattle.std.proofs.Common.{◌≡◌, ◌<◌, ◌≤◌, ◌+◌, ◌*◌, ◌∙◌, [], ◌∷◌, ◌++◌, ℕ, List, length}
use Rattle.std.proofs.Common.{take, drop, set, get_or, refl, sym, ap, subst, inl, inr, arith}
use Rattle.std.proofs.Common.{append_assoc}
use Rattle.std.specs.Prelude.{◌↔◌, All}
use Rattle.std.proofs.lemmas.List.Elements.{All-map}
use Rattle.std.proofs.lemmas.List.{drop_more, get_or-map, length-map, length-take-le, set_at}
use Rattle.std.proofs.lemmas.List.{take_all, take_more}
use Rattle.half_edge_links.specs.{MAX_ELEMENTS}
use Rattle.delaunay_core.specs.{InsertionError, OutOfIndexes, OutOfMemory, TooLarge}
use Rattle.delaunay_legalization.specs.{declared.cdt_edge.CdtEdge.CdtEdge, State.State}
use Rattle.delaunay_edit.specs.{constraint_edges, none}
use Rattle.delaunay_extensions.specs.{BulkInsertionError, InsertsAll, NoRoom, StopsAt, Vertex}
use Rattle.{delaunay_extensions.proofs.Turns.one_of_all, plane.specs.InRange, plane.specs.Point}
use Rattle.c_calls.specs.{AnyTriangulation, Constrained, IsRawInRange, kept_place, NumberedPoint}
use Rattle.c_calls.specs.{OUT_OF_MEMORY, Plain, RawPoint, unnumbered_points, WELL}
use Rattle.c_calls.specs.{Answers.status_of_error, Kept.unnumbered_at}
use Rattle.c_calls.specs.Lists.{all_inserted, insertion_full, insertion_refused, insertion_stopped}
use Rattle.c_calls.specs.Lists.{InsertsListKept, ListInsertion, MayInsert}

-- ---- one more of a list is written to the front of another
pub write_more : (xs ys : List ℕ) (i : ℕ) → i < length xs → length xs ≤ length ys
    → set (take i xs ++ drop i ys) i (get_or xs i 0) ≡ take (i + 1) xs ++ drop (i + 1) ys
write_more xs ys i below fits =
    ap (λ (zs : List ℕ). set (take i xs ++ zs) i (get_or xs i 0))
    (drop_more ys i 0 (omega (arith, below, fits)))
    ∙ set_at (take i xs) (get_or ys i 0) (drop (i + 1) ys) (get_or xs i 0) i
    (length-take-le i xs (omega (arith, below)))
    ∙ sym (append_assoc (take i xs) (get_or xs i 0 ∷ []) (drop (i + 1) ys))
    ∙ ap (λ (zs : List ℕ). zs ++ drop (i + 1) ys) (sym (take_more xs i 0 below))

-- all of it is
pub write_all : (xs ys zs : List ℕ) (i : ℕ) → i ≡ length xs → zs ≡ take i xs ++ drop i ys
    → zs ≡ xs ++ drop (length xs) ys
write_all xs ys zs i at is = is
    ∙ ap (λ (ws : List ℕ). ws ++ drop i ys) (take_all i xs (omega (arith, at)))
    ∙ ap (λ (n : ℕ). xs ++ drop n ys) at

-- ---- how it ended
-- points in range are vertices in range
pub vertices_in_range : (points : List RawPoint) → All IsRawInRange points
    → All (λ v. InRange (kept_place v)) (unnumbered_points points)
vertices_in_range points all =
    All-map (λ v. InRange (kept_place v)) (λ (p : RawPoint). unnumbered_at p.x p.y) points all

-- and the other way round
pub points_in_range : (points : List RawPoint)
    → All (λ v. InRange (kept_place v)) (unnumbered_points points) → All IsRawInRange points
points_in_range points all = λ i d below.
    subst (λ v. InRange (kept_place v))
    (get_or-map (λ (p : RawPoint). unnumbered_at p.x p.y) points i d (unnumbered_at d.x d.y) below)
    (all i (unnumbered_at d.x d.y) (subst (λ (n : ℕ). i < n)
    (sym (length-map points (λ (p : RawPoint). unnumbered_at p.x p.y))) below))

-- there are as many
pub count_same : (points : List RawPoint) → length (unnumbered_points points) ≡ length points
count_same points = length-map points (λ (p : RawPoint). unnumbered_at p.x p.y)

-- points may be inserted once room was made for them, where that changed nothing
pub may_insert : {D U F : Type 0} (points : List RawPoint) (before : List ℕ)
    (old now : State NumberedPoint D U F) → length points ≤ length before
    → All IsRawInRange points → now ≡ old
    → ¬ (MAX_ELEMENTS < 6 * (length old.vertices + length points))
    → MayInsert kept_place (unnumbered_points points) before now
may_insert points before old now fits range same few = record {
  room = subst (λ (n : ℕ). n ≤ length before) (sym (count_same points)) fits;
  in_range = vertices_in_range points range;
  few = λ more. few (subst (λ (n : ℕ). MAX_ELEMENTS < 6 * (length old.vertices + n))
      (count_same points) (subst (λ (s : State NumberedPoint _ _ _). MAX_ELEMENTS
      < 6 * (length s.vertices + length (unnumbered_points points))) same more));
}

module _ {V D U F : Type 0} (place : V → Point) (constraints : List U → List ℕ) (list : List V)
    (before after : List ℕ) (old new : State V D U F) (may : MayInsert place list before old) where
  -- all were inserted, and their indexes written
  pub is_all_inserted : (handles : List ℕ) → InsertsAll place constraints list handles old new
      → after ≡ handles ++ drop (length handles) before
      → ListInsertion place constraints list WELL before after old new
  is_all_inserted handles done written = all_inserted handles refl may done written

  -- they were not inserted, or not all
  pub is_stopped : after ≡ before → (error : BulkInsertionError)
      → StopsAt place constraints list error old new
      → ListInsertion place constraints list OUT_OF_MEMORY before after old new
  is_stopped same (Vertex i why) (inl ((large, first), stays)) = absurd (first.outside
      (one_of_all (λ v. InRange (place v)) list i first.vertex may.in_range first.there))
  is_stopped same (NoRoom why) (inl (refused, stays)) = insertion_refused refl may stays same
  is_stopped same (Vertex i why) (inr stops) =
      insertion_stopped (Vertex i why) refl may stops same
  is_stopped same (NoRoom why) (inr stops) = insertion_stopped (NoRoom why) refl may stops same

-- room was refused for points in range
pub reserve_refused : {D U F : Type 0} (constraints : List U → List ℕ) (points : List RawPoint)
    (before : List ℕ) (old now : State NumberedPoint D U F) → length points ≤ length before
    → All IsRawInRange points → now ≡ old → (e : InsertionError) → ¬ (e ≡ TooLarge)
    → (e ≡ OutOfIndexes) ↔ (MAX_ELEMENTS < 6 * (length old.vertices + length points))
    → ListInsertion kept_place constraints (unnumbered_points points) (status_of_error e) before
    before old now
reserve_refused constraints points before old now fits range same TooLarge big full =
    absurd (big refl)
reserve_refused constraints points before old now fits range same OutOfIndexes big full =
    insertion_full refl (subst (λ (n : ℕ). n ≤ length before) (sym (count_same points)) fits)
    (vertices_in_range points range) (subst (λ (n : ℕ). MAX_ELEMENTS
    < 6 * (length old.vertices + n)) (sym (count_same points)) (full.0 refl)) same refl
reserve_refused constraints points before old now fits range same OutOfMemory big full =
    insertion_refused refl (may_insert points before old old fits range refl
    (λ more. let clash = full.1 more in absurd (cc))) same refl

-- into a plain triangulation
pub listed_in_plain : (list : List NumberedPoint) (status : ℕ) (before after : List ℕ)
    (k : AnyTriangulation) (a b : State NumberedPoint (Unit {0}) (Unit {0}) (Unit {0})) → k ≡ Plain
    a
    → ListInsertion kept_place none list status before after a b
    → InsertsListKept list status before after k (Plain b)
listed_in_plain list status before after k a b is h =
    subst (λ (w : AnyTriangulation). InsertsListKept list status before after w (Plain b)) (sym is)
    h

-- into a constrained one
pub listed_in_constrained : (list : List NumberedPoint) (status : ℕ) (before after : List ℕ)
    (k : AnyTriangulation) (a b : State NumberedPoint (Unit {0}) (CdtEdge (Unit {0})) (Unit {0}))
    → k ≡ Constrained a → ListInsertion kept_place constraint_edges list status before after a b
    → InsertsListKept list status before after k (Constrained b)
listed_in_constrained list status before after k a b is h =
    subst (λ (w : AnyTriangulation). InsertsListKept list status before after w (Constrained b))
    (sym is)
    h

-- for the functions that make the edit
pub ruleset insertions_kept = (listed_in_plain, listed_in_constrained)
