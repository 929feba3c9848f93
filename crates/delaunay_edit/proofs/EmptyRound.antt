-- Without constraints the circles round a vertex that was put in are empty.
-- Lemmas: none_counted, put_in_free.
use Rattle.std.proofs.Common.{◌≡◌, ◌∙◌, ℕ, Bool, List, [], map, sym, subst}
use Rattle.std.proofs.lemmas.List.{length-map, nil_from_length}
use Rattle.{plane.specs.IsConstrainedDelaunay, plane.specs.Point, plane_theorems.specs.IsEmptyRound}
use Rattle.plane_theorems.proofs.Delaunay.Circles.Nearest.{circles_are_empty}
use Rattle.delaunay_legalization.specs.{constraints_by, faces_of, IsDelaunayTriangulation}
use Rattle.delaunay_legalization.specs.{marked_edges, State.State, triangulation_of}
use Rattle.{delaunay_vertices.proofs.EmptyRound.grown_is_empty, delaunay_vertices.specs.GainsVertex}
use Rattle.delaunay_edit.specs.{IsCounted}
use Rattle.delaunay_edit.proofs.Delaunay.{marked_constrained_delaunay}

-- where their number is none there are no constraints
pub none_counted : {V D U F : Type 0} (place : V → Point) (constraints : List U → List ℕ)
    (s : State V D U F) (number : ℕ) → IsCounted place constraints s number → number ≡ 0
    → constraints_by constraints s ≡ []
none_counted place constraints s number counted none =
    nil_from_length (constraints_by constraints s) (sym counted.counted ∙ none)

-- where there was no constraint, a vertex was put in
pub put_in_free : {V D U F : Type 0} {place : V → Point} (marks : U → Bool)
    {constraints : List U → List ℕ} → ((ds : List U) → constraints ds ≡ marked_edges marks ds)
    → {old new : State V D U F} {value : V} {vertex : ℕ}
    → IsDelaunayTriangulation place constraints old → constraints_by constraints old ≡ []
    → GainsVertex place value old new vertex
    → IsEmptyRound (map place new.vertices) (faces_of new.mesh) vertex
put_in_free {place = place} marks {constraints = constraints} marked {old = old}
    {new = new} {value = value} {vertex = vertex} legal none takes =
    subst (IsEmptyRound (map place new.vertices) (faces_of new.mesh)) (sym takes.is)
    (grown_is_empty place value old new vertex legal.kept takes
    (λ i j k n f h. circles_are_empty (triangulation_of place old) free i j k n f
    (rw length-map h)))
  where
    free : IsConstrainedDelaunay (triangulation_of place old) []
    free = subst (λ (cs : List (ℕ × ℕ)). IsConstrainedDelaunay (triangulation_of place old) cs)
        none (marked_constrained_delaunay place marks constraints marked old legal)
