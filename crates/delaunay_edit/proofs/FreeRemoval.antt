-- Without constraints no side of a vertex's hole is left to test.
-- Lemmas: free_circles, sides_settle.
use Rattle.std.proofs.Common.{◌≡◌, ◌⊎◌, ◌<◌, ℕ, Bool, List, [], length, map, inl, inr, subst}
use Rattle.plane.specs.{InsideCircle, IsConstrainedDelaunay, place as at, Point}
use Rattle.plane_theorems.proofs.Delaunay.Circles.Nearest.{circles_are_empty}
use Rattle.delaunay_legalization.specs.{constraints_by, faces_of, IsDelaunayTriangulation}
use Rattle.delaunay_legalization.specs.{marked_edges, State.State, triangulation_of}
use Rattle.{delaunay_vertices.specs.HasBorder, plane_theorems.specs.IsFaceOf}
use Rattle.delaunay_vertices.proofs.Passing.{AreSettled, border_settles}
use Rattle.delaunay_edit.proofs.Delaunay.{marked_constrained_delaunay}

module _ {V D U F : Type 0} (place : V → Point) (marks : U → Bool) (constraints : List U → List ℕ)
    (marked : (ds : List U) → constraints ds ≡ marked_edges marks ds) (s : State V D U F)
    (legal : IsDelaunayTriangulation place constraints s) (v : ℕ) (border : List (ℕ × ℕ)) where
  abbrev Settled : Type 0
  Settled = AreSettled (map place s.vertices) (faces_of s.mesh) v border

  -- without constraints no vertex is inside the circle of a face
  pub free_circles : constraints_by constraints s ≡ [] → (i j k n : ℕ)
      → IsFaceOf (faces_of s.mesh) i j k → n < length (map place s.vertices)
      → ¬ InsideCircle (at (map place s.vertices) i) (at (map place s.vertices) j)
      (at (map place s.vertices) k) (at (map place s.vertices) n)
  free_circles none i j k n f within =
      circles_are_empty (triangulation_of place s) free i j k n f within
    where
      free : IsConstrainedDelaunay (triangulation_of place s) []
      free = subst (λ (cs : List (ℕ × ℕ)). IsConstrainedDelaunay (triangulation_of place s) cs) none
          (marked_constrained_delaunay place marks constraints marked s legal)

  -- so none is inside that of the face beyond a side of the hole
  free_settles : constraints_by constraints s ≡ [] → Settled
  free_settles none a b f = inr (λ k l g within. free_circles none b a l k g within)

  -- where there are no constraints, or each side of the hole is listed, each is listed or passes
  pub sides_settle : (constraints_by constraints s ≡ []) ⊎ HasBorder s.mesh v border → Settled
  sides_settle (inl none) = free_settles none
  sides_settle (inr around) =
      border_settles (map place s.vertices) s.mesh legal.kept.valid.sound v border around
