-- What becomes of a triangulation where the vertex at a point goes.
use Rattle.std.specs.Prelude.{◌≡◌, ℕ, List, Some, slice_get}
use Rattle.delaunay_legalization.specs.{points_and_constraints_by, State.State}
use Rattle.{delaunay_vertices.specs.KeepsDataOfOthers, plane.specs.Point, plane.specs.Removes}

-- a vertex at p went, which had this value, and what was not at it has the data that it had
pub record RemovesAt {V D U F : Type 0} (place : V → Point) (constraints : List U → List ℕ)
    (old new : State V D U F) (p : Point) (value : V) : Type 0 where
  pub index : ℕ
  pub here : place value ≡ p
  pub had : slice_get old.vertices index ≡ Some value
  pub plain : Removes place (points_and_constraints_by constraints old)
      (points_and_constraints_by constraints new) index
  pub others : KeepsDataOfOthers old new index
