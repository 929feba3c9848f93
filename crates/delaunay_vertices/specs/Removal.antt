-- What becomes of a triangulation when a vertex goes.
use Rattle.std.specs.Prelude.{◌≡◌, ℕ, List, Some, slice_get}
use Rattle.plane.specs.{Plain, Point, TakesOut}
use Rattle.{delaunay_legalization.specs.IsTriangulated, delaunay_legalization.specs.State.State}
use Rattle.delaunay_vertices.specs.{Pairs.LeavesFaces, RemovalData.KeepsDataBeside}

-- vertex v, of this data, went from the points and constraints, and the last vertex took its index;
-- the others have a triangulation where what is beside v keeps its data, and each side of a face
-- that was not there is one of the pairs or lay opposite v
pub record TakesVertexOut {V D U F : Type 0} (place : V → Point)
    (plain_of : State V D U F → Plain V) (old new : State V D U F) (v : ℕ)
    (value_of : V) (pairs : List (ℕ × ℕ)) : Type 0 where
  pub value : slice_get old.vertices v ≡ Some value_of
  pub plain : TakesOut place (plain_of old) (plain_of new) v
  pub kept : IsTriangulated place new
  pub beside : KeepsDataBeside old new v
  pub faces : LeavesFaces old new v pairs
