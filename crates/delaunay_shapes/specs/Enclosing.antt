-- A search for what has a point in a shape: what a contract sees of it.
use Rattle.std.specs.Prelude.{List, All}
use Rattle.half_edge_dcel.specs.{Contents}
use Rattle.delaunay_legalization.specs.{IsTriangulated, state_of}
use Rattle.{delaunay_shapes.specs.Start.HasStartAt, plane.specs.Fraction, plane.specs.Point}

-- the mesh, the shape, the tests, and the point where the search begins
pub record Enclosing (V D U F M P : Type 0) : Type 0 where
  pub dcel : Contents V D U F
  pub metric : M
  pub tests : P
  pub start : Point

-- the mesh is a triangulation; the tests cover the shape's own points and the start, where the
-- shape begins
pub record IsShapeSearch {V D U F M P : Type 0} (at : V → Point) (own : M → List Point)
    (Shape : M → Fraction → Type 0) (IsCovered : P → Point → Type 0) (c : Contents V D U F) (m : M)
    (t : P) (start : Point) : Type 0 where
  pub kept : IsTriangulated at (state_of c)
  pub own_covered : All (IsCovered t) (own m)
  pub start_covered : IsCovered t start
  pub begins : HasStartAt (Shape m) start
