-- Distances from a position to vertices.
use Rattle.{half_edge_dcel.specs.Contents, plane.specs.InRange, plane.specs.Point}
use Rattle.delaunay_legalization.specs.{IsTriangulated, state_of}

-- those from p to the vertices of a triangulation can be taken
pub record CanMeasure {V D U F : Type 0} (at : V → Point) (c : Contents V D U F)
    (p : Point) : Type 0 where
  pub kept : IsTriangulated at (state_of c)
  pub in_range : InRange p
