-- The edges and vertices of a triangulation that have a point in a shape.
use Rattle.std.specs.Prelude.{◌≡◌, ℕ, List}
use Rattle.std.specs.Borrow.{Bor}
use Rattle.{delaunay_legalization.specs.state_of, half_edge_dcel.specs.Contents}
use Rattle.{delaunay_legalization.specs.State.State, plane.specs.Fraction, plane.specs.Point}
pub use Rattle.delaunay_shapes.specs.Left.{GivesEdgesIn, GivesVerticesIn}
pub use Rattle.delaunay_shapes.specs.{edges_left, vertices_left}
pub use Rattle.delaunay_shapes.specs.{corners}

-- the given are handles of the edges of a triangulation in state s that have a point in the shape,
-- each once
pub record FindsEdges {V D U F : Type 0} (place : V → Point) (s : State V D U F)
    (Shape : Fraction → Type 0) (given : List (Bor (Contents V D U F) × ℕ)) : Type 0 where
  pub mesh : Bor (Contents V D U F)
  pub state : state_of mesh.now ≡ s
  pub edges : GivesEdgesIn Shape place mesh given

-- the given are handles of the vertices of a triangulation in state s that are in the shape, each
-- once
pub record FindsVertices {V D U F : Type 0} (place : V → Point) (s : State V D U F)
    (Shape : Fraction → Type 0) (given : List (Bor (Contents V D U F) × ℕ)) : Type 0 where
  pub mesh : Bor (Contents V D U F)
  pub state : state_of mesh.now ≡ s
  pub vertices : GivesVerticesIn Shape place mesh given
