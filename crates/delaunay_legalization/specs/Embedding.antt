-- A mesh with tests that have its vertices as sites.
use Rattle.std.specs.Prelude.{map, All}
use Rattle.{half_edge_dcel.specs.Contents, plane.specs.Point}
use Rattle.delaunay_legalization.specs.{Shape.IsTriangulated, State.state_of}

-- what a contract sees of it
pub record Reading (V D U F P : Type 0) : Type 0 where
  pub dcel : Contents V D U F
  pub tests : P

-- the mesh is that of a triangulation whose vertices are sites of the tests
pub record IsEmbedding {V D U F P : Type 0} (place : V → Point) (IsSite : P → Point → Type 0)
    (c : Contents V D U F) (t : P) : Type 0 where
  pub kept : IsTriangulated place (state_of c)
  pub sites : All (IsSite t) (map place c.vertices)
