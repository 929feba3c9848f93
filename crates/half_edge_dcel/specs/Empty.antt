-- A mesh as it is at first.
use Rattle.std.specs.Prelude.{◌≡◌, []}
use Rattle.{half_edge_dcel.specs.MeshContents.Contents, half_edge_links.specs.empty}

-- no vertex and no edge, and the outer face with data that are as they are at first
pub record IsEmptyMesh {V D U F : Type 0} (IsFirst : F → Type 0)
    (c : Contents V D U F) : Type 0 where
  pub mesh : c.mesh ≡ empty
  pub vertices : c.vertices ≡ []
  pub directed : c.directed ≡ []
  pub undirected : c.undirected ≡ []
  pub outer : IsFirst c.outer
  pub faces : c.faces ≡ []
