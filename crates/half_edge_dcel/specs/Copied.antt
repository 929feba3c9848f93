-- A copy of a mesh with data.
use Rattle.std.specs.Prelude.{◌≡◌}
use Rattle.std.specs.List.{AllZip}
use Rattle.half_edge_dcel.specs.MeshContents.{Contents, HasRoom}

-- the same vertices, edges and faces, the data of each as these relations say of the former ones,
-- and room for all
pub record IsCopied {V D U F : Type 0} (RV : V → V → Type 0) (RD : D → D → Type 0)
    (RU : U → U → Type 0) (RF : F → F → Type 0) (old new : Contents V D U F) : Type 0 where
  pub mesh : new.mesh ≡ old.mesh
  pub vertices : AllZip RV old.vertices new.vertices
  pub directed : AllZip RD old.directed new.directed
  pub undirected : AllZip RU old.undirected new.undirected
  pub outer : RF old.outer new.outer
  pub faces : AllZip RF old.faces new.faces
  pub room : HasRoom new 0 0 0
