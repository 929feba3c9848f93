-- Triangulations as they are at first, and copies.
use Rattle.std.specs.Prelude.{◌≡◌, [], List, All}
use Rattle.std.specs.List.{AllZip}
use Rattle.{delaunay_legalization.specs.State.State, half_edge_links.specs.empty}

-- no vertex and no edge, and the outer face with data that are as they are at first
pub record IsEmptyState {V D U F : Type 0} (IsFirst : F → Type 0) (s : State V D U F) : Type 0 where
  pub vertices : s.vertices ≡ []
  pub mesh : s.mesh ≡ empty
  pub directed : s.directed ≡ []
  pub undirected : s.undirected ≡ []
  pub outer : IsFirst s.outer
  pub faces : s.faces ≡ []

-- whatever R relates to one of these values has the same image as the value
abbrev pub KeepsImage : {X Y : Type 0} → (X → X → Type 0) → (X → Y) → List X → Type 0
KeepsImage {X = X} R image xs = All (λ x. (y : X) → R x y → image y ≡ image x) xs

-- the same vertices, edges and faces, the data of each as these relations say of the former ones
pub record IsCopy {V D U F : Type 0} (RV : V → V → Type 0) (RD : D → D → Type 0)
    (RU : U → U → Type 0) (RF : F → F → Type 0) (old new : State V D U F) : Type 0 where
  pub mesh : new.mesh ≡ old.mesh
  pub vertices : AllZip RV old.vertices new.vertices
  pub directed : AllZip RD old.directed new.directed
  pub undirected : AllZip RU old.undirected new.undirected
  pub outer : RF old.outer new.outer
  pub faces : AllZip RF old.faces new.faces
