-- What always holds of the positions of the vertices and of the mesh of their indexes.
-- IsTriangulated place s: what holds of a triangulation through each change: positions in range,
--   few enough edges and faces, a valid mesh with its data, and `IsMesh`
-- IsDelaunayTriangulation place cs s: what also holds between edits: each edge passes the circle
--   test, but perhaps constraints
use Rattle.std.specs.Prelude.{◌*◌, ◌≤◌, ℕ, List, length, map, All}
use Rattle.plane.specs.{InRange, IsLocallyDelaunay, Point}
use Rattle.plane_theorems.specs.{IsMesh}
use Rattle.{half_edge_dcel.specs.FitsMesh, half_edge_links.specs.IsValidMesh}
use Rattle.delaunay_legalization.specs.{Constraints.constraints_by, Drawn.faces_of, Drawn.outer_of}
use Rattle.delaunay_legalization.specs.State.{State, triangulation_of}

-- what a triangulation keeps through each change
pub record IsTriangulated {V D U F : Type 0} (place : V → Point) (s : State V D U F) : Type 0 where
  pub in_range : All (λ v. InRange (place v)) s.vertices
  pub few_edges : length s.undirected ≤ 3 * length s.vertices
  pub few_faces : length s.faces ≤ 2 * length s.vertices
  pub valid : IsValidMesh s.mesh
  pub fits :
      FitsMesh s.mesh (length s.vertices) (length s.directed) (length s.undirected) (length s.faces)
  pub shape : IsMesh (map place s.vertices) (faces_of s.mesh) (outer_of s.mesh)

-- and what holds of it between edits: each edge between two faces that is no constraint passes the
-- circle test
pub record IsDelaunayTriangulation {V D U F : Type 0} (place : V → Point)
    (constraints : List U → List ℕ) (s : State V D U F) : Type 0 where
  pub kept : IsTriangulated place s
  pub passing : IsLocallyDelaunay (triangulation_of place s) (constraints_by constraints s)
