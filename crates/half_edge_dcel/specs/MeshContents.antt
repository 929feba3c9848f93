-- A mesh with data, as a contract sees it.
-- Contents: a mesh, the data of its vertices, edges and faces, and the room that it has
-- IsMeshWithData c: the mesh is valid, and there are data for each of its parts
-- FitsMesh m ..: the numbers of data are those of the parts of m
-- edges c: the undirected edges with their data, by index
-- Edge: the two ends of an undirected edge, and its data
-- edges_of, edge_with: edges put together of their ends and their data; one of them
-- HasRoom c v e f: so many more vertices, edges and faces fit without allocation
-- KeepsVertices old new: the data of vertices and of the outer face stay, and so does the room
use Rattle.std.specs.Prelude.{◌≡◌, ℕ, ◌+◌, ◌*◌, ◌≤◌, List, [], ◌∷◌, length}
use Rattle.half_edge_links.specs.{Ends, ends, IsValidMesh, Mesh}
use Rattle.half_edge_links.specs.Room.{Room}

-- a mesh, the data of its vertices, of its directed and undirected edges, of the outer face and of
-- the faces from face 1 on, and the room that it has
pub record Contents (V D U F : Type 0) : Type 0 where
  pub mesh : Mesh
  pub vertices : List V
  pub directed : List D
  pub undirected : List U
  pub outer : F
  pub faces : List F
  pub room : Room

-- there are data for each vertex, edge and face
pub record FitsMesh (m : Mesh) (vertices directed undirected faces : ℕ) : Type 0 where
  pub vertices_fit : vertices ≡ length m.out_edges
  pub directed_fit : directed ≡ length m.half_edges
  pub undirected_fit : 2 * undirected ≡ length m.half_edges
  pub faces_fit : faces ≡ length m.face_edges

-- what always holds of a mesh with data
pub record IsMeshWithData {V D U F : Type 0} (c : Contents V D U F) : Type 0 where
  pub valid : IsValidMesh c.mesh
  pub fits :
      FitsMesh c.mesh (length c.vertices) (length c.directed) (length c.undirected) (length c.faces)

-- so many more vertices, undirected edges and inner faces fit with no allocation
pub record HasRoom {V D U F : Type 0} (c : Contents V D U F)
    (vertices edges faces : ℕ) : Type 0 where
  pub vertices_fit : length c.vertices + vertices ≤ c.room.vertices
  pub edges_fit : 2 * (length c.undirected + edges) ≤ c.room.edges
  pub faces_fit : length c.faces + faces ≤ c.room.faces

-- the data of vertices and of the outer face, and the room, stay; links and the data of edges and
-- inner faces may change
abbrev pub KeepsVertices : {V D U F : Type 0} → Contents V D U F → Contents V D U F → Type 0
KeepsVertices old new = new ≡ record old
    { mesh = new.mesh; directed = new.directed; undirected = new.undirected; faces = new.faces }

-- an undirected edge: the vertices that it joins, in the order of its even directed edge, and its
-- data
pub record Edge (U : Type 0) : Type 0 where
  pub source : ℕ
  pub target : ℕ
  pub value : U

-- the edge with these ends and this data
abbrev pub edge_with : {U : Type 0} → Ends → U → Edge U
edge_with e u = record { source = e.source; target = e.target; value = u }

-- edges of their ends and their data
abbrev pub edges_of : {U : Type 0} → List Ends → List U → List (Edge U)
edges_of [] us = []
edges_of (e ∷ es) [] = []
edges_of (e ∷ es) (u ∷ us) = edge_with e u ∷ edges_of es us

-- the undirected edges with their data, by rising index
abbrev pub edges : {V D U F : Type 0} → Contents V D U F → List (Edge U)
edges c = edges_of (ends c.mesh) c.undirected
