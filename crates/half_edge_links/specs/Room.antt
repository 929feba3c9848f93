-- How many vertices, edges and faces fit in a mesh with no allocation.
use Rattle.std.specs.Prelude.{ℕ, ◌+◌, ◌*◌, ◌≤◌, List, length}
use Rattle.half_edge_links.specs.{declared.room.TheConstants.MAX_ELEMENTS, Meshes.Mesh}

-- how many vertices, directed edges and inner faces fit with no allocation
pub record Room : Type 0 where
  pub vertices : ℕ
  pub edges : ℕ
  pub faces : ℕ

-- a mesh, the data of its vertices, and the room that it has
pub record Held (V : Type 0) : Type 0 where
  pub mesh : Mesh
  pub values : List V
  pub room : Room

-- so many more vertices, directed edges or faces fit with no allocation
abbrev pub HasVertexRoom : Mesh → Room → ℕ → Type 0
HasVertexRoom m room more = length m.out_edges + more ≤ room.vertices

-- so many more directed edges fit with no allocation
abbrev pub HasEdgeRoom : Mesh → Room → ℕ → Type 0
HasEdgeRoom m room more = length m.half_edges + more ≤ room.edges

-- so many more inner faces fit with no allocation
abbrev pub HasFaceRoom : Mesh → Room → ℕ → Type 0
HasFaceRoom m room more = length m.face_edges + more ≤ room.faces

-- so many vertices, undirected edges and faces, the outer one among them, are not too many
pub record AreFewEnough (vertices edges faces : ℕ) : Type 0 where
  pub vertices_fit : vertices ≤ MAX_ELEMENTS
  pub edges_fit : 2 * edges ≤ MAX_ELEMENTS
  pub faces_fit : faces ≤ MAX_ELEMENTS

-- there is room for these totals
pub record HasRoomFor (room : Room) (vertices edges faces : ℕ) : Type 0 where
  pub vertices_fit : vertices ≤ room.vertices
  pub edges_fit : 2 * edges ≤ room.edges
  pub faces_fit : faces ≤ room.faces + 1

-- no room is lost
pub record KeepsRoom (old new : Room) : Type 0 where
  pub vertices : old.vertices ≤ new.vertices
  pub edges : old.edges ≤ new.edges
  pub faces : old.faces ≤ new.faces
