-- What calls that grow a mesh beside the outer face ask for, and what they do to it.
use Rattle.std.specs.Prelude.{◌≡◌, ◌≢◌, ℕ, ◌+◌, ◌<◌, [], length}
use Rattle.half_edge_links.specs.Grow.{AddsFace, Closes, edge_into, HalfSplits, Hangs, SplitsLine}
use Rattle.half_edge_links.specs.{Hull.KeepsOneOutline, Triangles.triangles}
use Rattle.half_edge_links.specs.Meshes.{IsValidMesh, Mesh, next, origin, rev}
use Rattle.half_edge_links.specs.Outline.{AddsEdge, AddsTriangle, AddsTwoEdges, ClosesOuter}
use Rattle.half_edge_links.specs.Outline.{ExtendsOuter, HalfSplitsEnds, HalfSplitsTriangles}
use Rattle.half_edge_links.specs.Outline.{HangsOuter, ReplacesOuter, SplitsLineEnds, SplitsOuter}
use Rattle.half_edge_links.specs.Room.{HasEdgeRoom, HasFaceRoom, Room}

-- so many more directed edges and inner faces fit with no allocation
pub record HasEdgeAndFaceRoom (m : Mesh) (room : Room) (edges faces : ℕ) : Type 0 where
  pub edges_fit : HasEdgeRoom m room edges
  pub faces_fit : HasFaceRoom m room faces

-- two vertices of a mesh without edges
pub record AreConnectable (m : Mesh) (a b : ℕ) : Type 0 where
  pub no_edges : m.half_edges ≡ []
  pub from : a < length m.out_edges
  pub to : b < length m.out_edges
  pub apart : a ≢ b

-- an edge from the end of outer edge x to vertex v: its links and ends, the faces and the outer
-- edges
pub record HangsEdge (old new : Mesh) (x v : ℕ) : Type 0 where
  pub links : Hangs old new x v (length old.half_edges)
  pub ends : AddsEdge old new (origin old (rev x)) v
  pub corners : triangles new ≡ triangles old
  pub outer : HangsOuter old new x v (length old.half_edges)
  pub outline : KeepsOneOutline old new

-- a new face of outer edge e, the next one and a new edge: the links and ends of the edge, the
-- corners of the face and the outer edges
pub record ClosesCorner (old new : Mesh) (e : ℕ) : Type 0 where
  pub links : Closes old new e (length old.half_edges) (length old.face_edges)
  pub ends : AddsEdge old new (origin old (rev (next old e))) (origin old e)
  pub corners :
      AddsTriangle old new (origin old e) (origin old (next old e)) (origin old (rev (next old e)))
  pub outer : ClosesOuter old new e (length old.half_edges)
  pub outline : KeepsOneOutline old new

-- a new face of outer edge e and vertex v: the links and ends of its two new edges, its corners and
-- the outer edges
pub record AddsFaceBeside (old new : Mesh) (e v : ℕ) : Type 0 where
  pub links : AddsFace old new e v (length old.half_edges) (length old.face_edges)
  pub ends : AddsTwoEdges old new (origin old (rev e)) v v (origin old e)
  pub corners : AddsTriangle old new (origin old e) (origin old (rev e)) v
  pub outer : ReplacesOuter old new e v (length old.half_edges + 3) (length old.half_edges + 1)
  pub outline : KeepsOneOutline old new

-- edge e, with the outer face on its right, is split at vertex v: the links and ends of the edges,
-- the corners of the faces and the outer edges
pub record SplitsHalfEdge (old new : Mesh) (e v : ℕ) : Type 0 where
  pub valid : IsValidMesh new
  pub links : HalfSplits old new e v (length old.half_edges) (length old.face_edges)
  pub ends : HalfSplitsEnds old new e v
  pub corners : HalfSplitsTriangles old new v e
  pub outer :
      ReplacesOuter old new (rev e) v (length old.half_edges + 3) (length old.half_edges + 1)
  pub outline : KeepsOneOutline old new

-- an edge from vertex u of a line to vertex v: its links and ends, and the outer edges
pub record ExtendsLine (old new : Mesh) (u v : ℕ) : Type 0 where
  pub links : Hangs old new (edge_into old u) v (length old.half_edges)
  pub ends : AddsEdge old new u v
  pub outer : ExtendsOuter old new u v (length old.half_edges)
  pub outline : KeepsOneOutline old new

-- edge e of a line is split at vertex v: the links and ends of the edges, and the outer edges
pub record SplitsLineEdge (old new : Mesh) (e v : ℕ) : Type 0 where
  pub valid : IsValidMesh new
  pub links : SplitsLine old new e v (length old.half_edges)
  pub ends : SplitsLineEnds old new e v
  pub outer : SplitsOuter old new e v (length old.half_edges)
  pub outline : KeepsOneOutline old new
