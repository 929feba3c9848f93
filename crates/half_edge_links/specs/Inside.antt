-- What calls do that change a mesh inside the outer loop.
use Rattle.std.specs.Prelude.{ℕ, length}
use Rattle.half_edge_links.specs.{Flip.Flips, Hull.KeepsOneOutline, Insert.Inserts}
use Rattle.half_edge_links.specs.Meshes.{face, IsValidMesh, Mesh, origin, prev, rev}
use Rattle.half_edge_links.specs.Outline.{InsertsEnds, KeepsOuter, MovesEdge, SplitsEnds}
use Rattle.half_edge_links.specs.Triangles.{FlipsTriangles, InsertsTriangles, SplitsTriangles}

-- edge e is turned: the links, the ends of the edge, the corners of its two faces and the outer
-- edges
pub record FlipsEdge (old new : Mesh) (e : ℕ) : Type 0 where
  pub links : Flips old new e
  pub ends : MovesEdge old new e (origin old (prev old e)) (origin old (prev old (rev e)))
  pub corners : FlipsTriangles old new e
  pub outer : KeepsOuter old new
  pub outline : KeepsOneOutline old new

-- vertex v is put into the face on the left of edge a: the links, the ends of the new edges, the
-- corners of the three faces and the outer edges
pub record InsertsBeside (old new : Mesh) (v a : ℕ) : Type 0 where
  pub valid : IsValidMesh new
  pub links : Inserts old new v (face old a) a (length old.half_edges) (length old.face_edges)
  pub ends : InsertsEnds old new v a
  pub corners : InsertsTriangles old new v a
  pub outer : KeepsOuter old new
  pub outline : KeepsOneOutline old new

-- edge e, between two inner faces, is split at vertex v: the ends of the edges, the corners of the
-- four faces and the outer edges
pub record SplitsInnerEdge (old new : Mesh) (v e : ℕ) : Type 0 where
  pub valid : IsValidMesh new
  pub ends : SplitsEnds old new e v
  pub corners : SplitsTriangles old new v e
  pub outer : KeepsOuter old new
  pub outline : KeepsOneOutline old new
