-- What calls that grow a mesh do to its links, the corners of its faces and its outer edges; each
-- vertex v is new.
use Rattle.std.specs.Prelude.{◌≡◌, ℕ, ◌+◌, ◌⊎◌, []}
use Rattle.half_edge_links.specs.{AddsTriangle, closed, ClosesOuter, connected, edge_into, flipped}
use Rattle.half_edge_links.specs.{HalfSplitsTriangles, HasOneOutline, hung, inserted}
use Rattle.half_edge_links.specs.{InsertsTriangles, IsThis, KeepsOneOutline, KeepsOuter, Mesh, next}
use Rattle.half_edge_links.specs.{origin, OuterChanges, ReplacesOuter, rev, SplitsOuter}
use Rattle.half_edge_links.specs.{Outline.ExtendsOuter, SplitsTriangles, triangles, with_vertex}
use Rattle.half_edge_links.specs.Grow.{half_split, line_split, with_face_beside}

-- vertex v is put into the face on the left of edge e
pub record InsertsInFace (old new : Mesh) (v e : ℕ) : Type 0 where
  pub mesh : new ≡ inserted (with_vertex old) v e
  pub triangles : InsertsTriangles old new v e
  pub outer : KeepsOuter old new
  pub outline : KeepsOneOutline old new

-- edge e, between two inner faces, is split at vertex v
pub record SplitsBetweenFaces (old new : Mesh) (v e : ℕ) : Type 0 where
  pub mesh : new ≡ flipped (inserted (with_vertex old) v e) e
  pub triangles : SplitsTriangles old new v e
  pub outer : KeepsOuter old new
  pub outline : KeepsOneOutline old new

-- a new face of outer edge e and vertex v, in a mesh of n directed edges
pub record AddsFaceTo (old new : Mesh) (n v e : ℕ) : Type 0 where
  pub mesh : new ≡ with_face_beside (with_vertex old) e v
  pub triangles : AddsTriangle old new (origin old e) (origin old (rev e)) v
  pub outer : ReplacesOuter old new e v (n + 3) (n + 1)
  pub outline : KeepsOneOutline old new

-- a new face of outer edge e, the one after it and a new edge, in a mesh of n directed edges
pub record ClosesTriangle (old new : Mesh) (n e : ℕ) : Type 0 where
  pub mesh : new ≡ closed old e
  pub triangles :
      AddsTriangle old new (origin old e) (origin old (next old e)) (origin old (rev (next old e)))
  pub outer : ClosesOuter old new e n
  pub outline : KeepsOneOutline old new

-- edge e, with the outer face on its right, is split at vertex v, in a mesh of n directed edges
pub record SplitsBesideOuter (old new : Mesh) (n v e : ℕ) : Type 0 where
  pub mesh : new ≡ half_split (with_vertex old) e v
  pub triangles : HalfSplitsTriangles old new v e
  pub outer : ReplacesOuter old new (rev e) v (n + 3) (n + 1)
  pub outline : KeepsOneOutline old new

-- vertices a and b of a mesh without edges are joined
pub record JoinsFirst (old new : Mesh) (a b : ℕ) : Type 0 where
  pub mesh : new ≡ connected old a b
  pub triangles : triangles new ≡ []
  pub outer : OuterChanges old new (λ h. ⊥) (λ h u w. IsThis 0 a b h u w ⊎ IsThis 1 b a h u w)
  pub outline : HasOneOutline new

-- vertex u of a line is joined to vertex v, in a mesh of n directed edges
pub record ExtendsLineTo (old new : Mesh) (n u v : ℕ) : Type 0 where
  pub mesh : new ≡ hung (with_vertex old) (edge_into old u) v
  pub triangles : triangles new ≡ []
  pub outer : ExtendsOuter old new u v n
  pub outline : KeepsOneOutline old new

-- edge e of a line is split at vertex v, in a mesh of n directed edges
pub record SplitsOnLine (old new : Mesh) (n v e : ℕ) : Type 0 where
  pub mesh : new ≡ line_split (with_vertex old) e v
  pub triangles : triangles new ≡ []
  pub outer : SplitsOuter old new e v n
  pub outline : KeepsOneOutline old new
