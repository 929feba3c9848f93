-- Edges and faces of a mesh by the points of its vertices, and where a further point is.
use Rattle.std.specs.Prelude.{◌≡◌, ◌≢◌, ℕ, ◌<◌, List, length}
use Rattle.plane.specs.{HasFace, InRange, InsideTriangle, IsEdge, IsFace, place, Point, TurnsLeft}
use Rattle.half_edge_links.specs.{face, face_edge, Mesh, next, origin, prev, rev, triangle_at}
use Rattle.{delaunay_legalization.specs.Drawn.drawn, plane.specs.whole, plane.specs.WithinSegment}
use Rattle.delaunay_legalization.specs.Known.{point_at}

-- p is at none of the points
pub record IsApart (points : List Point) (p : Point) : Type 0 where
  pub apart : (k : ℕ) → k < length points → ¬ (point_at points k ≡ p)

-- p is strictly within directed edge e
abbrev pub IsWithinEdge : List Point → Mesh → Point → ℕ → Type 0
IsWithinEdge points m p e =
    WithinSegment (place points (origin m e)) (place points (origin m (rev e))) (whole p)

-- p is strictly inside the triangle of the face on the left of directed edge e
abbrev pub IsInsideFaceOf : List Point → Mesh → Point → ℕ → Type 0
IsInsideFaceOf points m p e = let t = triangle_at m e in
    InsideTriangle (place points t.first) (place points t.second) (place points t.third) (whole p)

-- what is known of the ends of directed edge e
pub record IsMeshEdge (points : List Point) (m : Mesh) (e : ℕ) : Type 0 where
  pub within : e < length m.half_edges
  pub source : origin m e < length points
  pub source_in_range : InRange (point_at points (origin m e))
  pub target : origin m (rev e) < length points
  pub joined : IsEdge (drawn points m) (origin m e) (origin m (rev e))
  pub apart : point_at points (origin m e) ≢ point_at points (origin m (rev e))
  pub bare : face m e ≡ 0 → ¬ HasFace (drawn points m) (origin m e) (origin m (rev e))

-- what is known of the corners of inner face f
pub record IsMeshFace (points : List Point) (m : Mesh) (f : ℕ) : Type 0 where
  pub first : origin m (face_edge m f) < length points
  pub second : origin m (next m (face_edge m f)) < length points
  pub third : origin m (prev m (face_edge m f)) < length points
  pub listed : IsFace (drawn points m) (origin m (face_edge m f))
      (origin m (next m (face_edge m f))) (origin m (prev m (face_edge m f)))
  pub turning : TurnsLeft (place points (origin m (face_edge m f))) (place points
      (origin m (next m (face_edge m f)))) (place points (origin m (prev m (face_edge m f))))
