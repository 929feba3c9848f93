-- What an answer to a location says: vertices in place of handles.
use Rattle.std.specs.Prelude.{◌≡◌, ℕ, ℤ, ◌<◌, ◌≤◌, ◌≤ℤ◌, List, length, map, Option, Some, None}
use Rattle.plane.specs.{gap, IsLocation, Location, no_triangulation, on_edge, on_face, on_vertex}
use Rattle.plane.specs.{outside_hull, place, Point, TurnsLeft, whole}
use Rattle.half_edge_links.specs.{face, face_edge, IsInner, Mesh, origin, rev, triangle_at}
use Rattle.delaunay_core.specs.{place_of, Point2}
use Rattle.delaunay_legalization.specs.{drawn, IsApart, IsInsideFaceOf, IsWithinEdge, Reading}
use Rattle.delaunay_location.specs.declared.position_in_triangulation.PositionInTriangulation.{PositionInTriangulation}
use Rattle.delaunay_location.specs.declared.position_in_triangulation.PositionInTriangulation.TheVariants.{NoTriangulation}
use Rattle.delaunay_location.specs.declared.position_in_triangulation.PositionInTriangulation.TheVariants.{OnEdge}
use Rattle.delaunay_location.specs.declared.position_in_triangulation.PositionInTriangulation.TheVariants.{OnFace}
use Rattle.delaunay_location.specs.declared.position_in_triangulation.PositionInTriangulation.TheVariants.{OnVertex}
use Rattle.delaunay_location.specs.declared.position_in_triangulation.PositionInTriangulation.TheVariants.{OutsideOfConvexHull}

-- the location that an answer says, by the vertices of the part that it names
abbrev pub location_of : Mesh → PositionInTriangulation → Location
location_of m (OnVertex v) = on_vertex v
location_of m (OnEdge e) = on_edge (origin m e) (origin m (rev e))
location_of m (OnFace f) = let t = triangle_at m (face_edge m f) in on_face t.first t.second t.third
location_of m (OutsideOfConvexHull e) = outside_hull (origin m e) (origin m (rev e))
location_of m NoTriangulation = no_triangulation

-- the handle is one of the mesh, and the edge of an outside position has the outer face on its left
abbrev pub HasHandle : Mesh → PositionInTriangulation → Type 0
HasHandle m (OnVertex v) = v < length m.out_edges
HasHandle m (OnEdge e) = e < length m.half_edges
HasHandle m (OnFace f) = IsInner m f
HasHandle m (OutsideOfConvexHull e) = (e < length m.half_edges) × (face m e ≡ 0)
HasHandle m NoTriangulation = Unit {0}

-- the answer is where p is
pub record Locates (points : List Point) (m : Mesh) (p : Point)
    (answer : PositionInTriangulation) : Type 0 where
  pub handle : HasHandle m answer
  pub location : IsLocation (drawn points m) (whole p) (location_of m answer)

-- directed edge e has the outer face on its left, and p strictly on its left
abbrev IsLeftOfEdge : List Point → Mesh → Point → ℕ → Type 0
IsLeftOfEdge points m p e =
    (face m e ≡ 0)
    × TurnsLeft (place points (origin m e)) (place points (origin m (rev e))) (whole p)

-- p is neither
pub record IsClearOfEdge (points : List Point) (m : Mesh) (p : Point) (e : ℕ) : Type 0 where
  pub not_within : ¬ IsWithinEdge points m p e
  pub not_left : ¬ IsLeftOfEdge points m p e

-- none of the first n directed edges starts nearer to p than e does
pub record StartsNearest (points : List Point) (m : Mesh) (p : Point) (n e : ℕ) : Type 0 where
  pub within : e < length m.half_edges
  pub nearest : (h : ℕ) → h < n →
      gap (whole p) (place points (origin m e)) ≤ℤ gap (whole p) (place points (origin m h))

-- the same of a position in a mesh with its points
module _ {V D U F P S : Type 0} (at : V → Point) (number : S → ℤ) (s : Reading V D U F P)
    (point : Point2 S) where
  -- the answer is where the position is
  abbrev pub IsPlaceOf : PositionInTriangulation → Type 0
  IsPlaceOf = Locates (map at s.dcel.vertices) s.dcel.mesh (place_of number point)

  -- no vertex has it
  abbrev pub IsAtNoVertex : Type 0
  IsAtNoVertex = IsApart (map at s.dcel.vertices) (place_of number point)

  -- it is neither within directed edge e nor outside and on the left of e
  abbrev pub IsClear : ℕ → Type 0
  IsClear = IsClearOfEdge (map at s.dcel.vertices) s.dcel.mesh (place_of number point)

  -- the answer is where it is, or it is clear of each directed edge
  abbrev pub IsPlaceAtEdge : Option PositionInTriangulation → Type 0
  IsPlaceAtEdge (Some answer) = IsPlaceOf answer
  IsPlaceAtEdge None = (e : ℕ) → e < length s.dcel.directed → IsClear e

  -- it is strictly inside inner face f
  abbrev pub IsInFace : ℕ → Type 0
  IsInFace f =
      let m = s.dcel.mesh in
      IsInsideFaceOf (map at s.dcel.vertices) m (place_of number point) (face_edge m f)

  -- it is strictly inside this inner face, or inside none
  abbrev pub IsFaceAround : Option ℕ → Type 0
  IsFaceAround (Some f) = (0 < f) × (f ≤ length s.dcel.faces) × IsInFace f
  IsFaceAround None = (f : ℕ) → 0 < f → f ≤ length s.dcel.faces → ¬ IsInFace f
