-- A position in another place than on a vertex is at none.
-- Lemmas: here_if_on_vertex, unknown_elsewhere.
use Rattle.std.proofs.Common.{◌≡◌, ℕ, ◌<◌, length, map, refl, arith}
use Rattle.std.proofs.lemmas.List.{length-map}
use Rattle.plane.specs.{IsLocation, Location, no_triangulation, on_vertex, Point, whole}
use Rattle.{plane_theorems.proofs.each_point_has_one_location, plane_theorems.specs.IsSameLocation}
use Rattle.delaunay_legalization.specs.{edges_of, faces_of, IsKnown, IsTriangulated, outer_of}
use Rattle.delaunay_legalization.specs.{point_at, State.State, triangulation_of}
use Rattle.delaunay_legalization.proofs.{own_edges}
use Rattle.delaunay_location.specs.{location_of, NoTriangulation, OnEdge, OnFace, OnVertex}
use Rattle.delaunay_location.specs.{OutsideOfConvexHull, PositionInTriangulation}
use Rattle.delaunay_location.proofs.Locating.{at_vertex, same_point}

module _ {V D U F : Type 0} (at : V → Point) (s : State V D U F) (p : Point) where
  -- a position that is located on a vertex is where this vertex is
  pub here_if_on_vertex : (v : ℕ) → IsLocation (triangulation_of at s) (whole p) (on_vertex v)
      → (v < length s.vertices) × (point_at (map at s.vertices) v ≡ p)
  here_if_on_vertex v h = let below = h.0 in (
    omega (arith, below, length-map s.vertices at),
    same_point p (point_at (map at s.vertices) v) h.1,
  )

module _ {V D U F : Type 0} (at : V → Point) (s : State V D U F) (kept : IsTriangulated at s)
    (p : Point) where
  one_location : (l m : Location) → IsLocation (triangulation_of at s) (whole p) l
      → IsLocation (triangulation_of at s) (whole p) m → IsSameLocation l m
  one_location = (each_point_has_one_location (map at s.vertices) (faces_of s.mesh)
      (outer_of s.mesh) (edges_of s.mesh) kept.shape (own_edges s.mesh kept.valid) (whole p)).1

  at_known : (k : IsKnown (map at s.vertices) p)
      → IsLocation (triangulation_of at s) (whole p) (on_vertex k.index)
  at_known k = let below = k.below in (at_vertex at s kept p k.index
      (omega (arith, below, length-map s.vertices at)) k.here).location

  -- a position that is located, but on no vertex, is where no vertex is
  pub unknown_elsewhere : (answer : PositionInTriangulation)
      → IsLocation (triangulation_of at s) (whole p) (location_of s.mesh answer)
      → ((v : ℕ) → ¬ (answer ≡ OnVertex v)) → ¬ IsKnown (map at s.vertices) p
  unknown_elsewhere (OnVertex v) there other k = other v refl
  unknown_elsewhere (OnEdge e) there other k =
      one_location (on_vertex k.index) (location_of s.mesh (OnEdge e)) (at_known k) there
  unknown_elsewhere (OnFace f) there other k =
      one_location (on_vertex k.index) (location_of s.mesh (OnFace f)) (at_known k) there
  unknown_elsewhere (OutsideOfConvexHull e) there other k = one_location (on_vertex k.index)
      (location_of s.mesh (OutsideOfConvexHull e)) (at_known k) there
  unknown_elsewhere NoTriangulation there other k =
      one_location (on_vertex k.index) no_triangulation (at_known k) there
