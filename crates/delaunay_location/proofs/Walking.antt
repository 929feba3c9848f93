-- Where a walk from face to face ends.
-- Lemmas: apart_elsewhere.
use Rattle.std.proofs.Common.{◌≡◌, ℕ, List, map, refl, sym, ap}
use Rattle.std.specs.Prelude.{pos, ◌*ℤ◌}
use Rattle.plane.specs.{IsLocation, IsSame, Location, on_vertex, Point, whole}
use Rattle.{plane_theorems.proofs.each_point_has_one_location, plane_theorems.specs.IsSameLocation}
use Rattle.delaunay_legalization.specs.{drawn, edges_of, faces_of, IsApart, IsTriangulated}
use Rattle.delaunay_legalization.specs.{outer_of, point_at}
use Rattle.{delaunay_legalization.proofs.own_edges, delaunay_legalization.specs.State.State}
use Rattle.delaunay_location.specs.{Locates, location_of, NoTriangulation, OnEdge, OnFace, OnVertex}
use Rattle.delaunay_location.specs.{OutsideOfConvexHull, PositionInTriangulation}

module _ {V D U F : Type 0} (at : V → Point) (s : State V D U F) (kept : IsTriangulated at s) where
  abbrev points : List Point
  points = map at s.vertices

  -- a position that is on no vertex by one answer is on none at all
  pub apart_elsewhere : (p : Point) (x : PositionInTriangulation) → Locates points s.mesh p x →
      ((v : ℕ) → ¬ (x ≡ OnVertex v)) → IsApart points p
  apart_elsewhere p x l other = record {
    apart = λ k h same.
        go k x other (one (location_of s.mesh x) (on_vertex k) l.location (h, there k same));
  }
    where
      one : (a b : Location) → IsLocation (drawn points s.mesh) (whole p) a →
          IsLocation (drawn points s.mesh) (whole p) b → IsSameLocation a b
      one = (each_point_has_one_location points (faces_of s.mesh) (outer_of s.mesh)
          (edges_of s.mesh) kept.shape
          (own_edges s.mesh kept.valid) (whole p)).1

      there : (k : ℕ) → point_at points k ≡ p → IsSame (whole p) (whole (point_at points k))
      there k same = let e : p ≡ point_at points k = sym same in
          record { x = ap (λ q. q.x *ℤ pos 1) e; y = ap (λ q. q.y *ℤ pos 1) e }

      go : (k : ℕ) (x : PositionInTriangulation) → ((v : ℕ) → ¬ (x ≡ OnVertex v)) →
          IsSameLocation (location_of s.mesh x) (on_vertex k) → ⊥
      go k (OnVertex v) other same = other v refl
      go k (OnEdge e) other same = absurd same
      go k (OnFace f) other same = absurd same
      go k (OutsideOfConvexHull e) other same = absurd same
      go k NoTriangulation other same = absurd same
