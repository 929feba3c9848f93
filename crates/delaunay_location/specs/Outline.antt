-- A walk along the outline of a mesh from outside, towards the line of a segment.
use Rattle.std.specs.Prelude.{◌≡◌, ◌≢◌, ℕ, ◌<◌, List, length, map, Option, MatchOption}
use Rattle.plane.specs.{left, place, Point, right, side, whole}
use Rattle.half_edge_links.specs.{face, Mesh, next, origin, prev, rev}
use Rattle.{delaunay_location.specs.Steps.IsLeftOf, half_edge_dcel.specs.Contents}

-- directed edge h has the outer face on its left, and p strictly on its left
pub record IsSeenOuter {V D U F : Type 0} (at : V → Point) (c : Contents V D U F) (p : Point)
    (h : ℕ) : Type 0 where
  pub within : h < length c.directed
  pub outer : face c.mesh h ≡ 0
  pub seen : IsLeftOf (map at c.vertices) c.mesh p h

-- directed edge h, where p is strictly on its left
abbrev pub IsIfSeen : List Point → Mesh → Point → ℕ → Option ℕ → Type 0
IsIfSeen points m p h r =
    MatchOption r (¬ IsLeftOf points m p h) (λ e. (e ≡ h) × IsLeftOf points m p h)

-- where directed edge h ends on the right of the segment from p to q, p is not on the left of the
-- edge after it, and else, where it starts on its left, not of the edge before it
pub record IsTurningPoint {V D U F : Type 0} (at : V → Point) (c : Contents V D U F) (p q : Point)
    (h : ℕ) : Type 0 where
  pub after : side (whole p) (whole q) (place (map at c.vertices) (origin c.mesh (rev h))) ≡ right
      → ¬ IsLeftOf (map at c.vertices) c.mesh p (next c.mesh h)
  pub before : side (whole p) (whole q) (place (map at c.vertices) (origin c.mesh (rev h))) ≢ right
      → side (whole p) (whole q) (place (map at c.vertices) (origin c.mesh h)) ≡ left
      → ¬ IsLeftOf (map at c.vertices) c.mesh p (prev c.mesh h)
