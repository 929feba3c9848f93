-- How a taut way grows by a point.
use Rattle.std.specs.Prelude.{◌≡◌, ◌+◌, ◌-◌, ◌<◌, ◌≤◌, ℕ, Bool, List, length}
use Rattle.plane.specs.{place, Point, Triangulation, whole}
use Rattle.plane_theorems.specs.{IsInSight}
use Rattle.delaunay_ways.specs.Ways.{IsTaut, point_at}

-- a taut way whose last point sees the next one
pub record CanGoOn (t : Triangulation) (free : ℕ → Bool) (points : List Point) (next : Point) :
    Type 0 where
  pub some : 0 < length points
  pub taut : IsTaut t free points
  pub seen : IsInSight t free (place points (length points - 1)) (whole next)

-- a taut way of the first points of another way, and then the next point
pub record GoesOn (t : Triangulation) (free : ℕ → Bool) (points : List Point) (next : Point)
    (points' : List Point) : Type 0 where
  pub several : 1 < length points'
  pub few : length points' ≤ length points + 1
  pub kept : (k : ℕ) → k + 1 < length points' → point_at points' k ≡ point_at points k
  pub ends : point_at points' (length points' - 1) ≡ next
  pub taut : IsTaut t free points'

-- the point before the last one sees the next one
pub record CanSkipLast (t : Triangulation) (free : ℕ → Bool) (points : List Point) (next : Point) :
    Type 0 where
  pub several : 1 < length points
  pub seen : IsInSight t free (place points (length points - 2)) (whole next)
