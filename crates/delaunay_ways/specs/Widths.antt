-- Faces that are wide enough.
use Rattle.std.specs.Prelude.{◌↔◌, ◌<◌, ◌*ℤ◌, ◌≤ℤ◌, ℕ, ℤ, Bool, IsTrue, length}
use Rattle.plane.specs.{gap, Point, Triangulation, turn_at, whole}
use Rattle.{delaunay_ways.specs.Ways.point_at, plane_theorems.specs.face_at}

-- p is as far as the root of width_2 from the line through u and v, or farther: the square of twice
-- the area of a triangle is that of a side times that of its height
pub record IsAway (width_2 : ℤ) (u v p : Point) : Type 0 where
  pub away : (width_2 *ℤ gap (whole u) (whole v)) ≤ℤ (turn_at u v p *ℤ turn_at u v p)

-- each height of the triangle of three points is as long as the root of width_2, or longer
pub record IsWideTriangle (width_2 : ℤ) (a b c : Point) : Type 0 where
  pub first : IsAway width_2 a b c
  pub second : IsAway width_2 b c a
  pub third : IsAway width_2 c a b

-- so is each height of the n-th inner face
abbrev pub IsWide : Triangulation → ℤ → ℕ → Type 0
IsWide t width_2 n = IsWideTriangle width_2 (point_at t.points (face_at t n).a)
    (point_at t.points (face_at t n).b) (point_at t.points (face_at t n).c)

-- the wide ones of the free faces
pub record AreWide (t : Triangulation) (free : ℕ → Bool) (width_2 : ℤ) (wide : ℕ → Bool) : Type 0
  where
    pub told : (n : ℕ) → IsTrue (wide n)
        ↔ ((n < length t.faces) × IsTrue (free n) × IsWide t width_2 n)
