-- Squared distances from shapes.
use Rattle.std.specs.Prelude.{◌≡◌, ℤ, pos, ◌*ℤ◌, ◌≤ℤ◌, int_lt, if◌then◌else◌}
use Rattle.plane.specs.{Fraction, gap, Point, whole}
use Rattle.delaunay_shapes.specs.Tests.{is_reversed}

-- the number from low to high that is nearest to a
abbrev pub clamped : ℤ → ℤ → ℤ → ℤ
clamped low high a = if int_lt a low then low else (if int_lt high a then high else a)

-- the greatest number of 64 bits
abbrev pub farthest : ℤ
farthest = pos 9223372036854775807

-- the squared distance from the nearest point of the rectangle; the greatest number for a reversed
-- one
abbrev pub rectangle_distance : Point → Point → Point → ℤ
rectangle_distance lower upper p = if is_reversed lower upper then farthest else gap (whole p)
    (whole (record { x = clamped lower.x upper.x p.x; y = clamped lower.y upper.y p.y }))

-- d is the squared distance from p to the nearest point of a shape
pub record IsLeastDistance (Shape : Fraction → Type 0) (p : Point) (d : ℤ) : Type 0 where
  pub nearest : Fraction
  pub in_shape : Shape nearest
  pub far : gap (whole p) nearest ≡ d *ℤ (nearest.w *ℤ nearest.w)
  pub least : (r : Fraction) → Shape r → (d *ℤ (r.w *ℤ r.w)) ≤ℤ gap (whole p) r
