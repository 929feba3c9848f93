-- On which side of a line a point lies.
-- Side: left of the line, right of it, or on it
-- side u v p: the side of the line from u to v on which p lies
-- TurnsLeft u v p: p is on the left of the line from u to v
-- run, rise: the difference of two points in x and in y, times both denominators
-- opposite: left and right exchanged
-- IsSide f: what a function has to meet to be the side of the plane; `side` is the one that does
use Rattle.std.specs.Prelude.{◌≡◌, ◌↔◌, ℤ, pos, ◌*ℤ◌, ◌-ℤ◌, int_lt, if◌then◌else◌}
use Rattle.plane.specs.Fractions.{Fraction, OnLine, OnSegment, whole}

-- where a third point is: left or right of the line through the first two, or on it
pub data Side : Type 0 where
  left : Side
  right : Side
  on : Side

-- the vector from p to q in each coordinate, times both denominators
abbrev pub run : Fraction → Fraction → ℤ
run p q = q.x *ℤ p.w -ℤ p.x *ℤ q.w

-- the vector from p to q in y, times both denominators
abbrev pub rise : Fraction → Fraction → ℤ
rise p q = q.y *ℤ p.w -ℤ p.y *ℤ q.w

-- left where a is above b, right where it is below, on where they are equal
abbrev pub compared : ℤ → ℤ → Side
compared a b = if int_lt b a then left else (if int_lt a b then right else on)

-- the side of p: two products of differences, compared
unfoldable pub side : Fraction → Fraction → Fraction → Side
side u v p = compared (run u v *ℤ rise u p) (rise u v *ℤ run u p)

-- left and right change places
abbrev pub opposite : Side → Side
opposite left = right
opposite right = left
opposite on = on

-- what makes a function the side of the plane
pub record IsSide (f : Fraction → Fraction → Fraction → Side) : Type 0 where
  -- two equal points are on a line with any third, by `OnLine`
  pub line : (u v p : Fraction) → (f u v p ≡ on) ↔ OnLine u v p
  -- and so u and v differ here
  pub parted : (u v p q : Fraction) → ¬ OnLine u v p → ¬ OnLine u v q → (f u v p ≡ f u v q)
      ↔ ((r : Fraction) → OnSegment p q r → ¬ OnLine u v r)
  pub turned : (u v p : Fraction) → f v p u ≡ f u v p
  pub swapped : (u v p : Fraction) → f v u p ≡ opposite (f u v p)
  pub first : f (whole (record { x = pos 0; y = pos 0 })) (whole (record { x = pos 1; y = pos 0 }))
      (whole (record { x = pos 0; y = pos 1 })) ≡ left

-- the third point is on the left of the line through the first two
abbrev pub TurnsLeft : Fraction → Fraction → Fraction → Type 0
TurnsLeft u v p = side u v p ≡ left
