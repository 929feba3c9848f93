-- A point strictly between two others, by its coordinates.
use Rattle.std.specs.Prelude.{◌⊎◌, ℤ, ◌≤ℤ◌}
use Rattle.plane.specs.{Point}

-- c is between a and b or equal to one of them
abbrev pub IsFrom : ℤ → ℤ → ℤ → Type 0
IsFrom a b c = ((a ≤ℤ c) × (c ≤ℤ b)) ⊎ ((b ≤ℤ c) × (c ≤ℤ a))

-- p is in the rectangle whose opposite corners are u and v
pub record IsInBox (u v p : Point) : Type 0 where
  pub x : IsFrom u.x v.x p.x
  pub y : IsFrom u.y v.y p.y
