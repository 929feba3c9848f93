-- Whether the closed disk of a circle stays within some sides.
use Rattle.std.specs.Prelude.{◌≡◌, ◌⊎◌, ◌↔◌, ℤ, pos, Bool, true, false, Option, Some, IsSomeAnd}
use Rattle.std.specs.Prelude.{◌+ℤ◌, ◌*ℤ◌, ◌<ℤ◌, ◌≤ℤ◌, IsTrue, MatchOption}
use Rattle.plane.specs.{Fraction, IsCentre, IsNearer, Point, whole}
use Rattle.exact_predicates.specs.declared.disks.Sides.{Sides}

-- the point of the line x = n, and of the line y = n, that is nearest to c
abbrev pub upright : Fraction → ℤ → Fraction
upright c n = record { x = n *ℤ c.w; y = c.y; w = c.w; positive = c.positive }

abbrev pub level : Fraction → ℤ → Fraction
level c n = record { x = c.x; y = n *ℤ c.w; w = c.w; positive = c.positive }

-- the disk about c with u on its circle passes a side: c is beyond it, or the point of the side's
-- line that is nearest to c is nearer than u
abbrev pub PassesLeft : Fraction → Point → ℤ → Type 0
PassesLeft c u n = (c.x <ℤ (n *ℤ c.w)) ⊎ IsNearer c (upright c n) (whole u)

abbrev pub PassesRight : Fraction → Point → ℤ → Type 0
PassesRight c u n = ((n *ℤ c.w) <ℤ c.x) ⊎ IsNearer c (upright c n) (whole u)

abbrev pub PassesBottom : Fraction → Point → ℤ → Type 0
PassesBottom c u n = (c.y <ℤ (n *ℤ c.w)) ⊎ IsNearer c (level c n) (whole u)

abbrev pub PassesTop : Fraction → Point → ℤ → Type 0
PassesTop c u n = ((n *ℤ c.w) <ℤ c.y) ⊎ IsNearer c (level c n) (whole u)

-- it passes one of the sides that are there
abbrev pub PassesSome : Sides → Fraction → Point → Type 0
PassesSome s c u = (IsSomeAnd s.left (PassesLeft c u) ⊎ IsSomeAnd s.right (PassesRight c u))
    ⊎ (IsSomeAnd s.bottom (PassesBottom c u) ⊎ IsSomeAnd s.top (PassesTop c u))

-- q is beyond none of the sides that are there
pub record IsWithin (s : Sides) (q : Fraction) : Type 0 where
  pub left : (n : ℤ) → s.left ≡ Some n → (n *ℤ q.w) ≤ℤ q.x
  pub right : (n : ℤ) → s.right ≡ Some n → q.x ≤ℤ (n *ℤ q.w)
  pub bottom : (n : ℤ) → s.bottom ≡ Some n → (n *ℤ q.w) ≤ℤ q.y
  pub top : (n : ℤ) → s.top ≡ Some n → q.y ≤ℤ (n *ℤ q.w)

-- all of the closed disk about c with u on its circle is
abbrev pub HoldsDisk : Sides → Fraction → Point → Type 0
HoldsDisk s c u = (q : Fraction) → ¬ IsNearer c (whole u) q → IsWithin s q

-- the closed disk of the circle through u, v and p stays within the sides, or passes one, and that
-- is told
pub record TellsDisk (s : Sides) (u v p : Point) (stays : Bool) : Type 0 where
  pub centre : Fraction
  pub is_centre : IsCentre (whole u) (whole v) (whole p) centre
  pub told : ((stays ≡ true) × HoldsDisk s centre u) ⊎ ((stays ≡ false) × PassesSome s centre u)

-- ---- in numbers
-- a way that leads so far inwards is at least as long as the way (x, y)
abbrev pub IsClear : ℤ → ℤ → ℤ → Type 0
IsClear x y reach = (pos 0 ≤ℤ reach) × ((x *ℤ x +ℤ y *ℤ y) ≤ℤ (reach *ℤ reach))

-- that holds of a side, by how far inwards the centre is of it, or there is no side
abbrev pub TellsClear : ℤ → ℤ → (ℤ → ℤ) → Option ℤ → Bool → Type 0
TellsClear x y reach at clear = MatchOption at (IsTrue clear)
    (λ n. IsTrue clear ↔ IsClear x y (reach n))
