-- Open and closed triangles by brackets, and moving a point a little.
-- InOpen a b c x: x is strictly left of the three sides of a b c
-- Closed a b c x: x is right of none of them
-- inside-turned, closed-turned: both hold of the next rotation too
-- closed_of_inside: `InOpen` gives `Closed`
-- nudge n x m: x moved towards m, by less the larger n is
-- bracket-nudge: the bracket of a nudged point is n times that of x, and that of m
-- nudge-above, nudge-on, nudge-least: the bracket of a nudged point, where that of x is positive,
--   0, at least 0
-- size z: the absolute value of z
use Prim.Native.Nat.{ℕ, zero, suc, ◌+◌, ◌<◌, ◌≤◌}
use lib.IntN.{ℤ, pos, negsuc, ◌+ℤ◌, ◌*ℤ◌, nat_abs}
use lib.Signed.{◌<ℤ◌, ◌≤ℤ◌}
use mathlib.Core.Path.{◌≡◌, refl, sym, ◌∙◌, ap, subst}
use mathlib.Core.Logic.{◌⊎◌, inl, inr}
use native.Mathlib.Omega.{arith}
use borrow.Author.Differences.{ints}
use Rattle.{plane.proofs.mul-nonneg_ℤ, plane.proofs.weak, plane.specs.Fraction}
use Rattle.plane_theorems.proofs.Delaunay.Points.Bracket.{bracket, bracket-mixed, mixed}

-- ---- n times y and z, where n is larger than z
-- the absolute value of a whole number
pub size : ℤ → ℕ
size z = nat_abs z

-- n y + z is above 0 where y is and n is larger than the size of z
pub nudged : (n : ℕ) (y z : ℤ) → pos 0 <ℤ y → size z < n → pos 0 <ℤ (pos n *ℤ y +ℤ z)
unfolding size
nudged n (pos zero) z h i = absurd (omega (arith, ints))
nudged n (pos (suc m)) (pos k) h i = omega (arith, ints)
nudged n (pos (suc m)) (negsuc k) h i = omega (arith, ints)
nudged n (negsuc m) z h i = absurd (omega (arith, ints))

-- where n is larger than the size of z and n y + z not below 0, y is above 0, or 0 with z not below
-- 0
pub germ_sign : (n : ℕ) (y z : ℤ) → size z < n → pos 0 ≤ℤ (pos n *ℤ y +ℤ z)
    → (pos 0 <ℤ y) ⊎ ((y ≡ pos 0) × (pos 0 ≤ℤ z))
unfolding size
germ_sign n (pos zero) z i h = inr (refl, omega (arith, ints))
germ_sign n (pos (suc m)) z i h = inl (omega (arith, ints))
germ_sign n (negsuc m) (pos k) i h = absurd (omega (arith, ints))
germ_sign n (negsuc m) (negsuc k) i h = absurd (omega (arith, ints))

-- n v + w is above 0 where v and w are
pub nudge_positive : (n : ℕ) (v w : ℤ) → pos 0 <ℤ v → pos 0 <ℤ w
    → pos 0 <ℤ (pos n *ℤ v +ℤ pos 1 *ℤ w)
nudge_positive n v w h i = let p : pos 0 ≤ℤ (pos n *ℤ v) =
    mul-nonneg_ℤ {a = pos n} {b = v} (omega (arith, ints)) (omega (arith, ints)) in
    omega (arith, ints)

-- x, moved a little towards m where n is large
unfoldable pub nudge : ℕ → Fraction → Fraction → Fraction
nudge n x m = mixed (pos n) x (pos 1) m (nudge_positive n x.w m.w x.positive m.positive)

-- the bracket of a nudged point is n times the point's own, and that of the point it goes towards
pub bracket-nudge : (u v : Fraction) (n : ℕ) (x m : Fraction)
    → bracket u v (nudge n x m) ≡ pos n *ℤ bracket u v x +ℤ bracket u v m
unfolding nudge
bracket-nudge u v n x m = bracket-mixed u v (pos n) x (pos 1) m
    (nudge_positive n x.w m.w x.positive m.positive) ∙ one (pos n *ℤ bracket u v x) (bracket u v m)
  where
    one : (a b : ℤ) → a +ℤ pos 1 *ℤ b ≡ a +ℤ b
    one a b = omega (arith, ints)

-- a point left of a line stays left of it, where n is larger than the bracket of m
pub nudge-above : (u v : Fraction) (n : ℕ) (x m : Fraction) → pos 0 <ℤ bracket u v x
    → size (bracket u v m) < n → pos 0 <ℤ bracket u v (nudge n x m)
nudge-above u v n x m h i = subst (λ t. pos 0 <ℤ t) (sym (bracket-nudge u v n x m))
    (nudged n (bracket u v x) (bracket u v m) h i)

from_none : (n : ℕ) (y z : ℤ) → y ≡ pos 0 → pos n *ℤ y +ℤ z ≡ z
from_none n y z e = ap (λ t. pos n *ℤ t +ℤ z) e ∙ none
  where
    none : pos n *ℤ pos 0 +ℤ z ≡ z
    none = omega (arith, ints)

-- a point on a line, nudged towards m, has the bracket of m
pub nudge-on : (u v : Fraction) (n : ℕ) (x m : Fraction) → bracket u v x ≡ pos 0
    → bracket u v (nudge n x m) ≡ bracket u v m
nudge-on u v n x m e = bracket-nudge u v n x m ∙ from_none n (bracket u v x) (bracket u v m) e

least : (n : ℕ) (y z : ℤ) → pos 0 ≤ℤ y → pos 0 <ℤ z → pos 0 <ℤ (pos n *ℤ y +ℤ z)
least n y z h i = let p : pos 0 ≤ℤ (pos n *ℤ y) =
    mul-nonneg_ℤ {a = pos n} {b = y} (omega (arith, ints)) h in omega (arith, ints)

-- a point that is not right of a line, nudged towards a point left of it, is left of it
pub nudge-least : (u v : Fraction) (n : ℕ) (x m : Fraction) → pos 0 ≤ℤ bracket u v x
    → pos 0 <ℤ bracket u v m → pos 0 <ℤ bracket u v (nudge n x m)
nudge-least u v n x m h i = subst (λ t. pos 0 <ℤ t) (sym (bracket-nudge u v n x m))
    (least n (bracket u v x) (bracket u v m) h i)

-- ---- closed and open triangles
-- x is in the closed triangle of a, b and c
pub record Closed (a b c x : Fraction) : Type 0 where
  pub first : pos 0 ≤ℤ bracket a b x
  pub second : pos 0 ≤ℤ bracket b c x
  pub third : pos 0 ≤ℤ bracket c a x

-- x is left of the three sides of a b c
pub record InOpen (a b c x : Fraction) : Type 0 where
  pub first : pos 0 <ℤ bracket a b x
  pub second : pos 0 <ℤ bracket b c x
  pub third : pos 0 <ℤ bracket c a x

-- a point of a closed triangle is one in its next rotation
pub closed-turned : {a b c x : Fraction} → Closed a b c x → Closed b c a x
closed-turned h = record { first = h.second; second = h.third; third = h.first }

-- a point strictly inside a triangle is so in its next rotation
pub inside-turned : {a b c x : Fraction} → InOpen a b c x → InOpen b c a x
inside-turned h = record { first = h.second; second = h.third; third = h.first }

-- a point strictly inside a triangle is in the closed one
pub closed_of_inside : {a b c x : Fraction} → InOpen a b c x → Closed a b c x
closed_of_inside h = record { first = weak h.first; second = weak h.second; third = weak h.third }

-- a nudge keeps a point strictly inside
pub room : (a b c m : Fraction) → ℕ
room a b c m = suc (size (bracket a b m) + size (bracket b c m) + size (bracket c a m))

-- a point strictly inside stays so, nudged towards m, where n is at least the room for m
pub inside-nudge : (a b c x m : Fraction) (n : ℕ) → InOpen a b c x → room a b c m ≤ n
    → InOpen a b c (nudge n x m)
unfolding room
inside-nudge a b c x m n h r = record {
  first = nudge-above a b n x m h.first (omega arith);
  second = nudge-above b c n x m h.second (omega arith);
  third = nudge-above c a n x m h.third (omega arith);
}
