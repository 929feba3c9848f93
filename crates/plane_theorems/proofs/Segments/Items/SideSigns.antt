-- What the answers of the side function say of brackets.
-- Lemmas: not_left, not_right, below_if_right, none_if_on.
use Rattle.std.proofs.Common.{◌≡◌}
use mathlib.Core.Logic.{◌⊎◌, inl, inr}
use Rattle.std.specs.Prelude.{◌≢◌, pos, ◌<ℤ◌, ◌≤ℤ◌}
use Rattle.plane.specs.{Fraction, left, on, right, side}
use Rattle.plane.proofs.{if_on, if_right, trichotomy_ℤ, weak_right, zero_weak}
use Rattle.plane.proofs.Sides.{if_not_right}
use Rattle.plane_theorems.proofs.Delaunay.Points.Bracket.{bracket, left_if_above}

-- where a point is not on the left, the bracket is not above 0
pub not_left : (u v x : Fraction) → side u v x ≢ left → bracket u v x ≤ℤ pos 0
not_left u v x n = go (trichotomy_ℤ (bracket u v x))
  where
    go : (bracket u v x <ℤ pos 0) ⊎ ((bracket u v x ≡ pos 0) ⊎ (pos 0 <ℤ bracket u v x))
        → bracket u v x ≤ℤ pos 0
    go (inl h) = weak_right h
    go (inr (inl h)) = zero_weak h
    go (inr (inr h)) = absurd (n (left_if_above u v x h))

-- where a point is not on the right, the bracket is not below 0
pub not_right : (u v x : Fraction) → side u v x ≢ right → pos 0 ≤ℤ bracket u v x
unfolding bracket
not_right u v x n = if_not_right u v x n

-- where a point is on the right, the bracket is below 0
pub below_if_right : (u v x : Fraction) → side u v x ≡ right → bracket u v x <ℤ pos 0
unfolding bracket
below_if_right u v x e = if_right u v x e

-- where a point is on the line, the bracket is 0
pub none_if_on : (u v x : Fraction) → side u v x ≡ on → bracket u v x ≡ pos 0
unfolding bracket
none_if_on u v x e = if_on u v x e
