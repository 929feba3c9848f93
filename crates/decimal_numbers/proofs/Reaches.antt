-- Which numbers have a coordinate in range.
-- Lemmas: units_are, near_if_moved_near, far_if_moved_far.
use Rattle.std.proofs.Common.{◌≡◌, ◌^◌, ◌<◌, ◌≤◌, ◌∙◌, ℕ, Bool, true, false}
use Rattle.std.proofs.Common.{inl, inr, sym, ap, subst, arith}
use Rattle.std.specs.Prelude.{◌-ℤ◌, ℤ}
use Rattle.std.proofs.lemmas.Int.{ints}
use Rattle.decimal_numbers.specs.Value.{IsOutOfReach, IsTimesPower, IsWithin, signed, units_at}
use Rattle.decimal_numbers.proofs.Powers.{power_cancelled}

-- a number of units is the one that the number comes to
pub units_are : {negative : Bool} {m d p : ℕ} {z : ℤ} → d ≤ p → IsTimesPower negative m d p z
    → z ≡ signed negative (units_at p m d)
units_are {negative} {m} {d} {p} {z} h t =
    t.sign ∙ ap (signed negative) (power_cancelled m d p t.units h t.value)

-- a number that is not far has no more units than are read
few_units : (negative : Bool) (units : ℕ) → IsWithin (2 ^ 62) (signed negative units)
    → 2 ^ 62 < units → ⊥
few_units true units w far = omega (arith, ints, w.low, far)
few_units false units w far = omega (arith, ints, w.high, far)

-- a number whose coordinate is in range is in reach
pub near_if_moved_near : {negative : Bool} {m d p : ℕ} {z : ℤ} (origin : ℤ)
    → IsTimesPower negative m d p z → IsWithin (2 ^ 62) z → IsWithin (2 ^ 29) (z -ℤ origin)
    → d ≤ p → IsOutOfReach negative (units_at p m d) origin → ⊥
near_if_moved_near {negative} {m} {d} {p} origin t w near h (inl far) =
    few_units negative (units_at p m d) (subst (IsWithin (2 ^ 62)) (units_are h t) w) far
near_if_moved_near origin t w near h (inr out) =
    out (subst (λ (x : ℤ). IsWithin (2 ^ 29) (x -ℤ origin)) (units_are h t) near)

-- and one whose coordinate is not is out of reach
pub far_if_moved_far : {negative : Bool} {m d p : ℕ} {z : ℤ} (origin : ℤ)
    → IsTimesPower negative m d p z → d ≤ p → (IsWithin (2 ^ 29) (z -ℤ origin) → ⊥)
    → IsOutOfReach negative (units_at p m d) origin
far_if_moved_far origin t h out =
    inr (λ w. out (subst (λ (x : ℤ). IsWithin (2 ^ 29) (x -ℤ origin)) (sym (units_are h t)) w))
