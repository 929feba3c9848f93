-- Sums of two products, and an order, over plain numbers.
-- Lemmas: less_again, mix_positive, sum_above, sum_least, sum_none, stays_above, stays_below,
-- none_before.
use Prim.Native.Nat.{ℕ, suc, ◌<◌}
use lib.IntN.{ℤ, pos, ◌+ℤ◌, ◌*ℤ◌, neg_ℤ}
use lib.Signed.{◌<ℤ◌, ◌≤ℤ◌}
use mathlib.Core.Path.{◌≡◌}
use native.Mathlib.Omega.{arith}
use borrow.Author.Differences.{ints}
use Rattle.plane.proofs.{mul-neg_ℤ, mul-nonneg_ℤ, mul-nonpos_of_nonneg_nonpos_ℤ, mul-pos_ℤ}
use Rattle.plane.proofs.{nonneg_of_mul-nonneg_ℤ, pos-ne-zero_ℤ, pos_of_mul-pos_ℤ, weak, zero-mul_ℤ}
use Rattle.plane.proofs.{zero_of_mul-zero_ℤ}

-- what is below some j that is at most m is below m
pub less_again : (i j m : ℕ) → i < j → j < suc m → i < m
less_again i j m h k = omega arith

-- k v + l w is above 0 where k, v and w are, and l is not below 0
pub mix_positive : (k l v w : ℤ) → pos 0 <ℤ k → pos 0 ≤ℤ l → pos 0 <ℤ v → pos 0 <ℤ w
    → pos 0 <ℤ (k *ℤ v +ℤ l *ℤ w)
mix_positive k l v w hk hl hv hw = let p = mul-pos_ℤ {a = k} {b = v} hk hv in
    let q = mul-nonneg_ℤ {a = l} {b = w} hl (weak hw) in omega (arith, ints)

-- ---- x, where n x = k a + l b
-- a weighted sum whose first part is positive and whose second is not negative is positive
pub sum_above : (n k l x a b : ℤ) → pos 0 <ℤ n → n *ℤ x ≡ k *ℤ a +ℤ l *ℤ b → pos 0 <ℤ k → pos 0 <ℤ a
    → pos 0 ≤ℤ l → pos 0 ≤ℤ b → pos 0 <ℤ x
sum_above n k l x a b hn e hk ha hl hb =
    pos_of_mul-pos_ℤ {k = n} {x = x} hn (let p = mul-pos_ℤ {a = k} {b = a} hk ha in
    let q = mul-nonneg_ℤ {a = l} {b = b} hl hb in omega (arith, ints))

-- x is not below 0 where none of k, a, l and b is
pub sum_least : (n k l x a b : ℤ) → pos 0 <ℤ n → n *ℤ x ≡ k *ℤ a +ℤ l *ℤ b → pos 0 ≤ℤ k → pos 0 ≤ℤ a
    → pos 0 ≤ℤ l → pos 0 ≤ℤ b → pos 0 ≤ℤ x
sum_least n k l x a b hn e hk ha hl hb =
    nonneg_of_mul-nonneg_ℤ {k = n} {x = x} hn (let p = mul-nonneg_ℤ {a = k} {b = a} hk ha in
    let q = mul-nonneg_ℤ {a = l} {b = b} hl hb in omega (arith, ints))

-- x is 0 where a and b are
pub sum_none : (n k l x a b : ℤ) → pos 0 <ℤ n → n *ℤ x ≡ k *ℤ a +ℤ l *ℤ b → a ≡ pos 0
    → b ≡ pos 0 → x ≡ pos 0
sum_none n k l x a b hn e ha hb = zero_of_mul-zero_ℤ {k = n} {x = x} (pos-ne-zero_ℤ hn)
    (let p = zero-mul_ℤ k ha in let q = zero-mul_ℤ l hb in omega (arith, ints))

-- ---- r = k x + l p, on the way from x to p
-- a sum of a positive and a not negative multiple is positive
pub stays_above : (k l x p r : ℤ) → pos 0 <ℤ k → pos 0 <ℤ l → r ≡ k *ℤ x +ℤ l *ℤ p → pos 0 <ℤ x
    → pos 0 ≤ℤ p → pos 0 <ℤ r
stays_above k l x p r hk hl e hx hp = let a = mul-pos_ℤ {a = k} {b = x} hk hx in
    let b = mul-nonneg_ℤ {a = l} {b = p} (weak hl) hp in omega (arith, ints)

-- r is below 0 where x is, and p is not above 0
pub stays_below : (k l x p r : ℤ) → pos 0 <ℤ k → pos 0 <ℤ l → r ≡ k *ℤ x +ℤ l *ℤ p → x <ℤ pos 0
    → p ≤ℤ pos 0 → r <ℤ pos 0
stays_below k l x p r hk hl e hx hp =
    let a = mul-pos_ℤ {a = k} {b = neg_ℤ x} hk (omega (arith, ints)) in
    let b = mul-nonpos_of_nonneg_nonpos_ℤ {a = l} {b = p} (weak hl) hp in
    omega (arith, ints, mul-neg_ℤ k x)

-- x is 0 where p and r are
pub none_before : (k l x p r : ℤ) → pos 0 <ℤ k → r ≡ k *ℤ x +ℤ l *ℤ p → p ≡ pos 0
    → r ≡ pos 0 → x ≡ pos 0
none_before k l x p r hk e hp hr = zero_of_mul-zero_ℤ {k = k} {x = x} (pos-ne-zero_ℤ hk)
    (let b = zero-mul_ℤ l hp in omega (arith, ints))
