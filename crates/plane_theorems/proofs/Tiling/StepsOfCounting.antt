-- Small steps on whole numbers, for the count of crossings.
-- Lemmas: sum_is_positive, all_zero, minus_one_and, one_more, zero_plus', average_from,
-- weight_below, weights_from.
use Rattle.std.proofs.Common.{◌≡◌, [], ◌∷◌, arith}
use Rattle.std.specs.Prelude.{ℤ, pos, negsuc, ◌+ℤ◌, ◌-ℤ◌, ◌*ℤ◌, ◌≤ℤ◌, ◌<ℤ◌, neg_ℤ}
use Rattle.std.proofs.lemmas.Int.{ints}
use Rattle.plane.proofs.{◌⊕◌, ◌⊖◌, ◌⊗◌, num, ring_in_from, ⊝}
use Rattle.plane.proofs.IntegerLaws.{mul-add_ℤ}

-- where a + b + c is above 0, it is so in another order
pub sum_is_positive : (s a b c : ℤ) → s ≡ a *ℤ pos 1 +ℤ b *ℤ pos 1 +ℤ c *ℤ pos 1 → pos 0 <ℤ s
    → pos 0 <ℤ (c +ℤ a +ℤ b)
sum_is_positive s a b c e h = omega (arith, ints)

-- where a - b = c, a is not above 0, and b and c are not below 0, all three are 0
pub all_zero : (a b c d : ℤ) → a -ℤ b ≡ c -ℤ d → a ≤ℤ pos 0 → pos 0 ≤ℤ b → pos 0 ≤ℤ c → d ≡ pos 0
    → (a ≡ pos 0) × (b ≡ pos 0) × (c ≡ pos 0)
all_zero a b c d e h k l m = omega (arith, ints)

-- what is at least 1 is not 0
pub minus_one_and : (h t : ℤ) → h ≤ℤ t → h ≡ pos 1 → t +ℤ pos 0 ≡ pos 0 → ⊥
minus_one_and h t l e z = omega (arith, ints)

-- where a + b is 0 and b is -1, a is 1
pub one_more : (a b : ℤ) → a +ℤ b ≡ pos 0 → b ≡ negsuc 0 → a ≡ pos 1
one_more a b e h = omega (arith, ints)

-- 0 added at the end changes nothing
pub zero_plus' : (z : ℤ) → z +ℤ pos 0 ≡ z
zero_plus' z = omega (arith, ints)

-- where d is 0 in d pq - a t + b s - c k l = 0, the weighted sum a t - b s is -c k l
pub average_from : (d pq a t b s c px k l : ℤ) → d ≡ pos 0 → px ≡ k *ℤ l
    → d *ℤ pq -ℤ a *ℤ t +ℤ b *ℤ s -ℤ c *ℤ px ≡ pos 0 → a *ℤ t +ℤ neg_ℤ b *ℤ s ≡ (neg_ℤ c *ℤ k) *ℤ l
average_from d pq a t b s c px k l z e h =
    ring_in_from (d ∷ pq ∷ a ∷ t ∷ b ∷ s ∷ c ∷ px ∷ k ∷ l ∷ [])
    (λ d pq a t b s c px k l. a ⊗ t ⊕ ⊝ b ⊗ s) (λ d pq a t b s c px k l. (⊝ c ⊗ k) ⊗ l)
    (λ d pq a t b s c px k l. (pq, d, num 0) ∷ (⊝ c, px, k ⊗ l)
    ∷ (num 0 ⊖ num 1, d ⊗ pq ⊖ a ⊗ t ⊕ b ⊗ s ⊖ c ⊗ px, num 0) ∷ []) (z, (e, (h, tt))) tt

-- c k is below c (k + 1) where c is above 0
pub weight_below : (s c k : ℤ) → s ≡ c *ℤ (k +ℤ pos 1) → pos 0 <ℤ c → (c *ℤ k) <ℤ s
weight_below s c k e h = go (mul-add_ℤ c k (pos 1))
  where
    go : c *ℤ (k +ℤ pos 1) ≡ c *ℤ k +ℤ c *ℤ pos 1 → (c *ℤ k) <ℤ s
    go d = omega (arith, ints)

-- where d is 0 in a - b = d w - c (k + 1), the weights a and -b add up to -c (k + 1)
pub weights_from : (d w a b c k : ℤ) → d ≡ pos 0 → a *ℤ pos 1 -ℤ b *ℤ pos 1
    ≡ d *ℤ w -ℤ c *ℤ (k *ℤ pos 1 +ℤ pos 1) → a +ℤ neg_ℤ b ≡ neg_ℤ c *ℤ (k +ℤ pos 1)
weights_from d w a b c k z e = ring_in_from (d ∷ w ∷ a ∷ b ∷ c ∷ k ∷ []) (λ d w a b c k. a ⊕ ⊝ b)
    (λ d w a b c k. ⊝ c ⊗ (k ⊕ num 1))
    (λ d w a b c k. (w, d, num 0) ∷ (num 1, a ⊗ num 1 ⊖ b ⊗ num 1, d ⊗ w ⊖ c ⊗ (k ⊗ num 1 ⊕ num 1))
    ∷ []) (z, (e, tt)) tt
