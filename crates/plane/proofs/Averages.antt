-- The means of two points are their weighted averages.
-- Lemmas: segment_is_averages.
use Rattle.std.proofs.Common.{◌≡◌, ◌↔◌, [], ◌∷◌, subst}
use Rattle.std.specs.Prelude.{◌≤ℤ◌, ℤ, pos, ◌<ℤ◌, ◌*ℤ◌, ◌+ℤ◌}
use Rattle.plane.specs.{Fraction, IsNotNegative, Laws.IsAverage, Laws.IsAverageOf, OnSegment}
use Rattle.plane.proofs.IntegerOrder.{mul-nonneg_ℤ, mul-pos_ℤ}
use Rattle.plane.proofs.{Means.mean_of_two, Means.two_weights, Means.TwoWeights, Steps.weak}
use Rattle.plane.proofs.Solver.{◌⊕◌, ◌⊖◌, ◌⊗◌, num, ring_in, ring_in_from}

average_part : (k l a aw b bw p pw : ℤ)
    → p *ℤ ((k +ℤ l) *ℤ (aw *ℤ bw)) ≡ (k *ℤ (a *ℤ bw) +ℤ l *ℤ (b *ℤ aw)) *ℤ pw
    → ((k +ℤ l) *ℤ (aw *ℤ bw)) *ℤ p ≡ (k *ℤ (bw *ℤ pw)) *ℤ a +ℤ (l *ℤ (aw *ℤ pw)) *ℤ b
average_part k l a aw b bw p pw e = ring_in_from (k ∷ l ∷ a ∷ aw ∷ b ∷ bw ∷ p ∷ pw ∷ [])
    (λ k l a aw b bw p pw. ((k ⊕ l) ⊗ (aw ⊗ bw)) ⊗ p)
    (λ k l a aw b bw p pw. (k ⊗ (bw ⊗ pw)) ⊗ a ⊕ (l ⊗ (aw ⊗ pw)) ⊗ b)
    (λ k l a aw b bw p pw. (num 1, p ⊗ ((k ⊕ l) ⊗ (aw ⊗ bw)), (k ⊗ (a ⊗ bw) ⊕ l ⊗ (b ⊗ aw)) ⊗ pw)
    ∷ []) (e, tt) tt

average_weight : (k l aw bw pw : ℤ)
    → ((k +ℤ l) *ℤ (aw *ℤ bw)) *ℤ pw ≡ (k *ℤ (bw *ℤ pw)) *ℤ aw +ℤ (l *ℤ (aw *ℤ pw)) *ℤ bw
average_weight k l aw bw pw =
    ring_in (k ∷ l ∷ aw ∷ bw ∷ pw ∷ []) (λ k l aw bw pw. ((k ⊕ l) ⊗ (aw ⊗ bw)) ⊗ pw)
    (λ k l aw bw pw. (k ⊗ (bw ⊗ pw)) ⊗ aw ⊕ (l ⊗ (aw ⊗ pw)) ⊗ bw) tt

-- an average is a mean
mean_of_average : (k l : ℤ) (a b p : Fraction) → pos 0 ≤ℤ k → pos 0 ≤ℤ l → pos 0 <ℤ (k +ℤ l)
    → IsAverage k l a b p → TwoWeights IsNotNegative a b p
mean_of_average k l a b p h i j e = record {
  k = k *ℤ (b.w *ℤ p.w);
  l = l *ℤ (a.w *ℤ p.w);
  n = (k +ℤ l) *ℤ (a.w *ℤ b.w);
  k_allowed = mul-nonneg_ℤ h (weak (mul-pos_ℤ b.positive p.positive));
  l_allowed = mul-nonneg_ℤ i (weak (mul-pos_ℤ a.positive p.positive));
  positive = mul-pos_ℤ j (mul-pos_ℤ a.positive b.positive);
  x = average_part k l a.x a.w b.x b.w p.x p.w e.x;
  y = average_part k l a.y a.w b.y b.w p.y p.w e.y;
  w = average_weight k l a.w b.w p.w;
}

mean_part : (k l n a aw b bw p pw : ℤ) → n *ℤ p ≡ k *ℤ a +ℤ l *ℤ b → n *ℤ pw ≡ k *ℤ aw +ℤ l *ℤ bw
    → p *ℤ ((k *ℤ aw +ℤ l *ℤ bw) *ℤ (aw *ℤ bw))
    ≡ ((k *ℤ aw) *ℤ (a *ℤ bw) +ℤ (l *ℤ bw) *ℤ (b *ℤ aw)) *ℤ pw
mean_part k l n a aw b bw p pw e d = ring_in_from (k ∷ l ∷ n ∷ a ∷ aw ∷ b ∷ bw ∷ p ∷ pw ∷ [])
    (λ k l n a aw b bw p pw. p ⊗ ((k ⊗ aw ⊕ l ⊗ bw) ⊗ (aw ⊗ bw)))
    (λ k l n a aw b bw p pw. ((k ⊗ aw) ⊗ (a ⊗ bw) ⊕ (l ⊗ bw) ⊗ (b ⊗ aw)) ⊗ pw)
    (λ k l n a aw b bw p pw. (aw ⊗ bw ⊗ pw, n ⊗ p, k ⊗ a ⊕ l ⊗ b)
    ∷ (num 0 ⊖ aw ⊗ bw ⊗ p, n ⊗ pw, k ⊗ aw ⊕ l ⊗ bw) ∷ []) (e, (d, tt)) tt

-- and a mean is an average, under the weights times the corners' own
average_of_mean : (a b p : Fraction) (t : TwoWeights IsNotNegative a b p)
    → IsAverage (t.k *ℤ a.w) (t.l *ℤ b.w) a b p
average_of_mean a b p t = record {
  x = mean_part t.k t.l t.n a.x a.w b.x b.w p.x p.w t.x t.w;
  y = mean_part t.k t.l t.n a.y a.w b.y b.w p.y p.w t.y t.w;
}

-- the points of a segment are the weighted averages of its ends
pub segment_is_averages : (a b p : Fraction) → OnSegment a b p ↔ IsAverageOf a b p
segment_is_averages a b p = (
  (λ h. let t = two_weights IsNotNegative a b p h in record {
    k = t.k *ℤ a.w;
    l = t.l *ℤ b.w;
    k_allowed = mul-nonneg_ℤ t.k_allowed (weak a.positive);
    l_allowed = mul-nonneg_ℤ t.l_allowed (weak b.positive);
    some = subst (λ z. pos 0 <ℤ z) t.w (mul-pos_ℤ t.positive p.positive);
    average = average_of_mean a b p t;
  }),
  (λ s. mean_of_two IsNotNegative a b p
      (mean_of_average s.k s.l a b p s.k_allowed s.l_allowed s.some s.average)),
)
