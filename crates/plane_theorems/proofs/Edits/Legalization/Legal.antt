-- A legal flip: an edge that fails the circle's test lies across a strictly convex quadrilateral,
-- whose two halvings cover the same points.
-- Notions: convex_at_first, convex_at_third; InClosed, halved.
use Rattle.std.proofs.Common.{◌≡◌, ◌⊎◌, [], ◌∷◌, ap, sym, ◌∙◌, subst, arith}
use mathlib.Core.Logic.{inl, inr}
use Rattle.std.specs.Prelude.{ℤ, pos, ◌+ℤ◌, ◌-ℤ◌, ◌*ℤ◌, neg_ℤ, ◌<ℤ◌, ◌≤ℤ◌}
use Rattle.std.proofs.lemmas.Int.{ints}
use Rattle.plane.specs.{Point, squared_vector}
use Rattle.plane.proofs.{◌⊕◌, ◌⊖◌, ◌⊗◌, bracket, bracket-last, bracket-outer, bracket-swap}
use Rattle.plane.proofs.{bracket-turn, cramer, incircle, lift, lt_or_ge_ℤ, mul-nonneg_ℤ}
use Rattle.plane.proofs.{mul-nonpos_of_nonneg_nonpos_ℤ, negated_below, nonneg_of_mul-nonneg_ℤ, num}
use Rattle.plane.proofs.{ring_in_from, square-nonneg_ℤ, sum_not_negative, Vec3, weak, weak_right}
use Rattle.plane.proofs.{zero-mul_ℤ, zero_weak_left, ⊝}
use Rattle.plane.proofs.Circles.{incircle-from_first, incircle-opposite}

-- the failing test, from a
incircle_from_first : (a b c d : Point) → squared_vector a c *ℤ bracket (lift a) (lift b) (lift d)
    ≡ incircle (lift a) (lift b) (lift c) (lift d) +ℤ (squared_vector a b *ℤ bracket (lift a)
    (lift c)
    (lift d) +ℤ squared_vector a d *ℤ bracket (lift a) (lift b) (lift c))
incircle_from_first a b c d =
    let swapped = bracket-turn _ _ _ ∙ bracket-swap _ _ _
    ∙ ap neg_ℤ (sym (bracket-turn _ _ _)) in
    ring_in_from (squared_vector a c ∷ bracket (lift a) (lift b) (lift d) ∷ incircle _ _
    _ _ ∷ squared_vector a b ∷ bracket (lift a) (lift c) (lift d) ∷ bracket (lift a)
    (lift d) (lift c) ∷ squared_vector a d ∷ bracket (lift a) (lift b) (lift c) ∷ [])
    (λ ac abd o ab acd adc ad abc. ac ⊗ abd)
    (λ ac abd o ab acd adc ad abc. o ⊕ (ab ⊗ acd ⊕ ad ⊗ abc))
    (λ ac abd o ab acd adc ad abc. (⊝ (num 1), o, adc ⊗ ab ⊕ abd ⊗ ac ⊖ abc ⊗ ad)
    ∷ (⊝ ab, adc, ⊝ acd) ∷ []) (incircle-from_first a b c d, (swapped, tt)) tt

sum_positive : (s e a b : ℤ) → s ≡ e +ℤ (a +ℤ b) → pos 0 <ℤ e → pos 0 ≤ℤ a → pos 0 ≤ℤ b → pos 0 <ℤ s
sum_positive s e a b h k l m = omega (arith, ints)

-- a positive product with a factor that is not negative
other_positive : (k x : ℤ) → pos 0 ≤ℤ k → pos 0 <ℤ (k *ℤ x) → pos 0 <ℤ x
other_positive k x h p = elim (lt_or_ge_ℤ (pos 0) x)
    [ inl l ↦ l | inr l ↦ clash _ (mul-nonpos_of_nonneg_nonpos_ℤ h l) p ]
  where
    clash : (z : ℤ) → z ≤ℤ pos 0 → pos 0 <ℤ z → pos 0 <ℤ x
    clash z a b = absurd (omega (arith, ints))

-- a squared distance is not negative
pub squared_way_nonneg : (q p : Point) → pos 0 ≤ℤ squared_vector q p
squared_way_nonneg q p = sum_not_negative ((p.x -ℤ q.x) *ℤ (p.x -ℤ q.x))
    ((p.y -ℤ q.y) *ℤ (p.y -ℤ q.y)) (square-nonneg_ℤ _) (square-nonneg_ℤ _)

-- where the faces a b c and a c d fail at their common edge, a b d turns left
pub convex_at_first : (a b c d : Point) → pos 0 <ℤ bracket (lift a) (lift b) (lift c) → pos 0
    <ℤ bracket (lift a) (lift c) (lift d) → pos 0 <ℤ incircle (lift a) (lift b) (lift c) (lift d)
    → pos 0 <ℤ bracket (lift a) (lift b) (lift d)
convex_at_first a b c d abc acd e = other_positive _ _ (squared_way_nonneg a c)
    (sum_positive _ (incircle _ _ _ _) _ _ (incircle_from_first a b c d) e
    (mul-nonneg_ℤ (squared_way_nonneg a b) (weak acd)) (mul-nonneg_ℤ (squared_way_nonneg a d)
    (weak abc)))

-- and from c
pub convex_at_third : (a b c d : Point) → pos 0 <ℤ bracket (lift a) (lift b) (lift c) → pos 0
    <ℤ bracket (lift a) (lift c) (lift d) → pos 0 <ℤ incircle (lift a) (lift b) (lift c) (lift d)
    → pos 0 <ℤ bracket (lift b) (lift c) (lift d)
convex_at_third a b c d abc acd e = subst (λ z. pos 0 <ℤ z) (sym (bracket-turn _ _ _))
    (convex_at_first c d a b (rw bracket-turn at acd)
    (subst (λ z. pos 0 <ℤ z) (bracket-turn _ _ _ ∙ bracket-turn _ _ _) abc)
    (subst (λ z. pos 0 <ℤ z) (incircle-opposite _ _ _ _) e))

-- ---- the two halvings
-- z is in the closed triangle of a, b and c
pub record InClosed (a b c z : Vec3) : Type 0 where
  pub first : pos 0 ≤ℤ bracket a b z
  pub second : pos 0 ≤ℤ bracket b c z
  pub third : pos 0 ≤ℤ bracket c a z

three_nonneg : (s a b c : ℤ) → s ≡ a +ℤ b +ℤ c → pos 0 ≤ℤ a → pos 0 ≤ℤ b → pos 0 ≤ℤ c → pos 0 ≤ℤ s
three_nonneg s a b c e h k l = omega (arith, ints)

-- a point of a b d is in a b c or in a c d
pub halved : (a b c d z : Vec3) → pos 0 <ℤ bracket a b c → pos 0 <ℤ bracket a c d → pos 0 <ℤ bracket
    a b d → pos 0 <ℤ bracket b c d → InClosed a b d z → InClosed a b c z ⊎ InClosed a c d z
halved a b c d z abc acd abd bcd i = go (lt_or_ge_ℤ _ _)
  where
    left_of_bc : pos 0 ≤ℤ bracket b c z
    left_of_bc = nonneg_of_mul-nonneg_ℤ abd (three_nonneg _ _ _ _ (cramer a b d z b c)
        (mul-nonneg_ℤ i.second (rw (bracket-turn a b c) at (weak abc)))
        (zero_weak_left (zero-mul_ℤ _ (bracket-outer b c))) (mul-nonneg_ℤ i.first (weak bcd)))

    left_of_cd : pos 0 ≤ℤ bracket c d z
    left_of_cd = nonneg_of_mul-nonneg_ℤ abd (three_nonneg _ _ _ _ (cramer a b d z c d)
        (mul-nonneg_ℤ i.second (rw (bracket-turn a c d) at (weak acd)))
        (mul-nonneg_ℤ i.third (rw (bracket-turn b c d) at (weak bcd)))
        (zero_weak_left (zero-mul_ℤ _ (bracket-last c d))))

    go : (bracket a c z <ℤ pos 0) ⊎ (pos 0 ≤ℤ bracket a c z) → InClosed a b c z ⊎ InClosed a c d z
    go (inl l) = inl (record {
      first = i.first;
      second = left_of_bc;
      third = negated_below (bracket-swap c a z) (weak_right l);
    })
    go (inr l) = inr (record { first = l; second = left_of_cd; third = i.third })
