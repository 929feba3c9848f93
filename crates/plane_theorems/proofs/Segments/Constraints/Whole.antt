-- What crosses a subconstraint of a path crosses the whole segment.
-- Lemmas: subconstraint_crosses_whole.
use Rattle.std.proofs.Common.{◌≡◌, ◌⊎◌, ℕ, sym, ap, ◌∙◌, arith}
use mathlib.Core.Logic.{inl, inr}
use Rattle.std.specs.Prelude.{ℤ, pos, ◌+ℤ◌, ◌*ℤ◌, ◌≤ℤ◌, ◌<ℤ◌}
use Rattle.std.proofs.lemmas.Int.{ints}
use Rattle.plane.specs.{Cross, IsIndex, IsNotNegative, IsPositive, IsSame, OnSegment, place, Point}
use Rattle.plane.proofs.{AreOpposite, bracket, bracket-outer, bracket_of_two, lift}
use Rattle.plane.proofs.{mul-neg_of_pos_neg_ℤ, mul-nonneg_ℤ, mul-nonpos_of_nonneg_nonpos_ℤ}
use Rattle.plane.proofs.{mul-pos_ℤ, neg_of_mul-neg_ℤ, pos-ne-zero_ℤ, pos_of_mul-pos_ℤ, sum_of_zeros}
use Rattle.plane.proofs.{trichotomy_ℤ, two_weights, TwoWeights, vec, weak, weak_right, zero-mul_ℤ}
use Rattle.plane.proofs.{zero_is_not_above, zero_of_mul-zero_ℤ, zero_weak, zero_weak_left}
use Rattle.{plane.proofs.Lines.bracket_of_line, plane.specs.whole}
use Rattle.plane.proofs.{Meetings.cross_if, Meetings.cross_is, Signs.zero_is_not_below}
use Rattle.plane_theorems.specs.{point_of, Segments.Constraints.SubconstraintCrossesWhole}
use Rattle.plane_theorems.proofs.{Segments.Crossing.EitherWay.one_point, Tiling.Line.flat}

-- ---- signs of means
sum_least : (k l n x y z : ℤ) → n *ℤ z ≡ k *ℤ x +ℤ l *ℤ y → pos 0 <ℤ n → pos 0 ≤ℤ k → pos 0 ≤ℤ l
    → pos 0 ≤ℤ x → pos 0 ≤ℤ y → z <ℤ pos 0 → ⊥
sum_least k l n x y z e hn hk hl hx hy hz = clash (n *ℤ z) (k *ℤ x) (l *ℤ y) e
    (mul-neg_of_pos_neg_ℤ hn hz) (mul-nonneg_ℤ hk hx) (mul-nonneg_ℤ hl hy)
  where
    clash : (s a b : ℤ) → s ≡ a +ℤ b → s <ℤ pos 0 → pos 0 ≤ℤ a → pos 0 ≤ℤ b → ⊥
    clash s a b e h k l = omega (arith, ints)

sum_most : (k l n x y z : ℤ) → n *ℤ z ≡ k *ℤ x +ℤ l *ℤ y → pos 0 <ℤ n → pos 0 ≤ℤ k → pos 0 ≤ℤ l
    → x ≤ℤ pos 0 → y ≤ℤ pos 0 → pos 0 <ℤ z → ⊥
sum_most k l n x y z e hn hk hl hx hy hz = clash (n *ℤ z) (k *ℤ x) (l *ℤ y) e (mul-pos_ℤ hn hz)
    (mul-nonpos_of_nonneg_nonpos_ℤ hk hx) (mul-nonpos_of_nonneg_nonpos_ℤ hl hy)
  where
    clash : (s a b : ℤ) → s ≡ a +ℤ b → pos 0 <ℤ s → a ≤ℤ pos 0 → b ≤ℤ pos 0 → ⊥
    clash s a b e h k l = omega (arith, ints)

-- two numbers with a mean below 0 and one above it are opposite
opposite_by_means : (x y : ℤ) → (pos 0 ≤ℤ x → pos 0 ≤ℤ y → ⊥) → (x ≤ℤ pos 0 → y ≤ℤ pos 0 → ⊥)
    → AreOpposite x y
opposite_by_means x y some_below some_above = go (trichotomy_ℤ x) (trichotomy_ℤ y)
  where
    go : (x <ℤ pos 0) ⊎ ((x ≡ pos 0) ⊎ (pos 0 <ℤ x)) → (y <ℤ pos 0) ⊎ ((y ≡ pos 0) ⊎ (pos 0 <ℤ y))
        → AreOpposite x y
    go (inl h) (inl k) = absurd (some_above (weak_right h) (weak_right k))
    go (inl h) (inr (inl k)) = absurd (some_above (weak_right h) (zero_weak k))
    go (inl h) (inr (inr k)) = inl (h, k)
    go (inr (inl h)) (inl k) = absurd (some_above (zero_weak h) (weak_right k))
    go (inr (inl h)) (inr (inl k)) = absurd (some_above (zero_weak h) (zero_weak k))
    go (inr (inl h)) (inr (inr k)) = absurd (some_below (zero_weak_left h) (weak k))
    go (inr (inr h)) (inl k) = inr (h, k)
    go (inr (inr h)) (inr (inl k)) = absurd (some_below (weak h) (zero_weak_left k))
    go (inr (inr h)) (inr (inr k)) = absurd (some_below (weak h) (weak k))

-- with a mean of 0 they are opposite, or both 0
opposite_if_none : (k l x y : ℤ) → pos 0 <ℤ k → pos 0 <ℤ l → k *ℤ x +ℤ l *ℤ y ≡ pos 0
    → (x ≡ pos 0 → y ≡ pos 0 → ⊥) → AreOpposite x y
opposite_if_none k l x y hk hl e n = go (trichotomy_ℤ x)
  where
    above : (a b : ℤ) → a +ℤ b ≡ pos 0 → a <ℤ pos 0 → pos 0 <ℤ b
    above a b e h = omega (arith, ints)

    below : (a b : ℤ) → a +ℤ b ≡ pos 0 → pos 0 <ℤ a → b <ℤ pos 0
    below a b e h = omega (arith, ints)

    level : (a b : ℤ) → a +ℤ b ≡ pos 0 → a ≡ pos 0 → b ≡ pos 0
    level a b e h = omega (arith, ints)

    go : (x <ℤ pos 0) ⊎ ((x ≡ pos 0) ⊎ (pos 0 <ℤ x)) → AreOpposite x y
    go (inl h) =
        inl (h, pos_of_mul-pos_ℤ hl (above (k *ℤ x) (l *ℤ y) e (mul-neg_of_pos_neg_ℤ hk h)))
    go (inr (inl h)) = absurd
        (n h (zero_of_mul-zero_ℤ (pos-ne-zero_ℤ hl) (level (k *ℤ x) (l *ℤ y) e (zero-mul_ℤ k h))))
    go (inr (inr h)) = inr (h, neg_of_mul-neg_ℤ hl (below (k *ℤ x) (l *ℤ y) e (mul-pos_ℤ hk h)))

-- ---- the whole segment
module _ (i j a b c d : Point) (ij : ¬ (i ≡ j)) (ab : ¬ IsSame (whole a) (whole b))
    (cd : ¬ IsSame (whole c) (whole d)) (on_a : OnSegment (whole i) (whole j) (whole a))
    (on_b : OnSegment (whole i) (whole j) (whole b))
    (cross : Cross (whole a) (whole b) (whole c) (whole d)) where
  parted : AreOpposite (bracket (lift c) (lift d) (lift a)) (bracket (lift c) (lift d) (lift b))
  parted = ((cross_is (whole a) (whole b) (whole c) (whole d) ab cd).0 cross).1

  -- a, by its weights on the whole segment
  of_a : TwoWeights IsNotNegative (whole i) (whole j) (whole a)
  of_a = two_weights IsNotNegative (whole i) (whole j) (whole a) on_a

  -- b, by its weights there
  of_b : TwoWeights IsNotNegative (whole i) (whole j) (whole b)
  of_b = two_weights IsNotNegative (whole i) (whole j) (whole b) on_b

  abbrev from_cd : Point → ℤ
  from_cd z = bracket (lift c) (lift d) (lift z)

  abbrev from_ij : Point → ℤ
  from_ij z = bracket (lift i) (lift j) (lift z)

  ends_parted :
      AreOpposite (bracket (lift c) (lift d) (lift i)) (bracket (lift c) (lift d) (lift j))
  ends_parted = opposite_by_means (from_cd i) (from_cd j) (λ h k. not_below h k parted)
      (λ h k. not_above h k parted)
    where
      not_below : pos 0 ≤ℤ from_cd i → pos 0 ≤ℤ from_cd j → AreOpposite (from_cd a) (from_cd b) → ⊥
      not_below h k (inl o) = sum_least of_a.k of_a.l of_a.n (from_cd i) (from_cd j) (from_cd a)
          (bracket_of_two IsNotNegative (lift c) (lift d) (whole i) (whole j) (whole a) of_a)
          of_a.positive of_a.k_allowed of_a.l_allowed h k o.0
      not_below h k (inr o) = sum_least of_b.k of_b.l of_b.n (from_cd i) (from_cd j) (from_cd b)
          (bracket_of_two IsNotNegative (lift c) (lift d) (whole i) (whole j) (whole b) of_b)
          of_b.positive of_b.k_allowed of_b.l_allowed h k o.1

      not_above : from_cd i ≤ℤ pos 0 → from_cd j ≤ℤ pos 0 → AreOpposite (from_cd a) (from_cd b) → ⊥
      not_above h k (inl o) = sum_most of_b.k of_b.l of_b.n (from_cd i) (from_cd j) (from_cd b)
          (bracket_of_two IsNotNegative (lift c) (lift d) (whole i) (whole j) (whole b) of_b)
          of_b.positive of_b.k_allowed of_b.l_allowed h k o.1
      not_above h k (inr o) = sum_most of_a.k of_a.l of_a.n (from_cd i) (from_cd j) (from_cd a)
          (bracket_of_two IsNotNegative (lift c) (lift d) (whole i) (whole j) (whole a) of_a)
          of_a.positive of_a.k_allowed of_a.l_allowed h k o.0

  -- the common point is on the line of i and j
  on_line : bracket (lift i) (lift j) (vec cross.at) ≡ pos 0
  on_line = let t = two_weights IsPositive (whole a) (whole b) cross.at cross.within_first in
      zero_of_mul-zero_ℤ (pos-ne-zero_ℤ t.positive) (bracket_of_two IsPositive (lift i) (lift j)
      (whole a) (whole b) cross.at t ∙ sum_of_zeros (t.k *ℤ from_ij a) (t.l *ℤ from_ij b)
      (zero-mul_ℤ t.k (bracket_of_line (whole i) (whole j) (whole a) (inl on_a)))
      (zero-mul_ℤ t.l (bracket_of_line (whole i) (whole j) (whole b) (inl on_b))))

  others_parted :
      AreOpposite (bracket (lift i) (lift j) (lift c)) (bracket (lift i) (lift j) (lift d))
  others_parted = let t = two_weights IsPositive (whole c) (whole d) cross.at cross.within_second in
      opposite_if_none t.k t.l (from_ij c) (from_ij d) t.k_allowed t.l_allowed
      (sym (bracket_of_two IsPositive (lift i) (lift j) (whole c) (whole d) cross.at t)
      ∙ zero-mul_ℤ t.n on_line) (λ e f. not_flat ends_parted
      (flat i j (lift c) (lift d) (lift i) ij e f (bracket-outer (lift i) (lift j))))
    where
      not_flat : AreOpposite (from_cd i) (from_cd j) → from_cd i ≡ pos 0 → ⊥
      not_flat (inl o) e = zero_is_not_below (from_cd i) e o.0
      not_flat (inr o) e = zero_is_not_above (from_cd i) e o.0

  crosses_whole : Cross (whole i) (whole j) (whole c) (whole d)
  crosses_whole = cross_if (whole i) (whole j) (whole c) (whole d) others_parted ends_parted

-- what crosses a subconstraint of a path crosses the whole segment
pub subconstraint_crosses_whole : SubconstraintCrossesWhole
subconstraint_crosses_whole points i j a b c d distinct hi hj ij hc hd cd n cross =
    crosses_whole (point_of points i) (point_of points j) (point_of points a) (point_of points b)
    (point_of points c) (point_of points d)
    (λ e. distinct i j hi hj ij (ap whole e)) (apart a b n.first_index n.second_index n.apart)
    (apart c d hc hd cd) n.first n.second cross
  where
    apart : (k l : ℕ) → IsIndex points k → IsIndex points l → ¬ (k ≡ l)
        → ¬ IsSame (place points k) (place points l)
    apart k l hk hl m s =
        distinct k l hk hl m (ap whole (one_point (point_of points k) (point_of points l) s))
