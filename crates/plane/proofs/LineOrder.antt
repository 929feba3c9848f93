-- Points of one line in the order of their places on the way from one of them to another: between
-- in the plane is between in the order. Two segments of one line that overlap, none with an end
-- within the other, have the same ends.
-- Notions: IsBetween, AreOneSign; place_within, within_places, ahead, within_if_ahead,
-- ahead_if_within, same_if_level, level_if_same, overlap_by_average, overlap_ends.
use Rattle.std.proofs.Common.{◌≡◌, ◌⊎◌, [], ◌∷◌, ap, sym, ◌∙◌, subst, arith}
use mathlib.Core.Logic.{inl, inr}
use Rattle.std.specs.Prelude.{ℤ, pos, ◌+ℤ◌, ◌-ℤ◌, ◌*ℤ◌, ◌<ℤ◌}
use Rattle.std.proofs.lemmas.Int.{ints}
use lib.IntN.{*ℤ_comm}
use Rattle.plane.specs.{Fraction, IsPositive, IsSame, Point, whole, WithinSegment}
use Rattle.plane.proofs.Bracket.{bracket, lift, vec}
use Rattle.plane.proofs.BracketIdentities.{bracket-last, bracket-outer}
use Rattle.plane.proofs.Collinear.{line_x, line_y, mean_place, place_of_end, place_of_start}
use Rattle.plane.proofs.Collinear.{place_on, same_by_places, same_ends, within_by_places}
use Rattle.plane.proofs.IntegerOrder.{mul-neg_of_pos_neg_ℤ, mul-pos_ℤ, mul_cancel_ℤ}
use Rattle.plane.proofs.IntegerOrder.{neg_of_mul-neg_ℤ, pos-ne-zero_ℤ, pos_of_mul-pos_ℤ}
use Rattle.plane.proofs.IntegerOrder.{trichotomy_ℤ, zero-mul_ℤ, zero_of_mul-zero_ℤ}
use Rattle.plane.proofs.Means.{mean_of_two, turned_mean_of_two, two_weights, TwoWeights}
use Rattle.plane.proofs.{Signs.less_by_difference, Signs.sum_is_positive, Steps.one_number}
use Rattle.plane.proofs.Solver.{◌⊕◌, ◌⊖◌, ◌⊗◌, num, ring_in_from}

-- z is strictly between x and y
abbrev pub IsBetween : ℤ → ℤ → ℤ → Type 0
IsBetween x y z = ((x <ℤ z) × (z <ℤ y)) ⊎ ((y <ℤ z) × (z <ℤ x))

from_first : (k l n x y z : ℤ) → n *ℤ z ≡ k *ℤ x +ℤ l *ℤ y → n *ℤ pos 1 ≡ k *ℤ pos 1 +ℤ l *ℤ pos 1
    → n *ℤ (z -ℤ x) ≡ l *ℤ (y -ℤ x)
from_first k l n x y z e h = ring_in_from (k ∷ l ∷ n ∷ x ∷ y ∷ z ∷ []) (λ k l n x y z. n ⊗ (z ⊖ x))
    (λ k l n x y z. l ⊗ (y ⊖ x))
    (λ k l n x y z. (num 1, n ⊗ z, k ⊗ x ⊕ l ⊗ y) ∷ (num 0 ⊖ x, n ⊗ num 1, k ⊗ num 1 ⊕ l ⊗ num 1)
    ∷ []) (e, (h, tt)) tt

to_second : (k l n x y z : ℤ) → n *ℤ z ≡ k *ℤ x +ℤ l *ℤ y → n *ℤ pos 1 ≡ k *ℤ pos 1 +ℤ l *ℤ pos 1
    → n *ℤ (y -ℤ z) ≡ k *ℤ (y -ℤ x)
to_second k l n x y z e h = ring_in_from (k ∷ l ∷ n ∷ x ∷ y ∷ z ∷ []) (λ k l n x y z. n ⊗ (y ⊖ z))
    (λ k l n x y z. k ⊗ (y ⊖ x))
    (λ k l n x y z. (num 0 ⊖ num 1, n ⊗ z, k ⊗ x ⊕ l ⊗ y) ∷ (y, n ⊗ num 1, k ⊗ num 1 ⊕ l ⊗ num 1)
    ∷ []) (e, (h, tt)) tt

below_zero : (a b : ℤ) → (b -ℤ a) <ℤ pos 0 → b <ℤ a
below_zero a b h = omega (arith, ints)

-- a weighted average of two numbers is strictly between them, or all three are one
average_between : (k l n x y z : ℤ) → pos 0 <ℤ k → pos 0 <ℤ l → pos 0 <ℤ n → n *ℤ z ≡ k *ℤ x +ℤ l
    *ℤ y → n *ℤ pos 1 ≡ k *ℤ pos 1 +ℤ l *ℤ pos 1 → IsBetween x y z ⊎ ((x ≡ z) × (z ≡ y))
average_between k l n x y z hk hl hn e h = go (trichotomy_ℤ (y -ℤ x))
  where
    first : n *ℤ (z -ℤ x) ≡ l *ℤ (y -ℤ x)
    first = from_first k l n x y z e h

    second : n *ℤ (y -ℤ z) ≡ k *ℤ (y -ℤ x)
    second = to_second k l n x y z e h

    go : ((y -ℤ x) <ℤ pos 0) ⊎ ((y -ℤ x ≡ pos 0) ⊎ (pos 0 <ℤ (y -ℤ x)))
        → IsBetween x y z ⊎ ((x ≡ z) × (z ≡ y))
    go (inl b) = inl (inr (
      below_zero z y
          (neg_of_mul-neg_ℤ hn (subst (λ t. t <ℤ pos 0) (sym second) (mul-neg_of_pos_neg_ℤ hk b))),
      below_zero x z
          (neg_of_mul-neg_ℤ hn (subst (λ t. t <ℤ pos 0) (sym first) (mul-neg_of_pos_neg_ℤ hl b))),
    ))
    go (inr (inl b)) = inr (
      one_number x z (zero_of_mul-zero_ℤ (pos-ne-zero_ℤ hn) (first ∙ zero-mul_ℤ l b)),
      one_number z y (zero_of_mul-zero_ℤ (pos-ne-zero_ℤ hn) (second ∙ zero-mul_ℤ k b)),
    )
    go (inr (inr b)) = inl (inl (
      less_by_difference x z
          (pos_of_mul-pos_ℤ hn (subst (λ t. pos 0 <ℤ t) (sym first) (mul-pos_ℤ hl b))),
      less_by_difference z y
          (pos_of_mul-pos_ℤ hn (subst (λ t. pos 0 <ℤ t) (sym second) (mul-pos_ℤ hk b))),
    ))

-- a point strictly within a segment has its place between those of the ends
pub place_within : (u v a b z : Point) → WithinSegment (whole a) (whole b) (whole z)
    → IsBetween (place_on u v (lift a)) (place_on u v (lift b)) (place_on u v (lift z))
    ⊎ ((place_on u v (lift a) ≡ place_on u v (lift z))
    × (place_on u v (lift z) ≡ place_on u v (lift b)))
place_within u v a b z h =
    let t = two_weights IsPositive (whole a) (whole b) (whole z) h in
    average_between t.k t.l t.n (place_on u v (lift a)) (place_on u v (lift b))
    (place_on u v (lift z)) t.k_allowed t.l_allowed t.positive
    (mean_place IsPositive u v (whole a) (whole b) (whole z) t) t.w

-- a point of the line of u and v, with its place between those of two others, is strictly within
-- their segment
pub within_places : (u v : Point) → ¬ (u ≡ v) → (a b z : Point) → bracket (lift u) (lift v) (lift a)
    ≡ pos 0 → bracket (lift u) (lift v) (lift b) ≡ pos 0 → bracket (lift u) (lift v) (lift z)
    ≡ pos 0 → IsBetween (place_on u v (lift a)) (place_on u v (lift b)) (place_on u v (lift z))
    → WithinSegment (whole a) (whole b) (whole z)
within_places u v apart a b z on_a on_b on_z (inl o) =
    within_by_places u v apart a z b on_a on_z on_b o.0 o.1
within_places u v apart a b z on_a on_b on_z (inr o) = turned_mean_of_two IsPositive (whole b)
    (whole a) (whole z) (within_by_places u v apart b z a on_b on_z on_a o.0 o.1)

-- ---- fraction points of the line: how far b is ahead of a, times both denominators
-- how far b is ahead of a on the way from u to v, times both denominators
unfoldable pub ahead : Point → Point → Fraction → Fraction → ℤ
ahead u v a b = a.w *ℤ place_on u v (vec b) -ℤ b.w *ℤ place_on u v (vec a)

-- one coordinate of a point of the line between two others: l is the length, g the way, o the
-- start; a, b and z are points, f, h and i their places
mean_part : (l g o a aw f b bw h z zw i : ℤ) → pos 0 <ℤ l → l *ℤ (a -ℤ aw *ℤ o) ≡ f *ℤ g
    → l *ℤ (b -ℤ bw *ℤ o) ≡ h *ℤ g → l *ℤ (z -ℤ zw *ℤ o) ≡ i *ℤ g
    → (aw *ℤ h -ℤ bw *ℤ f) *ℤ z ≡ (zw *ℤ h -ℤ bw *ℤ i) *ℤ a +ℤ (aw *ℤ i -ℤ zw *ℤ f) *ℤ b
mean_part l g o a aw f b bw h z zw i positive e d c = mul_cancel_ℤ (pos-ne-zero_ℤ positive)
    (ring_in_from (l ∷ g ∷ o ∷ a ∷ aw ∷ f ∷ b ∷ bw ∷ h ∷ z ∷ zw ∷ i ∷ [])
    (λ l g o a aw f b bw h z zw i. l ⊗ ((aw ⊗ h ⊖ bw ⊗ f) ⊗ z))
    (λ l g o a aw f b bw h z zw i. l ⊗ ((zw ⊗ h ⊖ bw ⊗ i) ⊗ a ⊕ (aw ⊗ i ⊖ zw ⊗ f) ⊗ b))
    (λ l g o a aw f b bw h z zw i. (num 0 ⊖ (zw ⊗ h ⊖ bw ⊗ i), l ⊗ (a ⊖ aw ⊗ o), f ⊗ g)
    ∷ (num 0 ⊖ (aw ⊗ i ⊖ zw ⊗ f), l ⊗ (b ⊖ bw ⊗ o), h ⊗ g)
    ∷ (aw ⊗ h ⊖ bw ⊗ f, l ⊗ (z ⊖ zw ⊗ o), i ⊗ g) ∷ []) (e, (d, (c, tt))) tt)

mean_weight : (aw f bw h zw i : ℤ)
    → (aw *ℤ h -ℤ bw *ℤ f) *ℤ zw ≡ (zw *ℤ h -ℤ bw *ℤ i) *ℤ aw +ℤ (aw *ℤ i -ℤ zw *ℤ f) *ℤ bw
mean_weight aw f bw h zw i =
    ring_in_from (aw ∷ f ∷ bw ∷ h ∷ zw ∷ i ∷ []) (λ aw f bw h zw i. (aw ⊗ h ⊖ bw ⊗ f) ⊗ zw)
    (λ aw f bw h zw i. (zw ⊗ h ⊖ bw ⊗ i) ⊗ aw ⊕ (aw ⊗ i ⊖ zw ⊗ f) ⊗ bw) (λ aw f bw h zw i. []) tt tt

part_of_sum : (n w k a l b : ℤ) → n *ℤ w ≡ k *ℤ a +ℤ l *ℤ b → pos 0 <ℤ w → pos 0 <ℤ k → pos 0 <ℤ a
    → pos 0 <ℤ l → pos 0 <ℤ b → pos 0 <ℤ n
part_of_sum n w k a l b e hw hk ha hl hb = pos_of_mul-pos_ℤ hw (subst (λ t. pos 0 <ℤ t)
    (sym e ∙ *ℤ_comm n w) (sum_is_positive (k *ℤ a) (l *ℤ b) (mul-pos_ℤ hk ha) (mul-pos_ℤ hl hb)))

-- z ahead of a, and b ahead of z: z is strictly within the segment of a and b
pub within_if_ahead : (u v : Point) → ¬ (u ≡ v) → (a b z : Fraction)
    → bracket (lift u) (lift v) (vec a) ≡ pos 0 → bracket (lift u) (lift v) (vec b) ≡ pos 0
    → bracket (lift u) (lift v) (vec z) ≡ pos 0 → pos 0 <ℤ ahead u v a z → pos 0 <ℤ ahead u v z b
    → WithinSegment a b z
unfolding ahead
within_if_ahead u v apart a b z on_a on_b on_z h k =
    let f = place_on u v (vec a) in
    let g = place_on u v (vec b) in
    let i = place_on u v (vec z) in
    mean_of_two IsPositive a b z (record {
      k = z.w *ℤ g -ℤ b.w *ℤ i;
      l = a.w *ℤ i -ℤ z.w *ℤ f;
      n = a.w *ℤ g -ℤ b.w *ℤ f;
      k_allowed = k;
      l_allowed = h;
      positive = part_of_sum (a.w *ℤ g -ℤ b.w *ℤ f) z.w (z.w *ℤ g -ℤ b.w *ℤ i) a.w (a.w *ℤ i -ℤ z.w
          *ℤ f) b.w (mean_weight a.w f b.w g z.w i) z.positive k a.positive h b.positive;
      x = mean_part (place_on u v (lift v)) (v.x -ℤ u.x) u.x a.x a.w f b.x b.w g z.x z.w i
          (place_of_end u v apart) (line_x u v (vec a) on_a) (line_x u v (vec b) on_b)
          (line_x u v (vec z) on_z);
      y = mean_part (place_on u v (lift v)) (v.y -ℤ u.y) u.y a.y a.w f b.y b.w g z.y z.w i
          (place_of_end u v apart) (line_y u v (vec a) on_a) (line_y u v (vec b) on_b)
          (line_y u v (vec z) on_z);
      w = mean_weight a.w f b.w g z.w i;
    })

to_mean : (k l n aw f bw h zw i : ℤ) → n *ℤ i ≡ k *ℤ f +ℤ l *ℤ h → n *ℤ zw ≡ k *ℤ aw +ℤ l *ℤ bw
    → n *ℤ (aw *ℤ i -ℤ zw *ℤ f) ≡ l *ℤ (aw *ℤ h -ℤ bw *ℤ f)
to_mean k l n aw f bw h zw i e d = ring_in_from (k ∷ l ∷ n ∷ aw ∷ f ∷ bw ∷ h ∷ zw ∷ i ∷ [])
    (λ k l n aw f bw h zw i. n ⊗ (aw ⊗ i ⊖ zw ⊗ f)) (λ k l n aw f bw h zw i. l ⊗ (aw ⊗ h ⊖ bw ⊗ f))
    (λ k l n aw f bw h zw i. (aw, n ⊗ i, k ⊗ f ⊕ l ⊗ h) ∷ (num 0 ⊖ f, n ⊗ zw, k ⊗ aw ⊕ l ⊗ bw) ∷ [])
    (e, (d, tt)) tt

from_mean : (k l n aw f bw h zw i : ℤ) → n *ℤ i ≡ k *ℤ f +ℤ l *ℤ h → n *ℤ zw ≡ k *ℤ aw +ℤ l *ℤ bw
    → n *ℤ (zw *ℤ h -ℤ bw *ℤ i) ≡ k *ℤ (aw *ℤ h -ℤ bw *ℤ f)
from_mean k l n aw f bw h zw i e d = ring_in_from (k ∷ l ∷ n ∷ aw ∷ f ∷ bw ∷ h ∷ zw ∷ i ∷ [])
    (λ k l n aw f bw h zw i. n ⊗ (zw ⊗ h ⊖ bw ⊗ i)) (λ k l n aw f bw h zw i. k ⊗ (aw ⊗ h ⊖ bw ⊗ f))
    (λ k l n aw f bw h zw i. (num 0 ⊖ bw, n ⊗ i, k ⊗ f ⊕ l ⊗ h) ∷ (h, n ⊗ zw, k ⊗ aw ⊕ l ⊗ bw) ∷ [])
    (e, (d, tt)) tt

-- two numbers of one sign
abbrev pub AreOneSign : ℤ → ℤ → Type 0
AreOneSign x y = ((pos 0 <ℤ x) × (pos 0 <ℤ y))
    ⊎ (((x <ℤ pos 0) × (y <ℤ pos 0)) ⊎ ((x ≡ pos 0) × (y ≡ pos 0)))

-- and back
pub ahead_if_within : (u v : Point) (a b z : Fraction) → WithinSegment a b z
    → AreOneSign (ahead u v a z) (ahead u v z b)
unfolding ahead
ahead_if_within u v a b z h =
    go (trichotomy_ℤ (a.w *ℤ place_on u v (vec b) -ℤ b.w *ℤ place_on u v (vec a)))
  where
    t : TwoWeights IsPositive a b z
    t = two_weights IsPositive a b z h

    first : t.n *ℤ (a.w *ℤ place_on u v (vec z) -ℤ z.w *ℤ place_on u v (vec a))
        ≡ t.l *ℤ (a.w *ℤ place_on u v (vec b) -ℤ b.w *ℤ place_on u v (vec a))
    first = to_mean t.k t.l t.n a.w (place_on u v (vec a)) b.w (place_on u v (vec b)) z.w
        (place_on u v (vec z)) (mean_place IsPositive u v a b z t) t.w

    second : t.n *ℤ (z.w *ℤ place_on u v (vec b) -ℤ b.w *ℤ place_on u v (vec z))
        ≡ t.k *ℤ (a.w *ℤ place_on u v (vec b) -ℤ b.w *ℤ place_on u v (vec a))
    second = from_mean t.k t.l t.n a.w (place_on u v (vec a)) b.w (place_on u v (vec b)) z.w
        (place_on u v (vec z)) (mean_place IsPositive u v a b z t) t.w

    go : ((a.w *ℤ place_on u v (vec b) -ℤ b.w *ℤ place_on u v (vec a)) <ℤ pos 0)
        ⊎ ((a.w *ℤ place_on u v (vec b) -ℤ b.w *ℤ place_on u v (vec a) ≡ pos 0)
        ⊎ (pos 0 <ℤ (a.w *ℤ place_on u v (vec b) -ℤ b.w *ℤ place_on u v (vec a))))
        → AreOneSign (a.w *ℤ place_on u v (vec z) -ℤ z.w *ℤ place_on u v (vec a))
        (z.w *ℤ place_on u v (vec b) -ℤ b.w *ℤ place_on u v (vec z))
    go (inl b) = inr (inl (
      neg_of_mul-neg_ℤ t.positive
          (subst (λ o. o <ℤ pos 0) (sym first) (mul-neg_of_pos_neg_ℤ t.l_allowed b)),
      neg_of_mul-neg_ℤ t.positive
          (subst (λ o. o <ℤ pos 0) (sym second) (mul-neg_of_pos_neg_ℤ t.k_allowed b)),
    ))
    go (inr (inl b)) =
        inr (inr (
          zero_of_mul-zero_ℤ (pos-ne-zero_ℤ t.positive) (first ∙ zero-mul_ℤ t.l b),
          zero_of_mul-zero_ℤ (pos-ne-zero_ℤ t.positive) (second ∙ zero-mul_ℤ t.k b),
        ))
    go (inr (inr b)) = inl (
      pos_of_mul-pos_ℤ t.positive (subst (λ o. pos 0 <ℤ o) (sym first) (mul-pos_ℤ t.l_allowed b)),
      pos_of_mul-pos_ℤ t.positive (subst (λ o. pos 0 <ℤ o) (sym second) (mul-pos_ℤ t.k_allowed b)),
    )

-- none ahead of the other: one point
pub same_if_level : (u v : Point) → ¬ (u ≡ v) → (a b : Fraction) → bracket (lift u) (lift v) (vec a)
    ≡ pos 0 → bracket (lift u) (lift v) (vec b) ≡ pos 0 → ahead u v a b ≡ pos 0 → IsSame a b
unfolding ahead
same_if_level u v apart a b on_a on_b e = record {
  x = part (place_on u v (lift v)) (v.x -ℤ u.x) u.x a.x a.w (place_on u v (vec a)) b.x b.w
      (place_on u v (vec b)) (place_of_end u v apart) (line_x u v (vec a) on_a)
      (line_x u v (vec b) on_b) e;
  y = part (place_on u v (lift v)) (v.y -ℤ u.y) u.y a.y a.w (place_on u v (vec a)) b.y b.w
      (place_on u v (vec b)) (place_of_end u v apart) (line_y u v (vec a) on_a)
      (line_y u v (vec b) on_b) e;
}
  where
    part : (l g o a aw f b bw h : ℤ) → pos 0 <ℤ l → l *ℤ (a -ℤ aw *ℤ o) ≡ f *ℤ g
        → l *ℤ (b -ℤ bw *ℤ o) ≡ h *ℤ g → aw *ℤ h -ℤ bw *ℤ f ≡ pos 0 → a *ℤ bw ≡ b *ℤ aw
    part l g o a aw f b bw h positive e d c = mul_cancel_ℤ (pos-ne-zero_ℤ positive)
        (ring_in_from (l ∷ g ∷ o ∷ a ∷ aw ∷ f ∷ b ∷ bw ∷ h ∷ [])
        (λ l g o a aw f b bw h. l ⊗ (a ⊗ bw)) (λ l g o a aw f b bw h. l ⊗ (b ⊗ aw))
        (λ l g o a aw f b bw h. (bw, l ⊗ (a ⊖ aw ⊗ o), f ⊗ g) ∷ (
          num 0 ⊖ aw,
          l ⊗ (b ⊖ bw ⊗ o),
          h ⊗ g,
        ) ∷ (num 0 ⊖ g, aw ⊗ h ⊖ bw ⊗ f, num 0) ∷ []) (e, (d, (c, tt))) tt)

-- of two fraction points that are the same, neither is ahead on the way from u to v
pub level_if_same : (u v : Point) (a b : Fraction) → IsSame a b → ahead u v a b ≡ pos 0
unfolding ahead place_on
level_if_same u v a b s =
    ring_in_from (u.x ∷ u.y ∷ v.x ∷ v.y ∷ a.x ∷ a.y ∷ a.w ∷ b.x ∷ b.y ∷ b.w ∷ [])
    (λ ux uy vx vy ax ay aw bx by bw. aw ⊗ ((vx ⊖ ux) ⊗ (bx ⊖ bw ⊗ ux) ⊕ (vy ⊖ uy) ⊗ (by ⊖ bw ⊗ uy))
    ⊖ bw ⊗ ((vx ⊖ ux) ⊗ (ax ⊖ aw ⊗ ux) ⊕ (vy ⊖ uy) ⊗ (ay ⊖ aw ⊗ uy)))
    (λ ux uy vx vy ax ay aw bx by bw. num 0)
    (λ ux uy vx vy ax ay aw bx by bw. (num 0 ⊖ (vx ⊖ ux), ax ⊗ bw, bx ⊗ aw)
    ∷ (num 0 ⊖ (vy ⊖ uy), ay ⊗ bw, by ⊗ aw) ∷ []) (s.x, (s.y, tt)) tt

-- ---- two segments of one line, of u v and of s t, with a common point strictly within both
-- one point, a mean of two pairs: the two sides of a common multiple
common_average : (n m k l g d fy s t e : ℤ) → n *ℤ fy ≡ k *ℤ pos 0 +ℤ l *ℤ e
    → m *ℤ fy ≡ g *ℤ s +ℤ d *ℤ t → (n *ℤ d) *ℤ t +ℤ (n *ℤ g) *ℤ s ≡ (m *ℤ l) *ℤ e
common_average n m k l g d fy s t e h i = ring_in_from (n ∷ m ∷ k ∷ l ∷ g ∷ d ∷ fy ∷ s ∷ t ∷ e ∷ [])
    (λ n m k l g d fy s t e. (n ⊗ d) ⊗ t ⊕ (n ⊗ g) ⊗ s) (λ n m k l g d fy s t e. (m ⊗ l) ⊗ e)
    (λ n m k l g d fy s t e. (m, n ⊗ fy, k ⊗ num 0 ⊕ l ⊗ e) ∷ (num 0 ⊖ n, m ⊗ fy, g ⊗ s ⊕ d ⊗ t)
    ∷ []) (h, (i, tt)) tt

common_weight : (n m k l g d w : ℤ) → n *ℤ w ≡ k *ℤ pos 1 +ℤ l *ℤ pos 1
    → m *ℤ w ≡ g *ℤ pos 1 +ℤ d *ℤ pos 1 → n *ℤ d +ℤ n *ℤ g -ℤ m *ℤ l ≡ m *ℤ k
common_weight n m k l g d w h i = ring_in_from (n ∷ m ∷ k ∷ l ∷ g ∷ d ∷ w ∷ [])
    (λ n m k l g d w. n ⊗ d ⊕ n ⊗ g ⊖ m ⊗ l) (λ n m k l g d w. m ⊗ k)
    (λ n m k l g d w. (m, n ⊗ w, k ⊗ num 1 ⊕ l ⊗ num 1) ∷ (num 0 ⊖ n, m ⊗ w, g ⊗ num 1 ⊕ d ⊗ num 1)
    ∷ []) (h, (i, tt)) tt

below_by : (a b c : ℤ) → a -ℤ b ≡ c → pos 0 <ℤ c → b <ℤ a
below_by a b c e h = omega (arith, ints)

module _ (u v s t : Point) (apart : ¬ (u ≡ v)) (on_s : bracket (lift u) (lift v) (lift s) ≡ pos 0)
    (on_t : bracket (lift u) (lift v) (lift t) ≡ pos 0) where
  -- u is on the line of u and v
  on_u : bracket (lift u) (lift v) (lift u) ≡ pos 0
  on_u = bracket-outer (lift u) (lift v)

  -- and so is v
  on_v : bracket (lift u) (lift v) (lift v) ≡ pos 0
  on_v = bracket-last (lift u) (lift v)

  after_start : (z : ℤ) → pos 0 <ℤ z → place_on u v (lift u) <ℤ z
  after_start z h = subst (λ y. y <ℤ z) (sym (place_of_start u v)) h

  before_start : (z : ℤ) → z <ℤ pos 0 → z <ℤ place_on u v (lift u)
  before_start z h = subst (λ y. z <ℤ y) (sym (place_of_start u v)) h

  -- here the common point is told by the weights of s and t, and by the weight of v in another
  -- average
  pub overlap_by_average : (a b w : ℤ) → pos 0 <ℤ a → pos 0 <ℤ b → pos 0 <ℤ w
      → a *ℤ place_on u v (lift t) +ℤ b *ℤ place_on u v (lift s) ≡ w *ℤ place_on u v (lift v)
      → w <ℤ (a +ℤ b) → ¬ WithinSegment (whole u) (whole v) (whole s)
      → ¬ WithinSegment (whole u) (whole v) (whole t)
      → ¬ WithinSegment (whole s) (whole t) (whole u)
      → ¬ WithinSegment (whole s) (whole t) (whole v) → ((s ≡ u) × (t ≡ v)) ⊎ ((s ≡ v) × (t ≡ u))
  overlap_by_average a b w ha hb hw average weights out_s out_t out_u out_v =
      go (same_ends a b w (place_on u v (lift v)) (place_on u v (lift s))
      (place_on u v (lift t)) ha hb hw (place_of_end u v apart) average weights
      (λ h i. out_s (within_by_places u v apart u s v on_u on_s on_v
      (after_start (place_on u v (lift s)) h) i))
      (λ h i. out_t (within_by_places u v apart u t v on_u on_t on_v
      (after_start (place_on u v (lift t)) h) i))
      (λ h i. out_u (within_by_places u v apart s u t on_s on_u on_t
      (before_start (place_on u v (lift s)) h) (after_start (place_on u v (lift t)) i)))
      (λ h i. out_u (turned_mean_of_two IsPositive (whole t) (whole s) (whole u)
      (within_by_places u v apart t u s on_t on_u on_s (before_start (place_on u v (lift t)) h)
      (after_start (place_on u v (lift s)) i))))
      (λ h i. out_v (within_by_places u v apart s v t on_s on_v on_t h i))
      (λ h i. out_v (turned_mean_of_two IsPositive (whole t) (whole s) (whole v)
      (within_by_places u v apart t v s on_t on_v on_s h i))))
    where
      go : ((place_on u v (lift s) ≡ pos 0) × (place_on u v (lift t) ≡ place_on u v (lift v)))
          ⊎ ((place_on u v (lift s) ≡ place_on u v (lift v)) × (place_on u v (lift t) ≡ pos 0))
          → ((s ≡ u) × (t ≡ v)) ⊎ ((s ≡ v) × (t ≡ u))
      go (inl e) = inl (
        same_by_places u v apart s u on_s on_u (e.0 ∙ sym (place_of_start u v)),
        same_by_places u v apart t v on_t on_v e.1,
      )
      go (inr e) = inr (
        same_by_places u v apart s v on_s on_v e.0,
        same_by_places u v apart t u on_t on_u (e.1 ∙ sym (place_of_start u v)),
      )

  -- and here it is given
  pub overlap_ends : (y : Fraction) → WithinSegment (whole u) (whole v) y
      → WithinSegment (whole s) (whole t) y → ¬ WithinSegment (whole u) (whole v) (whole s)
      → ¬ WithinSegment (whole u) (whole v) (whole t)
      → ¬ WithinSegment (whole s) (whole t) (whole u)
      → ¬ WithinSegment (whole s) (whole t) (whole v) → ((s ≡ u) × (t ≡ v)) ⊎ ((s ≡ v) × (t ≡ u))
  overlap_ends y w w' =
      let f = two_weights IsPositive (whole u) (whole v) y w in
      let g = two_weights IsPositive (whole s) (whole t) y w' in
      overlap_by_average (f.n *ℤ g.l) (f.n *ℤ g.k) (g.n *ℤ f.l) (mul-pos_ℤ f.positive g.l_allowed)
      (mul-pos_ℤ f.positive g.k_allowed) (mul-pos_ℤ g.positive f.l_allowed)
      (common_average f.n g.n f.k f.l g.k g.l (place_on u v (vec y)) (place_on u v (lift s))
      (place_on u v (lift t)) (place_on u v (lift v))
      (mean_place IsPositive u v (whole u) (whole v) y f
      ∙ ap (λ z. f.k *ℤ z +ℤ f.l *ℤ place_on u v (lift v)) (place_of_start u v))
      (mean_place IsPositive u v (whole s) (whole t) y g))
      (below_by (f.n *ℤ g.l +ℤ f.n *ℤ g.k) (g.n *ℤ f.l) (g.n *ℤ f.k)
      (common_weight f.n g.n f.k f.l g.k g.l y.w f.w g.w) (mul-pos_ℤ g.positive f.k_allowed))
