-- Points of a segment, by the bracket and by how far they are from one end towards the other.
-- same-refl, same-sym, same-trans: `IsSame` is an equivalence
-- on_segment-same, within_segment-same: a point equal to one of a segment is one of it
-- start_on_segment, end_on_segment: the ends are on their segment
-- on_of_within: strictly within a segment, so on it
-- only_point, within_itself: a segment with equal ends has one point, and that one is within it
-- reach u v z: how far z is from u towards v: 0 at u, and growing towards v
-- reach-start, reach-end: the reach of u is 0; that of v is positive where u and v differ
-- reach_of_two: the reach of a mean is the mean of the reaches
-- on_segment_is, within_segment_is: on a segment with different ends, or strictly within it, are
--   the points with bracket 0 and a reach between those of the ends
use Rattle.std.proofs.Common.{◌≡◌, ◌↔◌, [], ◌∷◌, refl, arith, sym, subst}
use mathlib.Core.Logic.{inl}
use Rattle.std.specs.Prelude.{ℤ, pos, ◌<ℤ◌, ◌≤ℤ◌, ◌*ℤ◌, ◌+ℤ◌, ◌-ℤ◌}
use Rattle.std.proofs.lemmas.Int.{ints}
use Rattle.plane.specs.{Fraction, IsNotNegative, IsPositive, IsSame, OnSegment, rise, run}
use Rattle.plane.specs.{WithinSegment}
use Rattle.plane.proofs.Bracket.{bracket, bracketᵖ, vec, vec3, Vec3ᵖ}
use Rattle.plane.proofs.IntegerOrder.{above, below, mul-nonneg_ℤ, mul-pos_ℤ, none}
use Rattle.plane.proofs.IntegerOrder.{nonneg_of_mul-nonneg_ℤ, pos-ne-zero_ℤ, pos_of_mul-pos_ℤ, Sign}
use Rattle.plane.proofs.IntegerOrder.{sign, square-nonneg_ℤ, square-pos_ℤ, zero-mul_ℤ}
use Rattle.plane.proofs.{IntegerOrder.zero_of_mul-zero_ℤ, Signs.positive_plus_not_negative}
use Rattle.plane.proofs.{Lines.bracket_of_line, Solver.ring_over_from, Steps.one_number, Steps.weak}
use Rattle.plane.proofs.Means.{mean_of_two, two_weights, TwoWeights, weak_two}
use Rattle.plane.proofs.Signs.{negative_is_not_zero, not_negative_plus_positive}
use Rattle.plane.proofs.Solver.{◌⊕◌, ◌⊖◌, ◌⊗◌, num, Poly, ring_in, ring_in_from, ring_over}

-- ---- one and the same point
difference_zero : (a b : ℤ) → a ≡ b → b -ℤ a ≡ pos 0
difference_zero a b e = omega (arith, ints)

-- the run and the rise between two points are 0
pub same_is_no_vector : (p q : Fraction) → IsSame p q ↔ ((run p q ≡ pos 0) × (rise p q ≡ pos 0))
same_is_no_vector p q = (
  (λ e. (
    difference_zero (p.x *ℤ q.w) (q.x *ℤ p.w) e.x,
    difference_zero (p.y *ℤ q.w) (q.y *ℤ p.w) e.y,
  )),
  (λ z. record {
    x = one_number (p.x *ℤ q.w) (q.x *ℤ p.w) z.0;
    y = one_number (p.y *ℤ q.w) (q.y *ℤ p.w) z.1;
  }),
)

-- a point is the same as itself
pub same-refl : (p : Fraction) → IsSame p p
same-refl p = record { x = refl; y = refl }

-- either way round
pub same-sym : (p q : Fraction) → IsSame p q → IsSame q p
same-sym p q e = record { x = sym e.x; y = sym e.y }

chained : (a p b q c r : ℤ) → ¬ (q ≡ pos 0) → a *ℤ q ≡ b *ℤ p → b *ℤ r ≡ c *ℤ q → a *ℤ r ≡ c *ℤ p
chained a p b q c r n e d =
    one_number (a *ℤ r) (c *ℤ p) (zero_of_mul-zero_ℤ {k = q} {x = c *ℤ p -ℤ a *ℤ r} n
    (ring_in_from (a ∷ p ∷ b ∷ q ∷ c ∷ r ∷ []) (λ a p b q c r. q ⊗ (c ⊗ p ⊖ a ⊗ r))
    (λ a p b q c r. num 0) (λ a p b q c r. (num 0 ⊖ r, a ⊗ q, b ⊗ p) ∷ (num 0 ⊖ p, b ⊗ r, c ⊗ q)
    ∷ []) (e, (d, tt)) tt))

-- one after another
pub same-trans : (p q r : Fraction) → IsSame p q → IsSame q r → IsSame p r
same-trans p q r e d = record {
  x = chained p.x p.w q.x q.w r.x r.w (pos-ne-zero_ℤ q.positive) e.x d.x;
  y = chained p.y p.w q.y q.w r.y r.w (pos-ne-zero_ℤ q.positive) e.y d.y;
}

-- a mean stays one at the same point
same_part : (k l n a b p pw q qw : ℤ) → n *ℤ p ≡ k *ℤ a +ℤ l *ℤ b → p *ℤ qw ≡ q *ℤ pw
    → (n *ℤ pw) *ℤ q ≡ (qw *ℤ k) *ℤ a +ℤ (qw *ℤ l) *ℤ b
same_part k l n a b p pw q qw e d = ring_in_from (k ∷ l ∷ n ∷ a ∷ b ∷ p ∷ pw ∷ q ∷ qw ∷ [])
    (λ k l n a b p pw q qw. (n ⊗ pw) ⊗ q) (λ k l n a b p pw q qw. (qw ⊗ k) ⊗ a ⊕ (qw ⊗ l) ⊗ b)
    (λ k l n a b p pw q qw. (qw, n ⊗ p, k ⊗ a ⊕ l ⊗ b) ∷ (num 0 ⊖ n, p ⊗ qw, q ⊗ pw) ∷ [])
    (e, (d, tt)) tt

same_weight : (k l n a b pw qw : ℤ) → n *ℤ pw ≡ k *ℤ a +ℤ l *ℤ b
    → (n *ℤ pw) *ℤ qw ≡ (qw *ℤ k) *ℤ a +ℤ (qw *ℤ l) *ℤ b
same_weight k l n a b pw qw e = ring_in_from (k ∷ l ∷ n ∷ a ∷ b ∷ pw ∷ qw ∷ [])
    (λ k l n a b pw qw. (n ⊗ pw) ⊗ qw) (λ k l n a b pw qw. (qw ⊗ k) ⊗ a ⊕ (qw ⊗ l) ⊗ b)
    (λ k l n a b pw qw. (qw, n ⊗ pw, k ⊗ a ⊕ l ⊗ b) ∷ []) (e, tt) tt

-- of a closed segment
pub on_segment-same : (u v p q : Fraction) → IsSame p q → OnSegment u v p → OnSegment u v q
on_segment-same u v p q e h = let t = two_weights IsNotNegative u v p h in
    mean_of_two IsNotNegative u v q (record {
      k = q.w *ℤ t.k;
      l = q.w *ℤ t.l;
      n = t.n *ℤ p.w;
      k_allowed = mul-nonneg_ℤ (weak q.positive) t.k_allowed;
      l_allowed = mul-nonneg_ℤ (weak q.positive) t.l_allowed;
      positive = mul-pos_ℤ t.positive p.positive;
      x = same_part t.k t.l t.n u.x v.x p.x p.w q.x q.w t.x e.x;
      y = same_part t.k t.l t.n u.y v.y p.y p.w q.y q.w t.y e.y;
      w = same_weight t.k t.l t.n u.w v.w p.w q.w t.w;
    })

-- within a segment
pub within_segment-same : (u v p q : Fraction) → IsSame p q → WithinSegment u v p
    → WithinSegment u v q
within_segment-same u v p q e h = let t = two_weights IsPositive u v p h in
    mean_of_two IsPositive u v q (record {
      k = q.w *ℤ t.k;
      l = q.w *ℤ t.l;
      n = t.n *ℤ p.w;
      k_allowed = mul-pos_ℤ q.positive t.k_allowed;
      l_allowed = mul-pos_ℤ q.positive t.l_allowed;
      positive = mul-pos_ℤ t.positive p.positive;
      x = same_part t.k t.l t.n u.x v.x p.x p.w q.x q.w t.x e.x;
      y = same_part t.k t.l t.n u.y v.y p.y p.w q.y q.w t.y e.y;
      w = same_weight t.k t.l t.n u.w v.w p.w q.w t.w;
    })

-- what is strictly within a segment is on it
pub on_of_within : (u v p : Fraction) → WithinSegment u v p → OnSegment u v p
on_of_within u v p h =
    mean_of_two IsNotNegative u v p (weak_two u v p (two_weights IsPositive u v p h))

-- ---- the ends
-- all of the first and none of the second is the first
pub start_part : (a b : ℤ) → pos 1 *ℤ a ≡ pos 1 *ℤ a +ℤ pos 0 *ℤ b
start_part a b = ring_in (a ∷ b ∷ []) (λ a b. num 1 ⊗ a) (λ a b. num 1 ⊗ a ⊕ num 0 ⊗ b) tt

end_part : (a b : ℤ) → pos 1 *ℤ b ≡ pos 0 *ℤ a +ℤ pos 1 *ℤ b
end_part a b = ring_in (a ∷ b ∷ []) (λ a b. num 1 ⊗ b) (λ a b. num 0 ⊗ a ⊕ num 1 ⊗ b) tt

-- the start is on the segment
pub start_on_segment : (u v : Fraction) → OnSegment u v u
start_on_segment u v = mean_of_two IsNotNegative u v u (record {
  k = pos 1;
  l = pos 0;
  n = pos 1;
  k_allowed = record { le = tt };
  l_allowed = record { le = tt };
  positive = record { lt = tt };
  x = start_part u.x v.x;
  y = start_part u.y v.y;
  w = start_part u.w v.w;
})

-- the end is on the segment
pub end_on_segment : (u v : Fraction) → OnSegment u v v
end_on_segment u v = mean_of_two IsNotNegative u v v (record {
  k = pos 0;
  l = pos 1;
  n = pos 1;
  k_allowed = record { le = tt };
  l_allowed = record { le = tt };
  positive = record { lt = tt };
  x = end_part u.x v.x;
  y = end_part u.y v.y;
  w = end_part u.w v.w;
})

-- ---- a segment with equal ends has one point
one_part : (k l n a aw b bw p pw : ℤ) → n *ℤ p ≡ k *ℤ a +ℤ l *ℤ b → n *ℤ pw ≡ k *ℤ aw +ℤ l *ℤ bw
    → a *ℤ bw ≡ b *ℤ aw → n *ℤ (a *ℤ pw -ℤ p *ℤ aw) ≡ pos 0
one_part k l n a aw b bw p pw e d c = ring_in_from (k ∷ l ∷ n ∷ a ∷ aw ∷ b ∷ bw ∷ p ∷ pw ∷ [])
    (λ k l n a aw b bw p pw. n ⊗ (a ⊗ pw ⊖ p ⊗ aw)) (λ k l n a aw b bw p pw. num 0)
    (λ k l n a aw b bw p pw. (num 0 ⊖ aw, n ⊗ p, k ⊗ a ⊕ l ⊗ b) ∷ (a, n ⊗ pw, k ⊗ aw ⊕ l ⊗ bw)
    ∷ (l, a ⊗ bw, b ⊗ aw) ∷ []) (e, (d, (c, tt))) tt

-- each of its points is that one
pub only_point : (u v p : Fraction) → IsSame u v → OnSegment u v p → IsSame p u
only_point u v p e h = let t = two_weights IsNotNegative u v p h in record {
  x = one_number (p.x *ℤ u.w) (u.x *ℤ p.w) (zero_of_mul-zero_ℤ (pos-ne-zero_ℤ t.positive)
      (one_part t.k t.l t.n u.x u.w v.x v.w p.x p.w t.x t.w e.x));
  y = one_number (p.y *ℤ u.w) (u.y *ℤ p.w) (zero_of_mul-zero_ℤ (pos-ne-zero_ℤ t.positive)
      (one_part t.k t.l t.n u.y u.w v.y v.w p.y p.w t.y t.w e.y));
}

halves_part : (a aw b bw p pw : ℤ) → p *ℤ aw ≡ a *ℤ pw → a *ℤ bw ≡ b *ℤ aw
    → (pos 2 *ℤ (aw *ℤ bw)) *ℤ p ≡ (pw *ℤ bw) *ℤ a +ℤ (pw *ℤ aw) *ℤ b
halves_part a aw b bw p pw e d = ring_in_from (a ∷ aw ∷ b ∷ bw ∷ p ∷ pw ∷ [])
    (λ a aw b bw p pw. (num 2 ⊗ (aw ⊗ bw)) ⊗ p) (λ a aw b bw p pw. (pw ⊗ bw) ⊗ a ⊕ (pw ⊗ aw) ⊗ b)
    (λ a aw b bw p pw. (num 2 ⊗ bw, p ⊗ aw, a ⊗ pw) ∷ (pw, a ⊗ bw, b ⊗ aw) ∷ []) (e, (d, tt)) tt

halves_weight : (aw bw pw : ℤ) → (pos 2 *ℤ (aw *ℤ bw)) *ℤ pw ≡ (pw *ℤ bw) *ℤ aw +ℤ (pw *ℤ aw) *ℤ bw
halves_weight aw bw pw = ring_in (aw ∷ bw ∷ pw ∷ []) (λ aw bw pw. (num 2 ⊗ (aw ⊗ bw)) ⊗ pw)
    (λ aw bw pw. (pw ⊗ bw) ⊗ aw ⊕ (pw ⊗ aw) ⊗ bw) tt

-- and it is within, under positive weights
pub within_itself : (u v p : Fraction) → IsSame u v → IsSame p u → WithinSegment u v p
within_itself u v p e d = mean_of_two IsPositive u v p (record {
  k = p.w *ℤ v.w;
  l = p.w *ℤ u.w;
  n = pos 2 *ℤ (u.w *ℤ v.w);
  k_allowed = mul-pos_ℤ p.positive v.positive;
  l_allowed = mul-pos_ℤ p.positive u.positive;
  positive = mul-pos_ℤ {a = pos 2} (record { lt = tt }) (mul-pos_ℤ u.positive v.positive);
  x = halves_part u.x u.w v.x v.w p.x p.w d.x e.x;
  y = halves_part u.y u.w v.y v.w p.y p.w d.y e.y;
  w = halves_weight u.w v.w p.w;
})

-- ---- how far z is on the way from u to v: 0 at u, and growing towards v
-- how far z is on the way from u to v
unfoldable pub reach : Fraction → Fraction → Fraction → ℤ
reach u v z = run u v *ℤ run u z +ℤ rise u v *ℤ rise u z

-- the way from p to q in x, as a polynomial
abbrev pub runᵖ : Vec3ᵖ → Vec3ᵖ → Poly
runᵖ p q = q.x ⊗ p.w ⊖ p.x ⊗ q.w

-- the way from p to q in y, as a polynomial
abbrev pub riseᵖ : Vec3ᵖ → Vec3ᵖ → Poly
riseᵖ p q = q.y ⊗ p.w ⊖ p.y ⊗ q.w

-- how far z is on the way from u to v, as a polynomial
abbrev pub reachᵖ : Vec3ᵖ → Vec3ᵖ → Vec3ᵖ → Poly
reachᵖ u v z = runᵖ u v ⊗ runᵖ u z ⊕ riseᵖ u v ⊗ riseᵖ u z

-- the start is at 0
pub reach-start : (u v : Fraction) → reach u v u ≡ pos 0
unfolding reach
reach-start u v = ring_over vec3 [] (vec u ∷ vec v ∷ []) (λ u v. reachᵖ u v u) (λ u v. num 0) tt

-- the way between different points has a length
pub reach-end : (u v : Fraction) → ¬ IsSame u v → pos 0 <ℤ reach u v v
unfolding reach
reach-end u v n = go (sign (run u v)) (sign (rise u v))
  where
    by_run : ¬ (run u v ≡ pos 0) → pos 0 <ℤ (run u v *ℤ run u v +ℤ rise u v *ℤ rise u v)
    by_run k = positive_plus_not_negative (run u v *ℤ run u v) (rise u v *ℤ rise u v)
        (square-pos_ℤ k) (square-nonneg_ℤ (rise u v))

    by_rise : ¬ (rise u v ≡ pos 0) → pos 0 <ℤ (run u v *ℤ run u v +ℤ rise u v *ℤ rise u v)
    by_rise k = not_negative_plus_positive (run u v *ℤ run u v) (rise u v *ℤ rise u v)
        (square-nonneg_ℤ (run u v)) (square-pos_ℤ k)

    go : Sign (run u v) → Sign (rise u v) → pos 0 <ℤ (run u v *ℤ run u v +ℤ rise u v *ℤ rise u v)
    go (below h) s = by_run (negative_is_not_zero (run u v) h)
    go (above h) s = by_run (pos-ne-zero_ℤ h)
    go (none h) (below k) = by_rise (negative_is_not_zero (rise u v) k)
    go (none h) (above k) = by_rise (pos-ne-zero_ℤ k)
    go (none h) (none k) = absurd (n ((same_is_no_vector u v).1 (h, k)))

-- of a mean
pub reach_of_two : (A : ℤ → Type 0) (u v a b p : Fraction) (t : TwoWeights A a b p)
    → t.n *ℤ reach u v p ≡ t.k *ℤ reach u v a +ℤ t.l *ℤ reach u v b
unfolding reach
reach_of_two A u v a b p t =
    ring_over_from vec3 (t.n ∷ t.k ∷ t.l ∷ []) (vec u ∷ vec v ∷ vec a ∷ vec b ∷ vec p ∷ [])
    (λ n k l u v a b p. n ⊗ reachᵖ u v p)
    (λ n k l u v a b p. k ⊗ reachᵖ u v a ⊕ l ⊗ reachᵖ u v b)
    (λ n k l u v a b p. (runᵖ u v ⊗ u.w, n ⊗ p.x, k ⊗ a.x ⊕ l ⊗ b.x)
    ∷ (riseᵖ u v ⊗ u.w, n ⊗ p.y, k ⊗ a.y ⊕ l ⊗ b.y)
    ∷ (num 0 ⊖ runᵖ u v ⊗ u.x ⊖ riseᵖ u v ⊗ u.y, n ⊗ p.w, k ⊗ a.w ⊕ l ⊗ b.w) ∷ [])
    (t.x, (t.y, (t.w, tt))) tt

-- a point of the line through u and v is u and v under weights that tell how far it is
pub weights_x : (u v z : Fraction) → bracket (vec u) (vec v) (vec z) ≡ pos 0 → (reach u v v *ℤ u.w)
    *ℤ z.x ≡ (reach u v v *ℤ z.w -ℤ reach u v z *ℤ v.w) *ℤ u.x +ℤ (reach u v z *ℤ u.w) *ℤ v.x
unfolding reach bracket
weights_x u v z e = ring_over_from vec3 [] (vec u ∷ vec v ∷ vec z ∷ [])
    (λ u v z. (reachᵖ u v v ⊗ u.w) ⊗ z.x)
    (λ u v z. (reachᵖ u v v ⊗ z.w ⊖ reachᵖ u v z ⊗ v.w) ⊗ u.x ⊕ (reachᵖ u v z ⊗ u.w) ⊗ v.x)
    (λ u v z. (num 0 ⊖ riseᵖ u v ⊗ u.w, bracketᵖ u v z, num 0) ∷ []) (e, tt) tt

-- the same weights give the y of a point of the line through u and v
pub weights_y : (u v z : Fraction) → bracket (vec u) (vec v) (vec z) ≡ pos 0 → (reach u v v *ℤ u.w)
    *ℤ z.y ≡ (reach u v v *ℤ z.w -ℤ reach u v z *ℤ v.w) *ℤ u.y +ℤ (reach u v z *ℤ u.w) *ℤ v.y
unfolding reach bracket
weights_y u v z e = ring_over_from vec3 [] (vec u ∷ vec v ∷ vec z ∷ [])
    (λ u v z. (reachᵖ u v v ⊗ u.w) ⊗ z.y)
    (λ u v z. (reachᵖ u v v ⊗ z.w ⊖ reachᵖ u v z ⊗ v.w) ⊗ u.y ⊕ (reachᵖ u v z ⊗ u.w) ⊗ v.y)
    (λ u v z. (runᵖ u v ⊗ u.w, bracketᵖ u v z, num 0) ∷ []) (e, tt) tt

-- what two ends weigh adds up
pub weights_w : (l r u v z : ℤ) → (l *ℤ u) *ℤ z ≡ (l *ℤ z -ℤ r *ℤ v) *ℤ u +ℤ (r *ℤ u) *ℤ v
weights_w l r u v z = ring_in (l ∷ r ∷ u ∷ v ∷ z ∷ []) (λ l r u v z. (l ⊗ u) ⊗ z)
    (λ l r u v z. (l ⊗ z ⊖ r ⊗ v) ⊗ u ⊕ (r ⊗ u) ⊗ v) tt

-- any sign is allowed to a weight
abbrev pub IsWhole : ℤ → Type 0
IsWhole k = Unit {0}

-- so under a condition on weights that these meet, it is a mean of u and v
pub line_weights : (A : ℤ → Type 0) (u v z : Fraction) → ¬ IsSame u v
    → bracket (vec u) (vec v) (vec z) ≡ pos 0 → A (reach u v v *ℤ z.w -ℤ reach u v z *ℤ v.w)
    → A (reach u v z *ℤ u.w) → TwoWeights A u v z
line_weights A u v z n e h k = record {
  k = reach u v v *ℤ z.w -ℤ reach u v z *ℤ v.w;
  l = reach u v z *ℤ u.w;
  n = reach u v v *ℤ u.w;
  k_allowed = h;
  l_allowed = k;
  positive = mul-pos_ℤ (reach-end u v n) u.positive;
  x = weights_x u v z e;
  y = weights_y u v z e;
  w = weights_w (reach u v v) (reach u v z) u.w v.w z.w;
}

-- ---- membership, both directions
from_start : (n r k s l e : ℤ) → n *ℤ r ≡ k *ℤ s +ℤ l *ℤ e → s ≡ pos 0 → l *ℤ e ≡ n *ℤ r
from_start n r k s l e h z = let p = zero-mul_ℤ k z in omega (arith, ints)

to_end : (n r k s l e uw vw zw : ℤ) → n *ℤ r ≡ k *ℤ s +ℤ l *ℤ e → s ≡ pos 0
    → n *ℤ zw ≡ k *ℤ uw +ℤ l *ℤ vw → (e *ℤ uw) *ℤ k ≡ n *ℤ (e *ℤ zw -ℤ r *ℤ vw)
to_end n r k s l e uw vw zw h z d = ring_in_from (n ∷ r ∷ k ∷ s ∷ l ∷ e ∷ uw ∷ vw ∷ zw ∷ [])
    (λ n r k s l e uw vw zw. (e ⊗ uw) ⊗ k) (λ n r k s l e uw vw zw. n ⊗ (e ⊗ zw ⊖ r ⊗ vw))
    (λ n r k s l e uw vw zw. (vw, n ⊗ r, k ⊗ s ⊕ l ⊗ e) ∷ (vw ⊗ k, s, num 0)
    ∷ (num 0 ⊖ e, n ⊗ zw, k ⊗ uw ⊕ l ⊗ vw) ∷ []) (h, (z, (d, tt))) tt

at_most_is : (a b : ℤ) → (a ≤ℤ b) ↔ (pos 0 ≤ℤ (b -ℤ a))
at_most_is a b = ((λ h. omega (arith, ints)), (λ h. omega (arith, ints)))

below_is : (a b : ℤ) → (a <ℤ b) ↔ (pos 0 <ℤ (b -ℤ a))
below_is a b = ((λ h. omega (arith, ints)), (λ h. omega (arith, ints)))

-- a point of the closed segment: on the line, and neither before the start nor past the end
pub on_segment_is : (u v p : Fraction) → ¬ IsSame u v → OnSegment u v p
    ↔ ((bracket (vec u) (vec v) (vec p) ≡ pos 0) × (pos 0 ≤ℤ reach u v p)
    × ((reach u v p *ℤ v.w) ≤ℤ (reach u v v *ℤ p.w)))
on_segment_is u v p n = (
  forth,
  λ s. mean_of_two IsNotNegative u v p (line_weights IsNotNegative u v
      p n s.0 ((at_most_is (reach u v p *ℤ v.w) (reach u v v *ℤ p.w)).0 s.2)
      (mul-nonneg_ℤ s.1 (weak u.positive))),
)
  where
    forth : OnSegment u v p → (bracket (vec u) (vec v) (vec p) ≡ pos 0) × (pos 0 ≤ℤ reach u v p)
        × ((reach u v p *ℤ v.w) ≤ℤ (reach u v v *ℤ p.w))
    forth h = let t = two_weights IsNotNegative u v p h in
        let e = reach_of_two IsNotNegative u v u v p t in (
          bracket_of_line u v p (inl h),
          nonneg_of_mul-nonneg_ℤ t.positive (subst (λ z. pos 0 ≤ℤ z)
              (from_start t.n (reach u v p) t.k (reach u v u) t.l (reach u v v) e (reach-start u v))
              (mul-nonneg_ℤ t.l_allowed (weak (reach-end u v n)))),
          (at_most_is (reach u v p *ℤ v.w) (reach u v v *ℤ p.w)).1
              (nonneg_of_mul-nonneg_ℤ t.positive
              (subst (λ z. pos 0 ≤ℤ z) (to_end t.n (reach u v p) t.k
              (reach u v u) t.l (reach u v v) u.w v.w p.w e (reach-start u v) t.w)
              (mul-nonneg_ℤ (weak (mul-pos_ℤ (reach-end u v n) u.positive)) t.k_allowed))),
        )

-- a point strictly within: on the line, after the start and before the end
pub within_segment_is : (u v p : Fraction) → ¬ IsSame u v → WithinSegment u v p
    ↔ ((bracket (vec u) (vec v) (vec p) ≡ pos 0) × (pos 0 <ℤ reach u v p)
    × ((reach u v p *ℤ v.w) <ℤ (reach u v v *ℤ p.w)))
within_segment_is u v p n = (
  forth,
  λ s. mean_of_two IsPositive u v p (line_weights IsPositive u v p
      n s.0 ((below_is (reach u v p *ℤ v.w) (reach u v v *ℤ p.w)).0 s.2)
      (mul-pos_ℤ s.1 u.positive)),
)
  where
    forth : WithinSegment u v p → (bracket (vec u) (vec v) (vec p) ≡ pos 0) × (pos 0 <ℤ reach u v p)
        × ((reach u v p *ℤ v.w) <ℤ (reach u v v *ℤ p.w))
    forth h = let t = two_weights IsPositive u v p h in
        let e = reach_of_two IsPositive u v u v p t in (
          bracket_of_line u v p (inl (on_of_within u v p h)),
          pos_of_mul-pos_ℤ t.positive (subst (λ z. pos 0 <ℤ z)
              (from_start t.n (reach u v p) t.k (reach u v u) t.l (reach u v v) e (reach-start u v))
              (mul-pos_ℤ t.l_allowed (reach-end u v n))),
          (below_is (reach u v p *ℤ v.w) (reach u v v *ℤ p.w)).1
              (pos_of_mul-pos_ℤ t.positive (subst (λ z. pos 0 <ℤ z) (to_end t.n (reach u v p) t.k
              (reach u v u) t.l (reach u v v) u.w v.w p.w e (reach-start u v) t.w)
              (mul-pos_ℤ (mul-pos_ℤ (reach-end u v n) u.positive) t.k_allowed))),
        )
