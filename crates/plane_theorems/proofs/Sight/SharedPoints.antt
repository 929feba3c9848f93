-- Two points that two segments share: one overlaps the other, in one of its directions, and the
-- middle of an overlap is strictly within.
-- Lemmas: decide_same, nudge_moves, overlap_either, middle_within.
use Rattle.std.proofs.Common.{◌≡◌, ℕ, [], ◌∷◌, arith, ap, ◌∙◌, sym, subst}
use mathlib.Core.Logic.{◌⊎◌, inl, inr}
use Rattle.std.specs.Prelude.{ℤ, pos, ◌<ℤ◌, ◌≤ℤ◌, ◌+ℤ◌, ◌-ℤ◌, ◌*ℤ◌}
use Rattle.std.proofs.lemmas.Int.{ints}
use Rattle.plane.specs.{Fraction, IsNearer, IsSame, OnSegment, OverlapAlong, rise, run}
use Rattle.plane.specs.{WithinSegment}
use Rattle.plane.proofs.{◌⊕◌, ◌⊖◌, ◌⊗◌, bracket_of_two, decide_both, decided_by, Decision}
use Rattle.plane.proofs.{difference_is_positive, IsWhole, less_by_difference, mul-pos_ℤ, num}
use Rattle.plane.proofs.{on_segment_is, pos_of_mul-pos_ℤ, positive_above, reach, reach_of_two}
use Rattle.plane.proofs.{ring_in, ring_in_from, ring_over, same-sym, TwoWeights, vec, vec3}
use Rattle.plane.proofs.{IntegerLaws.add-mul_ℤ, within_segment_is}
use Rattle.plane.proofs.{Decisions.decide_zero, Segments.reachᵖ, Segments.same_is_no_vector}
use Rattle.plane_theorems.proofs.Delaunay.Points.AlongSegment.{as_soon, later, nearer_if}
use Rattle.plane_theorems.proofs.Delaunay.Points.AlongSegment.{order_along, OrderAlong, reach_less}
use Rattle.plane_theorems.proofs.{Delaunay.Points.AlongSegment.sooner, Delaunay.Points.Nudges.nudge}
use Rattle.plane_theorems.proofs.Delaunay.Segments.LineItems.{turned_segment}
use Rattle.plane_theorems.proofs.Segments.Items.OverlapDecided.{through_last}

-- two points are one, or not
pub decide_same : (p q : Fraction) → Decision (IsSame p q)
decide_same p q =
    decided_by (same_is_no_vector p q) (decide_both (decide_zero (run p q))
    (decide_zero (rise p q)))

-- a point that a nudge towards another leaves where it is is the other
pub nudge_moves : (n : ℕ) (r q : Fraction) → IsSame r (nudge n r q) → IsSame r q
unfolding nudge
nudge_moves n r q e = record {
  x = one (pos n) r.x r.w q.x q.w e.x;
  y = one (pos n) r.y r.w q.y q.w e.y;
}
  where
    one : (n rx rw qx qw : ℤ) → rx *ℤ (n *ℤ rw +ℤ pos 1 *ℤ qw) ≡ (n *ℤ rx +ℤ pos 1 *ℤ qx) *ℤ rw
        → rx *ℤ qw ≡ qx *ℤ rw
    one n rx rw qx qw e =
        ring_in_from (n ∷ rx ∷ rw ∷ qx ∷ qw ∷ []) (λ n rx rw qx qw. rx ⊗ qw)
        (λ n rx rw qx qw. qx ⊗ rw)
        (λ n rx rw qx qw. (num 1, rx ⊗ (n ⊗ rw ⊕ num 1 ⊗ qw), (n ⊗ rx ⊕ num 1 ⊗ qx) ⊗ rw) ∷ [])
        (e, tt) tt

-- ---- seen from the other end
-- how far a point is from one end and how far from the other
both_reaches : (u v x : Fraction) → reach v u x *ℤ u.w +ℤ reach u v x *ℤ v.w ≡ x.w *ℤ reach u v v
unfolding reach
both_reaches u v x = ring_over vec3 [] (vec u ∷ vec v ∷ vec x ∷ [])
    (λ u v x. reachᵖ v u x ⊗ u.w ⊕ reachᵖ u v x ⊗ v.w) (λ u v x. x.w ⊗ reachᵖ u v v) tt

turned_less : (a b c d uw vw xw zw l : ℤ) → a *ℤ uw +ℤ b *ℤ vw ≡ xw *ℤ l
    → c *ℤ uw +ℤ d *ℤ vw ≡ zw *ℤ l → pos 0 <ℤ uw → pos 0 <ℤ vw → (d *ℤ xw) <ℤ (b *ℤ zw)
    → (a *ℤ zw) <ℤ (c *ℤ xw)
turned_less a b c d uw vw xw zw l e f hu hv less =
    less_by_difference (a *ℤ zw) (c *ℤ xw) (pos_of_mul-pos_ℤ {k = uw} {x = c *ℤ xw -ℤ a *ℤ zw} hu
    (subst (λ s. pos 0 <ℤ s) (sym same)
    (mul-pos_ℤ {a = vw} hv (difference_is_positive (d *ℤ xw) (b *ℤ zw) less))))
  where
    same : uw *ℤ (c *ℤ xw -ℤ a *ℤ zw) ≡ vw *ℤ (b *ℤ zw -ℤ d *ℤ xw)
    same = ring_in_from (a ∷ b ∷ c ∷ d ∷ uw ∷ vw ∷ xw ∷ zw ∷ l ∷ [])
        (λ a b c d uw vw xw zw l. uw ⊗ (c ⊗ xw ⊖ a ⊗ zw))
        (λ a b c d uw vw xw zw l. vw ⊗ (b ⊗ zw ⊖ d ⊗ xw))
        (λ a b c d uw vw xw zw l. (num 0 ⊖ zw, a ⊗ uw ⊕ b ⊗ vw, xw ⊗ l)
        ∷ (xw, c ⊗ uw ⊕ d ⊗ vw, zw ⊗ l) ∷ []) (e, (f, tt)) tt

-- of two points of a segment, the one that is nearer to its start is further from its end
further_from_end : (u v : Fraction) → ¬ IsSame u v → (x z : Fraction) → OnSegment u v x
    → OnSegment u v z → IsNearer u z x → IsNearer v x z
further_from_end u v two x z hx hz near =
    nearer_if v u (λ e. two (same-sym v u e)) x z
    (turned_segment u v x hx) (turned_segment u v z hz)
    (turned_less (reach v u x) (reach u v x) (reach v u z) (reach u v z) u.w v.w x.w z.w
    (reach u v v) (both_reaches u v x) (both_reaches u v z) u.positive v.positive
    (reach_less u v two z x hz hx near))

-- two different points of both segments: the second is overlapped along the first, in one of its
-- directions
pub overlap_either : (p q u v : Fraction) → ¬ IsSame p q → ¬ IsSame u v → (x z : Fraction)
    → OnSegment p q x → OnSegment p q z → OnSegment u v x → OnSegment u v z → ¬ IsSame x z
    → OverlapAlong p q u v ⊎ OverlapAlong p q v u
overlap_either p q u v apart two x z px pz ux uz differ = go (order_along p q apart x z px pz)
  where
    ordered : (x z : Fraction) → OnSegment p q x → OnSegment p q z → OnSegment u v x
        → OnSegment u v z → ¬ IsSame x z → IsNearer p x z
        → OverlapAlong p q u v ⊎ OverlapAlong p q v u
    ordered x z px pz ux uz differ near = pick (order_along u v two x z ux uz)
      where
        pick : OrderAlong u x z → OverlapAlong p q u v ⊎ OverlapAlong p q v u
        pick (sooner n) = inl (record {
          near = x;
          far = z;
          near_first = px;
          near_second = ux;
          far_first = pz;
          far_second = uz;
          from_s = near;
          from_u = n;
        })
        pick (as_soon e) = absurd (differ e)
        pick (later n) = inr (record {
          near = x;
          far = z;
          near_first = px;
          near_second = turned_segment u v x ux;
          far_first = pz;
          far_second = turned_segment u v z uz;
          from_s = near;
          from_u = further_from_end u v two x z ux uz n;
        })

    go : OrderAlong p x z → OverlapAlong p q u v ⊎ OverlapAlong p q v u
    go (sooner n) = ordered x z px pz ux uz differ n
    go (as_soon e) = absurd (differ e)
    go (later n) =
        ordered z x pz px uz ux (λ e. differ (same-sym z x e)) n

-- ---- the middle of an overlap
-- the middle of two points of a segment, one nearer to its start, is strictly within it
pub middle_within : (u v : Fraction) → ¬ IsSame u v → (x z : Fraction) → OnSegment u v x
    → OnSegment u v z → IsNearer u x z → WithinSegment u v (nudge 1 x z)
unfolding nudge
middle_within u v two x z hx hz near =
    let sx = (on_segment_is u v x two).0 hx in
    let sz = (on_segment_is u v z two).0 hz in
    let less = reach_less u v two x z hx hz near in
    let high = last (reach u v x) x.w (reach u v z) z.w less sx.1 x.positive z.positive in
    let low = through_last (reach u v x) x.w (reach u v z) z.w (reach u v v) v.w less sz.2
    x.positive z.positive v.positive in
    (within_segment_is u v (nudge 1 x z) two).1 (
      level _ _ _ (bracket_of_two IsWhole (vec u) (vec v) x z (nudge 1 x z) weights) sx.0 sz.0,
      subst (λ s. pos 0 <ℤ s) (sym sum) (both (reach u v x) (reach u v z) sx.1 high),
      less_sum (reach u v x) (reach u v z) (reach u v v) x.w z.w v.w (reach u v (nudge 1 x z)) sum
          low sz.2,
    )
  where
    weights : TwoWeights IsWhole x z (nudge 1 x z)
    weights = record {
      k = pos 1;
      l = pos 1;
      n = pos 1;
      k_allowed = record {};
      l_allowed = record {};
      positive = record { lt = tt };
      x = each x.x z.x;
      y = each x.y z.y;
      w = each x.w z.w;
    }
      where
        each : (a b : ℤ) → pos 1 *ℤ (pos 1 *ℤ a +ℤ pos 1 *ℤ b) ≡ pos 1 *ℤ a +ℤ pos 1 *ℤ b
        each a b = omega (arith, ints)

    sum : reach u v (nudge 1 x z) ≡ reach u v x +ℤ reach u v z
    sum = one (reach u v (nudge 1 x z)) (reach u v x) (reach u v z)
        (reach_of_two IsWhole u v x z (nudge 1 x z) weights)
      where
        one : (s a b : ℤ) → pos 1 *ℤ s ≡ pos 1 *ℤ a +ℤ pos 1 *ℤ b → s ≡ a +ℤ b
        one s a b e = omega (arith, ints)

    level : (s a b : ℤ) → pos 1 *ℤ s ≡ pos 1 *ℤ a +ℤ pos 1 *ℤ b → a ≡ pos 0 → b ≡ pos 0 → s ≡ pos 0
    level s a b e h k = omega (arith, ints)

    both : (a b : ℤ) → pos 0 ≤ℤ a → pos 0 <ℤ b → pos 0 <ℤ (a +ℤ b)
    both a b h k = omega (arith, ints)

    last : (a u b v : ℤ) → (a *ℤ v) <ℤ (b *ℤ u) → pos 0 ≤ℤ a → pos 0 <ℤ u → pos 0 <ℤ v → pos 0 <ℤ b
    last a u b v h ha hu hv = positive_above a v b u h ha hu hv

    less_sum : (a b l xw zw vw s : ℤ) → s ≡ a +ℤ b → (a *ℤ vw) <ℤ (l *ℤ xw)
        → (b *ℤ vw) ≤ℤ (l *ℤ zw) → (s *ℤ vw) <ℤ (l *ℤ (pos 1 *ℤ xw +ℤ pos 1 *ℤ zw))
    less_sum a b l xw zw vw s e h k = sums (s *ℤ vw) (a *ℤ vw) (b *ℤ vw) (l *ℤ xw) (l *ℤ zw)
        (l *ℤ (pos 1 *ℤ xw +ℤ pos 1 *ℤ zw)) (ap (λ n. n *ℤ vw) e ∙ add-mul_ℤ a b vw)
        (ring_in (l ∷ xw ∷ zw ∷ []) (λ l x z. l ⊗ (num 1 ⊗ x ⊕ num 1 ⊗ z))
        (λ l x z. l ⊗ x ⊕ l ⊗ z) tt) h k
      where
        sums : (s a b x z t : ℤ) → s ≡ a +ℤ b → t ≡ x +ℤ z → a <ℤ x → b ≤ℤ z → s <ℤ t
        sums s a b x z t e f h k = omega (arith, ints)
