-- How two segments meet: whether they cross, or one ends within the other, by the signs of four
-- brackets.
-- Notions: AreOpposite, AreParted; cross_if, meets_within_if, meets_within_is, cross_is,
-- cross_at_point, meets_at_point, meets_a_point, crossing_is_sides.
use Rattle.std.proofs.Common.{◌≡◌, ◌⊎◌, ◌↔◌, ℕ, zero, suc, [], ◌∷◌, arith, sym, ◌∙◌}
use mathlib.Core.Logic.{inl, inr}
use Rattle.std.specs.Prelude.{ℤ, pos, neg_ℤ, ◌<ℤ◌, ◌≤ℤ◌, ◌*ℤ◌, ◌+ℤ◌, ◌-ℤ◌}
use Rattle.std.proofs.lemmas.Int.{ints}
use Rattle.plane.specs.{Cross, Fraction, IsNotNegative, IsPositive, IsSame, MeetsWithin, OnSegment}
use Rattle.plane.specs.{Crossing.MeetAt, Parts, WithinSegment}
use Rattle.plane.proofs.Bracket.{bracket, bracketᵖ, vec, Vec3, vec3}
use Rattle.plane.proofs.{BracketIdentities.bracket-swap, Segments.within_segment-same}
use Rattle.plane.proofs.{IntegerLaws.neg-mul_ℤ, IntegerLaws.one-*ℤ, IntegerOrder.zero_of_mul-zero_ℤ}
use Rattle.plane.proofs.IntegerOrder.{above, below, mul-neg_of_pos_neg_ℤ, mul-nonneg_ℤ, mul-pos_ℤ}
use Rattle.plane.proofs.IntegerOrder.{none, pos-ne-zero_ℤ, Sign, sign, zero-mul_ℤ}
use Rattle.plane.proofs.Lines.{bracket_of_line, left_of_two, right_of_two}
use Rattle.plane.proofs.Means.{bracket_of_two, mean_of_two, turned_mean_of_two, two_weights}
use Rattle.plane.proofs.{Means.TwoWeights, Nudges.nudge_each}
use Rattle.plane.proofs.Segments.{IsWhole, line_weights, on_of_within, on_segment-same, only_point}
use Rattle.plane.proofs.Segments.{same-refl, same-sym, same-trans, start_on_segment, within_itself}
use Rattle.plane.proofs.Sides.{if_left, if_right, left_if, right_if}
use Rattle.plane.proofs.Signs.{negation_is_positive, negation_not_negative}
use Rattle.plane.proofs.Signs.{negative_is_not_positive, opposite_of_zero, sum_is_positive}
use Rattle.plane.proofs.Signs.{sum_not_negative, zero_is_not_negative, zero_is_not_positive}
use Rattle.plane.proofs.Solver.{◌⊕◌, ◌⊖◌, ◌⊗◌, num, ring_in_from, ring_over, ⊝}
use Rattle.plane.proofs.Steps.{left_not_zero, one_number, right_not_zero, weak}

-- one is left and the other right
abbrev pub AreOpposite : ℤ → ℤ → Type 0
AreOpposite a b = ((a <ℤ pos 0) × (pos 0 <ℤ b)) ⊎ ((pos 0 <ℤ a) × (b <ℤ pos 0))

-- they are not both left, nor both right
abbrev pub AreParted : ℤ → ℤ → Type 0
AreParted a b = ((a ≤ℤ pos 0) × (pos 0 ≤ℤ b)) ⊎ ((pos 0 ≤ℤ a) × (b ≤ℤ pos 0))

-- ---- the lines through s t and u v: the point where they meet, under weights of u v and of s t
meeting_x : (s t u v : Vec3) → neg_ℤ (bracket s t v) *ℤ u.x +ℤ bracket s t u *ℤ v.x
    ≡ bracket u v t *ℤ s.x +ℤ neg_ℤ (bracket u v s) *ℤ t.x
unfolding bracket
meeting_x s t u v = ring_over vec3 [] (s ∷ t ∷ u ∷ v ∷ []) (λ s t u v. ⊝ (bracketᵖ s t v) ⊗ u.x
    ⊕ bracketᵖ s t u ⊗ v.x) (λ s t u v. bracketᵖ u v t ⊗ s.x ⊕ ⊝ (bracketᵖ u v s) ⊗ t.x) tt

meeting_y : (s t u v : Vec3) → neg_ℤ (bracket s t v) *ℤ u.y +ℤ bracket s t u *ℤ v.y
    ≡ bracket u v t *ℤ s.y +ℤ neg_ℤ (bracket u v s) *ℤ t.y
unfolding bracket
meeting_y s t u v = ring_over vec3 [] (s ∷ t ∷ u ∷ v ∷ []) (λ s t u v. ⊝ (bracketᵖ s t v) ⊗ u.y
    ⊕ bracketᵖ s t u ⊗ v.y) (λ s t u v. bracketᵖ u v t ⊗ s.y ⊕ ⊝ (bracketᵖ u v s) ⊗ t.y) tt

meeting_w : (s t u v : Vec3) → neg_ℤ (bracket s t v) *ℤ u.w +ℤ bracket s t u *ℤ v.w
    ≡ bracket u v t *ℤ s.w +ℤ neg_ℤ (bracket u v s) *ℤ t.w
unfolding bracket
meeting_w s t u v = ring_over vec3 [] (s ∷ t ∷ u ∷ v ∷ []) (λ s t u v. ⊝ (bracketᵖ s t v) ⊗ u.w
    ⊕ bracketᵖ s t u ⊗ v.w) (λ s t u v. bracketᵖ u v t ⊗ s.w ⊕ ⊝ (bracketᵖ u v s) ⊗ t.w) tt

-- ---- points of u v that are on the line s t too are one point, unless u and v are on that line
zero_combination : (k l a b n z : ℤ) → n *ℤ z ≡ k *ℤ a +ℤ l *ℤ b → z ≡ pos 0
    → k *ℤ a +ℤ l *ℤ b ≡ pos 0
zero_combination k l a b n z e h = sym e ∙ zero-mul_ℤ n h

dependent_first : (k l m o a b : ℤ) → k *ℤ a +ℤ l *ℤ b ≡ pos 0 → m *ℤ a +ℤ o *ℤ b ≡ pos 0
    → a *ℤ (k *ℤ o -ℤ m *ℤ l) ≡ pos 0
dependent_first k l m o a b e d =
    ring_in_from (k ∷ l ∷ m ∷ o ∷ a ∷ b ∷ []) (λ k l m o a b. a ⊗ (k ⊗ o ⊖ m ⊗ l))
    (λ k l m o a b. num 0) (λ k l m o a b. (o, k ⊗ a ⊕ l ⊗ b, num 0)
    ∷ (num 0 ⊖ l, m ⊗ a ⊕ o ⊗ b, num 0) ∷ []) (e, (d, tt)) tt

dependent_second : (k l m o a b : ℤ) → k *ℤ a +ℤ l *ℤ b ≡ pos 0 → m *ℤ a +ℤ o *ℤ b ≡ pos 0
    → b *ℤ (k *ℤ o -ℤ m *ℤ l) ≡ pos 0
dependent_second k l m o a b e d =
    ring_in_from (k ∷ l ∷ m ∷ o ∷ a ∷ b ∷ []) (λ k l m o a b. b ⊗ (k ⊗ o ⊖ m ⊗ l))
    (λ k l m o a b. num 0) (λ k l m o a b. (num 0 ⊖ m, k ⊗ a ⊕ l ⊗ b, num 0)
    ∷ (k, m ⊗ a ⊕ o ⊗ b, num 0) ∷ []) (e, (d, tt)) tt

same_weights : (k l m o n r a aw b bw p pw q qw : ℤ) → k *ℤ o -ℤ m *ℤ l ≡ pos 0
    → n *ℤ p ≡ k *ℤ a +ℤ l *ℤ b → n *ℤ pw ≡ k *ℤ aw +ℤ l *ℤ bw → r *ℤ q ≡ m *ℤ a +ℤ o *ℤ b
    → r *ℤ qw ≡ m *ℤ aw +ℤ o *ℤ bw → (n *ℤ r) *ℤ (q *ℤ pw -ℤ p *ℤ qw) ≡ pos 0
same_weights k l m o n r a aw b bw p pw q qw z e d f g =
    ring_in_from (k ∷ l ∷ m ∷ o ∷ n ∷ r ∷ a ∷ aw ∷ b ∷ bw ∷ p ∷ pw ∷ q ∷ qw ∷ [])
    (λ k l m o n r a aw b bw p pw q qw. (n ⊗ r) ⊗ (q ⊗ pw ⊖ p ⊗ qw))
    (λ k l m o n r a aw b bw p pw q qw. num 0)
    (λ k l m o n r a aw b bw p pw q qw. (b ⊗ aw ⊖ a ⊗ bw, k ⊗ o ⊖ m ⊗ l, num 0)
    ∷ (num 0 ⊖ r ⊗ qw, n ⊗ p, k ⊗ a ⊕ l ⊗ b) ∷ (m ⊗ a ⊕ o ⊗ b, n ⊗ pw, k ⊗ aw ⊕ l ⊗ bw)
    ∷ (n ⊗ pw, r ⊗ q, m ⊗ a ⊕ o ⊗ b) ∷ (num 0 ⊖ (k ⊗ a ⊕ l ⊗ b), r ⊗ qw, m ⊗ aw ⊕ o ⊗ bw) ∷ [])
    (z, (e, (d, (f, (g, tt))))) tt

-- the weights of two such points are in one ratio
one_ratio : (k l m o a b : ℤ) → ¬ ((a ≡ pos 0) × (b ≡ pos 0)) → k *ℤ a +ℤ l *ℤ b ≡ pos 0
    → m *ℤ a +ℤ o *ℤ b ≡ pos 0 → k *ℤ o -ℤ m *ℤ l ≡ pos 0
one_ratio k l m o a b n e d = go (sign a) (sign b)
  where
    by_first : ¬ (a ≡ pos 0) → k *ℤ o -ℤ m *ℤ l ≡ pos 0
    by_first h =
        zero_of_mul-zero_ℤ {k = a} {x = k *ℤ o -ℤ m *ℤ l} h (dependent_first k l m o a b e d)

    by_second : ¬ (b ≡ pos 0) → k *ℤ o -ℤ m *ℤ l ≡ pos 0
    by_second h =
        zero_of_mul-zero_ℤ {k = b} {x = k *ℤ o -ℤ m *ℤ l} h (dependent_second k l m o a b e d)

    go : Sign a → Sign b → k *ℤ o -ℤ m *ℤ l ≡ pos 0
    go (below h) s = by_first (λ z. right_not_zero h z)
    go (above h) s = by_first (λ z. left_not_zero h z)
    go (none h) (below i) = by_second (λ z. right_not_zero i z)
    go (none h) (above i) = by_second (λ z. left_not_zero i z)
    go (none h) (none i) = absurd (n (h, i))

-- so the two points are one
common_is_same : (A B : ℤ → Type 0) (s t : Vec3) (u v p q : Fraction)
    → ¬ ((bracket s t (vec u) ≡ pos 0) × (bracket s t (vec v) ≡ pos 0)) → TwoWeights A u v p
    → TwoWeights B u v q → bracket s t (vec p) ≡ pos 0 → bracket s t (vec q) ≡ pos 0 → IsSame p q
common_is_same A B s t u v p q n f g on_p on_q =
    let z = one_ratio f.k f.l g.k g.l (bracket s t (vec u)) (bracket s t (vec v)) n
    (zero_combination f.k f.l (bracket s t (vec u)) (bracket s t (vec v)) f.n (bracket s t (vec p))
    (bracket_of_two A s t u v p f) on_p)
    (zero_combination g.k g.l (bracket s t (vec u)) (bracket s t (vec v)) g.n (bracket s t (vec q))
    (bracket_of_two B s t u v q g) on_q) in
    let positive = mul-pos_ℤ f.positive g.positive in
    record {
      x = one_number (p.x *ℤ q.w) (q.x *ℤ p.w) (zero_of_mul-zero_ℤ (pos-ne-zero_ℤ positive)
          (same_weights f.k f.l g.k g.l f.n g.n u.x u.w v.x v.w p.x p.w q.x q.w z f.x f.w g.x g.w));
      y = one_number (p.y *ℤ q.w) (q.y *ℤ p.w) (zero_of_mul-zero_ℤ (pos-ne-zero_ℤ positive)
          (same_weights f.k f.l g.k g.l f.n g.n u.y u.w v.y v.w p.y p.w q.y q.w z f.y f.w g.y g.w));
    }

module _ (s t u v : Fraction) (left_u : pos 0 <ℤ bracket (vec s) (vec t) (vec u))
    (right_v : bracket (vec s) (vec t) (vec v) <ℤ pos 0) where
  abbrev meeting_point : Fraction
  meeting_point = record {
    x = neg_ℤ (bracket (vec s) (vec t) (vec v)) *ℤ u.x +ℤ bracket (vec s) (vec t) (vec u) *ℤ v.x;
    y = neg_ℤ (bracket (vec s) (vec t) (vec v)) *ℤ u.y +ℤ bracket (vec s) (vec t) (vec u) *ℤ v.y;
    w = neg_ℤ (bracket (vec s) (vec t) (vec v)) *ℤ u.w +ℤ bracket (vec s) (vec t) (vec u) *ℤ v.w;
    positive = sum_is_positive (neg_ℤ (bracket (vec s) (vec t) (vec v)) *ℤ u.w)
        (bracket (vec s) (vec t) (vec u) *ℤ v.w)
        (mul-pos_ℤ (negation_is_positive (bracket (vec s) (vec t) (vec v)) right_v) u.positive)
        (mul-pos_ℤ left_u v.positive);
  }

  weights_on_second : TwoWeights IsPositive u v meeting_point
  weights_on_second = record {
    k = neg_ℤ (bracket (vec s) (vec t) (vec v));
    l = bracket (vec s) (vec t) (vec u);
    n = pos 1;
    k_allowed = negation_is_positive (bracket (vec s) (vec t) (vec v)) right_v;
    l_allowed = left_u;
    positive = record { lt = tt };
    x = one-*ℤ meeting_point.x;
    y = one-*ℤ meeting_point.y;
    w = one-*ℤ meeting_point.w;
  }

  weights_on_first : (A : ℤ → Type 0) → A (bracket (vec u) (vec v) (vec t))
      → A (neg_ℤ (bracket (vec u) (vec v) (vec s))) → TwoWeights A s t meeting_point
  weights_on_first A h k = record {
    k = bracket (vec u) (vec v) (vec t);
    l = neg_ℤ (bracket (vec u) (vec v) (vec s));
    n = pos 1;
    k_allowed = h;
    l_allowed = k;
    positive = record { lt = tt };
    x = one-*ℤ meeting_point.x ∙ meeting_x (vec s) (vec t) (vec u) (vec v);
    y = one-*ℤ meeting_point.y ∙ meeting_y (vec s) (vec t) (vec u) (vec v);
    w = one-*ℤ meeting_point.w ∙ meeting_w (vec s) (vec t) (vec u) (vec v);
  }

  meet_there : OnSegment s t meeting_point → MeetAt s t u v meeting_point
  meet_there h = let second = on_of_within u v meeting_point
      (mean_of_two IsPositive u v meeting_point weights_on_second) in record {
        first = h;
        second = second;
        only = λ p f g. common_is_same IsNotNegative IsPositive (vec s) (vec t) u v p meeting_point
            (λ z. left_not_zero left_u z.0) (two_weights IsNotNegative u v p g) weights_on_second
            (bracket_of_line s t p (inl f)) (bracket_of_line s t meeting_point (inl h));
      }

  -- the weight of the meeting point tells which of s and t is left of u v
  no_weight : bracket (vec u) (vec v) (vec t) ≤ℤ pos 0
      → pos 0 ≤ℤ bracket (vec u) (vec v) (vec s) → ⊥
  no_weight h k = clash (bracket (vec u) (vec v) (vec t))
      (bracket (vec u) (vec v) (vec s)) s.w t.w meeting_point.w
      (meeting_w (vec s) (vec t) (vec u) (vec v)) h k s.positive t.positive meeting_point.positive
    where
      clash : (d c sw tw z : ℤ) → z ≡ d *ℤ sw +ℤ neg_ℤ c *ℤ tw → d ≤ℤ pos 0 → pos 0 ≤ℤ c
          → pos 0 <ℤ sw → pos 0 <ℤ tw → pos 0 <ℤ z → ⊥
      clash d c sw tw z e h k p q r =
          let first : pos 0 ≤ℤ (neg_ℤ d *ℤ sw) =
          mul-nonneg_ℤ {a = neg_ℤ d} {b = sw} (omega (arith, ints)) (weak p) in
          let second : pos 0 ≤ℤ (c *ℤ tw) = mul-nonneg_ℤ k (weak q) in
          both (d *ℤ sw) (c *ℤ tw) (neg_ℤ d *ℤ sw) (neg_ℤ c *ℤ tw) z e first second r
          (neg-mul_ℤ d sw) (neg-mul_ℤ c tw)
        where
          both : (x y m o z : ℤ) → z ≡ x +ℤ o → pos 0 ≤ℤ m → pos 0 ≤ℤ y → pos 0 <ℤ z → m ≡ neg_ℤ x
              → o ≡ neg_ℤ y → ⊥
          both x y m o z e h k r f g = omega (arith, ints)

  strict_signs : AreOpposite (bracket (vec u) (vec v) (vec s)) (bracket (vec u) (vec v) (vec t))
      → (pos 0 <ℤ bracket (vec u) (vec v) (vec t))
      × (pos 0 <ℤ neg_ℤ (bracket (vec u) (vec v) (vec s)))
  strict_signs (inl h) = (h.1, negation_is_positive (bracket (vec u) (vec v) (vec s)) h.0)
  strict_signs (inr h) =
      absurd (no_weight (negative_is_not_positive (bracket (vec u) (vec v) (vec t)) h.1) (weak h.0))

  weak_signs : AreParted (bracket (vec u) (vec v) (vec s)) (bracket (vec u) (vec v) (vec t))
      → (pos 0 ≤ℤ bracket (vec u) (vec v) (vec t))
      × (pos 0 ≤ℤ neg_ℤ (bracket (vec u) (vec v) (vec s)))
  weak_signs (inl h) = (h.1, negation_not_negative (bracket (vec u) (vec v) (vec s)) h.0)
  weak_signs (inr h) = absurd (no_weight h.1 h.0)

  cross_there : AreOpposite (bracket (vec u) (vec v) (vec s)) (bracket (vec u) (vec v) (vec t))
      → Cross s t u v
  cross_there h = let signs = strict_signs h in let within = mean_of_two IsPositive s t
      meeting_point (weights_on_first IsPositive signs.0 signs.1) in record {
        at = meeting_point;
        meet = meet_there (on_of_within s t meeting_point within);
        within_first = within;
        within_second = mean_of_two IsPositive u v meeting_point weights_on_second;
      }

  meets_there : AreParted (bracket (vec u) (vec v) (vec s)) (bracket (vec u) (vec v) (vec t))
      → MeetsWithin s t u v
  meets_there h = let signs = weak_signs h in record {
    at = meeting_point;
    meet = meet_there (mean_of_two IsNotNegative s t meeting_point
        (weights_on_first IsNotNegative signs.0 signs.1));
    within = mean_of_two IsPositive u v meeting_point weights_on_second;
  }

-- ---- the ends change places
turned_meet : (s t u v at : Fraction) → MeetAt s t v u at → MeetAt s t u v at
turned_meet s t u v at m = record {
  first = m.first;
  second = turned_mean_of_two IsNotNegative v u at m.second;
  only = λ p f g. m.only p f (turned_mean_of_two IsNotNegative u v p g);
}

turned_cross : (s t u v : Fraction) → Cross s t v u → Cross s t u v
turned_cross s t u v c = record {
  at = c.at;
  meet = turned_meet s t u v c.at c.meet;
  within_first = c.within_first;
  within_second = turned_mean_of_two IsPositive v u c.at c.within_second;
}

turned_meets : (s t u v : Fraction) → MeetsWithin s t v u → MeetsWithin s t u v
turned_meets s t u v c = record {
  at = c.at;
  meet = turned_meet s t u v c.at c.meet;
  within = turned_mean_of_two IsPositive v u c.at c.within;
}

-- crossing is mutual
cross-sym : (s t u v : Fraction) → Cross s t u v → Cross u v s t
cross-sym s t u v c = record {
  at = c.at;
  meet = record { first = c.meet.second; second = c.meet.first; only = λ p f g. c.meet.only p g f };
  within_first = c.within_second;
  within_second = c.within_first;
}

swapped_opposite : (a b c d : ℤ) → a ≡ neg_ℤ c → b ≡ neg_ℤ d → AreOpposite c d → AreOpposite a b
swapped_opposite a b c d e f (inl h) = inr (omega (arith, ints, h.0), omega (arith, ints, h.1))
swapped_opposite a b c d e f (inr h) = inl (omega (arith, ints, h.0), omega (arith, ints, h.1))

swapped_parted : (a b c d : ℤ) → a ≡ neg_ℤ c → b ≡ neg_ℤ d → AreParted c d → AreParted a b
swapped_parted a b c d e f (inl h) = inr (omega (arith, ints, h.0), omega (arith, ints, h.1))
swapped_parted a b c d e f (inr h) = inl (omega (arith, ints, h.0), omega (arith, ints, h.1))

-- both segments are parted by the other: they cross
pub cross_if : (s t u v : Fraction)
    → AreOpposite (bracket (vec s) (vec t) (vec u)) (bracket (vec s) (vec t) (vec v))
    → AreOpposite (bracket (vec u) (vec v) (vec s)) (bracket (vec u) (vec v) (vec t))
    → Cross s t u v
cross_if s t u v (inr h) o = cross_there s t u v h.0 h.1 o
cross_if s t u v (inl h) o = turned_cross s t u v (cross_there s t v u h.1 h.0
    (swapped_opposite (bracket (vec v) (vec u) (vec s)) (bracket (vec v) (vec u) (vec t))
    (bracket (vec u) (vec v) (vec s)) (bracket (vec u) (vec v) (vec t))
    (bracket-swap (vec v) (vec u) (vec s)) (bracket-swap (vec v) (vec u) (vec t)) o))

-- the second is parted by the first, and the first not on one side of the second: they meet within
-- the second
pub meets_within_if : (s t u v : Fraction)
    → AreOpposite (bracket (vec s) (vec t) (vec u)) (bracket (vec s) (vec t) (vec v))
    → AreParted (bracket (vec u) (vec v) (vec s)) (bracket (vec u) (vec v) (vec t))
    → MeetsWithin s t u v
meets_within_if s t u v (inr h) o = meets_there s t u v h.0 h.1 o
meets_within_if s t u v (inl h) o = turned_meets s t u v (meets_there s t v u h.1 h.0
    (swapped_parted (bracket (vec v) (vec u) (vec s)) (bracket (vec v) (vec u) (vec t))
    (bracket (vec u) (vec v) (vec s)) (bracket (vec u) (vec v) (vec t))
    (bracket-swap (vec v) (vec u) (vec s)) (bracket-swap (vec v) (vec u) (vec t)) o))

-- ---- two segments of one line that share a point within the second share another
proportional : (c d s sw t tw x y : ℤ) → x ≡ pos 0 → y ≡ pos 0 → x ≡ d *ℤ s +ℤ neg_ℤ c *ℤ t
    → y ≡ d *ℤ sw +ℤ neg_ℤ c *ℤ tw → c *ℤ (t *ℤ sw -ℤ s *ℤ tw) ≡ pos 0
proportional c d s sw t tw x y h k e f = ring_in_from (c ∷ d ∷ s ∷ sw ∷ t ∷ tw ∷ x ∷ y ∷ [])
    (λ c d s sw t tw x y. c ⊗ (t ⊗ sw ⊖ s ⊗ tw)) (λ c d s sw t tw x y. num 0)
    (λ c d s sw t tw x y. (num 0 ⊖ sw, x, num 0) ∷ (s, y, num 0) ∷ (sw, x, d ⊗ s ⊕ ⊝ c ⊗ t)
    ∷ (num 0 ⊖ s, y, d ⊗ sw ⊕ ⊝ c ⊗ tw) ∷ []) (h, (k, (e, (f, tt)))) tt

zero_combined : (a b x y : ℤ) → a ≡ pos 0 → b ≡ pos 0 → neg_ℤ b *ℤ x +ℤ a *ℤ y ≡ pos 0
zero_combined a b x y h k = ring_in_from (a ∷ b ∷ x ∷ y ∷ []) (λ a b x y. ⊝ b ⊗ x ⊕ a ⊗ y)
    (λ a b x y. num 0) (λ a b x y. (y, a, num 0) ∷ (num 0 ⊖ x, b, num 0) ∷ []) (h, (k, tt)) tt

-- of four points whose first two differ: if u and v are on the line s t, then s is on the line u v
first_on_second : (s t u v : Fraction) → ¬ IsSame s t → bracket (vec s) (vec t) (vec u) ≡ pos 0
    → bracket (vec s) (vec t) (vec v) ≡ pos 0 → bracket (vec u) (vec v) (vec s) ≡ pos 0
first_on_second s t u v apart on_u on_v = go (sign (bracket (vec u) (vec v) (vec s)))
  where
    same : ¬ (bracket (vec u) (vec v) (vec s) ≡ pos 0) → IsSame s t
    same n = record {
      x = one_number (s.x *ℤ t.w) (t.x *ℤ s.w) (zero_of_mul-zero_ℤ n (proportional
          (bracket (vec u) (vec v) (vec s)) (bracket (vec u) (vec v) (vec t)) s.x s.w t.x t.w
          (neg_ℤ (bracket (vec s) (vec t) (vec v)) *ℤ u.x +ℤ bracket (vec s) (vec t) (vec u) *ℤ v.x)
          (neg_ℤ (bracket (vec s) (vec t) (vec v)) *ℤ u.w +ℤ bracket (vec s) (vec t) (vec u) *ℤ v.w)
          (zero_combined (bracket (vec s) (vec t) (vec u)) (bracket (vec s) (vec t) (vec v)) u.x v.x
          on_u on_v) (zero_combined (bracket (vec s) (vec t) (vec u)) (bracket (vec s) (vec t)
          (vec v)) u.w v.w on_u on_v) (meeting_x (vec s) (vec t) (vec u) (vec v))
          (meeting_w (vec s) (vec t) (vec u) (vec v))));
      y = one_number (s.y *ℤ t.w) (t.y *ℤ s.w) (zero_of_mul-zero_ℤ n (proportional
          (bracket (vec u) (vec v) (vec s)) (bracket (vec u) (vec v) (vec t)) s.y s.w t.y t.w
          (neg_ℤ (bracket (vec s) (vec t) (vec v)) *ℤ u.y +ℤ bracket (vec s) (vec t) (vec u) *ℤ v.y)
          (neg_ℤ (bracket (vec s) (vec t) (vec v)) *ℤ u.w +ℤ bracket (vec s) (vec t) (vec u) *ℤ v.w)
          (zero_combined (bracket (vec s) (vec t) (vec u)) (bracket (vec s) (vec t) (vec v)) u.y v.y
          on_u on_v) (zero_combined (bracket (vec s) (vec t) (vec u)) (bracket (vec s) (vec t)
          (vec v)) u.w v.w on_u on_v) (meeting_y (vec s) (vec t) (vec u) (vec v))
          (meeting_w (vec s) (vec t) (vec u) (vec v))));
    }

    go : Sign (bracket (vec u) (vec v) (vec s)) → bracket (vec u) (vec v) (vec s) ≡ pos 0
    go (below h) = absurd (apart (same (λ z. right_not_zero h z)))
    go (none h) = h
    go (above h) = absurd (apart (same (λ z. left_not_zero h z)))

blend_on_second : (N k l n al be m u v at s : ℤ) → n *ℤ at ≡ k *ℤ u +ℤ l *ℤ v → m *ℤ s ≡ al *ℤ u
    +ℤ be *ℤ v → pos 1 *ℤ ((N *ℤ n) *ℤ at +ℤ m *ℤ s) ≡ (N *ℤ k +ℤ al) *ℤ u +ℤ (N *ℤ l +ℤ be) *ℤ v
blend_on_second N k l n al be m u v at s e d =
    ring_in_from (N ∷ k ∷ l ∷ n ∷ al ∷ be ∷ m ∷ u ∷ v ∷ at ∷ s ∷ [])
    (λ N k l n al be m u v at s. num 1 ⊗ ((N ⊗ n) ⊗ at ⊕ m ⊗ s))
    (λ N k l n al be m u v at s. (N ⊗ k ⊕ al) ⊗ u ⊕ (N ⊗ l ⊕ be) ⊗ v)
    (λ N k l n al be m u v at s. (N, n ⊗ at, k ⊗ u ⊕ l ⊗ v) ∷ (num 1, m ⊗ s, al ⊗ u ⊕ be ⊗ v) ∷ [])
    (e, (d, tt)) tt

blend_on_first : (N n m i j o s t at : ℤ) → o *ℤ at ≡ i *ℤ s +ℤ j *ℤ t
    → o *ℤ ((N *ℤ n) *ℤ at +ℤ m *ℤ s) ≡ ((N *ℤ n) *ℤ i +ℤ o *ℤ m) *ℤ s +ℤ ((N *ℤ n) *ℤ j) *ℤ t
blend_on_first N n m i j o s t at e =
    ring_in_from (N ∷ n ∷ m ∷ i ∷ j ∷ o ∷ s ∷ t ∷ at ∷ []) (λ N n m i j o s t at. o
    ⊗ ((N ⊗ n) ⊗ at ⊕ m ⊗ s)) (λ N n m i j o s t at. ((N ⊗ n) ⊗ i ⊕ o ⊗ m) ⊗ s ⊕ ((N ⊗ n) ⊗ j) ⊗ t)
    (λ N n m i j o s t at. (N ⊗ n, o ⊗ at, i ⊗ s ⊕ j ⊗ t) ∷ []) (e, tt) tt

blend_apart : (r m at aw s sw : ℤ) → (r *ℤ at +ℤ m *ℤ s) *ℤ aw ≡ at *ℤ (r *ℤ aw +ℤ m *ℤ sw)
    → m *ℤ (at *ℤ sw -ℤ s *ℤ aw) ≡ pos 0
blend_apart r m at aw s sw e =
    ring_in_from (r ∷ m ∷ at ∷ aw ∷ s ∷ sw ∷ []) (λ r m at aw s sw. m ⊗ (at ⊗ sw ⊖ s ⊗ aw))
    (λ r m at aw s sw. num 0) (λ r m at aw s sw. (
      num 0 ⊖ num 1,
      (r ⊗ at ⊕ m ⊗ s) ⊗ aw,
      at ⊗ (r ⊗ aw ⊕ m ⊗ sw),
    ) ∷ []) (e, tt) tt

abbrev either : ℤ → ℤ → ℕ → ℤ
either a b zero = a
either a b (suc i) = b

-- so the first end of the first segment is their only common point, if there is one only
only_start : (s t u v at : Fraction) → ¬ IsSame u v → bracket (vec u) (vec v) (vec s) ≡ pos 0
    → WithinSegment u v at → MeetAt s t u v at → IsSame s at
only_start s t u v at apart on_s within m =
    let f = two_weights IsPositive u v at within in
    let g = line_weights IsWhole u v s apart on_s tt tt in
    let o = two_weights IsNotNegative s t at m.first in
    let N = nudge_each 2 (either f.k f.l) (either g.k g.l) in
    let first = (N.2 0 (omega arith)).left f.k_allowed in
    let second = (N.2 1 (omega arith)).left f.l_allowed in
    let factor = mul-pos_ℤ N.1 f.positive in
    let z : Fraction = record {
      x = (N.0 *ℤ f.n) *ℤ at.x +ℤ g.n *ℤ s.x;
      y = (N.0 *ℤ f.n) *ℤ at.y +ℤ g.n *ℤ s.y;
      w = (N.0 *ℤ f.n) *ℤ at.w +ℤ g.n *ℤ s.w;
      positive = sum_is_positive ((N.0 *ℤ f.n) *ℤ at.w) (g.n *ℤ s.w) (mul-pos_ℤ factor at.positive)
          (mul-pos_ℤ g.positive s.positive);
    } in
    let on_second : OnSegment u v z = mean_of_two IsNotNegative u v z (record {
      k = N.0 *ℤ f.k +ℤ g.k;
      l = N.0 *ℤ f.l +ℤ g.l;
      n = pos 1;
      k_allowed = weak first;
      l_allowed = weak second;
      positive = record { lt = tt };
      x = blend_on_second N.0 f.k f.l f.n g.k g.l g.n u.x v.x at.x s.x f.x g.x;
      y = blend_on_second N.0 f.k f.l f.n g.k g.l g.n u.y v.y at.y s.y f.y g.y;
      w = blend_on_second N.0 f.k f.l f.n g.k g.l g.n u.w v.w at.w s.w f.w g.w;
    }) in
    let on_first : OnSegment s t z = mean_of_two IsNotNegative s t z (record {
      k = (N.0 *ℤ f.n) *ℤ o.k +ℤ o.n *ℤ g.n;
      l = (N.0 *ℤ f.n) *ℤ o.l;
      n = o.n;
      k_allowed = sum_not_negative ((N.0 *ℤ f.n) *ℤ o.k) (o.n *ℤ g.n)
          (mul-nonneg_ℤ (weak factor) o.k_allowed) (weak (mul-pos_ℤ o.positive g.positive));
      l_allowed = mul-nonneg_ℤ (weak factor) o.l_allowed;
      positive = o.positive;
      x = blend_on_first N.0 f.n g.n o.k o.l o.n s.x t.x at.x o.x;
      y = blend_on_first N.0 f.n g.n o.k o.l o.n s.y t.y at.y o.y;
      w = blend_on_first N.0 f.n g.n o.k o.l o.n s.w t.w at.w o.w;
    }) in
    let same = m.only z on_first on_second in
    record {
      x = one_number (s.x *ℤ at.w) (at.x *ℤ s.w) (zero_of_mul-zero_ℤ (pos-ne-zero_ℤ g.positive)
          (blend_apart (N.0 *ℤ f.n) g.n at.x at.w s.x s.w same.x));
      y = one_number (s.y *ℤ at.w) (at.y *ℤ s.w) (zero_of_mul-zero_ℤ (pos-ne-zero_ℤ g.positive)
          (blend_apart (N.0 *ℤ f.n) g.n at.y at.w s.y s.w same.y));
    }

turned_first : (s t u v at : Fraction) → MeetAt s t u v at → MeetAt t s u v at
turned_first s t u v at m = record {
  first = turned_mean_of_two IsNotNegative s t at m.first;
  second = m.second;
  only = λ p f g. m.only p (turned_mean_of_two IsNotNegative t s p f) g;
}

-- segments of one line do not meet in one point that is within the second
not_on_one_line : (s t u v at : Fraction) → ¬ IsSame s t → ¬ IsSame u v → WithinSegment u v at
    → MeetAt s t u v at → bracket (vec s) (vec t) (vec u) ≡ pos 0
    → bracket (vec s) (vec t) (vec v) ≡ pos 0 → ⊥
not_on_one_line s t u v at apart apart' within m on_u on_v =
    let start = only_start s t u v at apart' (first_on_second s t u v apart on_u on_v) within m in
    let end = only_start t s u v at apart' (first_on_second t s u v (λ e. apart (same-sym t s e))
    (opposite_of_zero (bracket (vec t) (vec s) (vec u)) (bracket (vec s) (vec t) (vec u))
    (bracket-swap (vec t) (vec s) (vec u)) on_u)
    (opposite_of_zero (bracket (vec t) (vec s) (vec v)) (bracket (vec s) (vec t) (vec v))
    (bracket-swap (vec t) (vec s) (vec v)) on_v)) within (turned_first s t u v at m) in
    apart (same-trans s at t start (same-sym t at end))

-- ---- from the meeting to the signs
opposite_if : (k l a b : ℤ) → pos 0 <ℤ k → pos 0 <ℤ l → k *ℤ a +ℤ l *ℤ b ≡ pos 0
    → ((a ≡ pos 0) → (b ≡ pos 0) → ⊥) → AreOpposite a b
opposite_if k l a b h i e n = go (sign a) (sign b)
  where
    balanced : (x y : ℤ) → x +ℤ y ≡ pos 0 → pos 0 <ℤ x → pos 0 ≤ℤ y → ⊥
    balanced x y e h k = omega (arith, ints)

    balanced_below : (x y : ℤ) → x +ℤ y ≡ pos 0 → x <ℤ pos 0 → y ≤ℤ pos 0 → ⊥
    balanced_below x y e h k = omega (arith, ints)

    turned : (x y : ℤ) → x +ℤ y ≡ pos 0 → y +ℤ x ≡ pos 0
    turned x y e = omega (arith, ints)

    go : Sign a → Sign b → AreOpposite a b
    go (below p) (above q) = inl (p, q)
    go (above p) (below q) = inr (p, q)
    go (none p) (none q) = absurd (n p q)
    go (below p) (below q) = absurd (balanced_below (k *ℤ a) (l *ℤ b) e (mul-neg_of_pos_neg_ℤ h p)
        (negative_is_not_positive (l *ℤ b) (mul-neg_of_pos_neg_ℤ i q)))
    go (below p) (none q) = absurd (balanced_below (k *ℤ a) (l *ℤ b) e (mul-neg_of_pos_neg_ℤ h p)
        (zero_is_not_positive (l *ℤ b) (zero-mul_ℤ l q)))
    go (none p) (below q) = absurd (balanced_below (l *ℤ b) (k *ℤ a) (turned (k *ℤ a) (l *ℤ b) e)
        (mul-neg_of_pos_neg_ℤ i q) (zero_is_not_positive (k *ℤ a) (zero-mul_ℤ k p)))
    go (above p) (above q) =
        absurd (balanced (k *ℤ a) (l *ℤ b) e (mul-pos_ℤ h p) (weak (mul-pos_ℤ i q)))
    go (above p) (none q) = absurd (balanced (k *ℤ a) (l *ℤ b) e (mul-pos_ℤ h p)
        (zero_is_not_negative (l *ℤ b) (zero-mul_ℤ l q)))
    go (none p) (above q) = absurd (balanced (l *ℤ b) (k *ℤ a) (turned (k *ℤ a) (l *ℤ b) e)
        (mul-pos_ℤ i q) (zero_is_not_negative (k *ℤ a) (zero-mul_ℤ k p)))

parted_if : (a b : ℤ) → (pos 0 <ℤ a → pos 0 <ℤ b → ⊥) → (a <ℤ pos 0 → b <ℤ pos 0 → ⊥)
    → AreParted a b
parted_if a b n m = go (sign a) (sign b)
  where
    go : Sign a → Sign b → AreParted a b
    go (below p) (below q) = absurd (m p q)
    go (below p) (none q) = inl (omega (arith, ints), omega (arith, ints))
    go (below p) (above q) = inl (omega (arith, ints), omega (arith, ints))
    go (none p) (below q) = inr (omega (arith, ints), omega (arith, ints))
    go (none p) (none q) = inl (omega (arith, ints), omega (arith, ints))
    go (none p) (above q) = inl (omega (arith, ints), omega (arith, ints))
    go (above p) (below q) = inr (omega (arith, ints), omega (arith, ints))
    go (above p) (none q) = inr (omega (arith, ints), omega (arith, ints))
    go (above p) (above q) = absurd (n p q)

opposite_of_meets : (s t u v : Fraction) → ¬ IsSame s t → ¬ IsSame u v → MeetsWithin s t u v
    → AreOpposite (bracket (vec s) (vec t) (vec u)) (bracket (vec s) (vec t) (vec v))
opposite_of_meets s t u v apart apart' m =
    let f = two_weights IsPositive u v m.at m.within in
    opposite_if f.k f.l (bracket (vec s) (vec t) (vec u))
    (bracket (vec s) (vec t) (vec v)) f.k_allowed f.l_allowed
    (zero_combination f.k f.l (bracket (vec s) (vec t) (vec u)) (bracket (vec s) (vec t) (vec v))
    f.n (bracket (vec s) (vec t) (vec m.at)) (bracket_of_two IsPositive (vec s)
    (vec t) u v m.at f) (bracket_of_line s t m.at (inl m.meet.first)))
    (not_on_one_line s t u v m.at apart apart' m.within m.meet)

-- one common point, within the second: u and v are on opposite sides of s t, and s and t not on one
-- side of u v
pub meets_within_is : (s t u v : Fraction) → ¬ IsSame s t → ¬ IsSame u v → MeetsWithin s t u v
    ↔ (AreOpposite (bracket (vec s) (vec t) (vec u)) (bracket (vec s) (vec t) (vec v))
    × AreParted (bracket (vec u) (vec v) (vec s)) (bracket (vec u) (vec v) (vec t)))
meets_within_is s t u v apart apart' = (
  (λ m. let f = two_weights IsNotNegative s t m.at m.meet.first in
      let on = bracket_of_line u v m.at (inl m.meet.second) in (
        opposite_of_meets s t u v apart apart' m,
        parted_if (bracket (vec u) (vec v) (vec s)) (bracket (vec u) (vec v) (vec t))
            (λ h k. left_not_zero (left_of_two (vec u) (vec v) s t m.at f h k) on)
            (λ h k. right_not_zero (right_of_two (vec u) (vec v) s t m.at f h k) on),
      )),
  (λ o. meets_within_if s t u v o.0 o.1),
)

-- one common point, within both: each segment's ends are on opposite sides of the other
pub cross_is : (s t u v : Fraction) → ¬ IsSame s t → ¬ IsSame u v → Cross s t u v
    ↔ (AreOpposite (bracket (vec s) (vec t) (vec u)) (bracket (vec s) (vec t) (vec v))
    × AreOpposite (bracket (vec u) (vec v) (vec s)) (bracket (vec u) (vec v) (vec t)))
cross_is s t u v apart apart' = (
  (λ c. let d = cross-sym s t u v c in (
    opposite_of_meets s t u v apart apart'
        (record { at = c.at; meet = c.meet; within = c.within_second }),
    opposite_of_meets u v s t apart' apart
        (record { at = d.at; meet = d.meet; within = d.within_second }),
  )),
  (λ o. cross_if s t u v o.0 o.1),
)

-- ---- segments with equal ends
meet_at_point : (s t u v : Fraction) → IsSame s t → WithinSegment u v s → MeetAt s t u v s
meet_at_point s t u v e h = record {
  first = start_on_segment s t;
  second = on_of_within u v s h;
  only = λ p f g. only_point s t p e f;
}

-- the first has one point: it has to be within the second
pub cross_at_point : (s t u v : Fraction) → IsSame s t → Cross s t u v ↔ WithinSegment u v s
cross_at_point s t u v e = (
  (λ c. within_segment-same u v c.at s (only_point s t c.at e c.meet.first) c.within_second),
  (λ h. record {
    at = s;
    meet = meet_at_point s t u v e h;
    within_first = within_itself s t s e (same-refl s);
    within_second = h;
  }),
)

-- it meets the second within where it is within the second
pub meets_at_point : (s t u v : Fraction) → IsSame s t → MeetsWithin s t u v ↔ WithinSegment u v s
meets_at_point s t u v e = (
  (λ c. within_segment-same u v c.at s (only_point s t c.at e c.meet.first) c.within),
  (λ h. record { at = s; meet = meet_at_point s t u v e h; within = h }),
)

-- the second has one point: it has to be on the first
pub meets_a_point : (s t u v : Fraction) → IsSame u v → MeetsWithin s t u v ↔ OnSegment s t u
meets_a_point s t u v e = (
  (λ c. on_segment-same s t c.at u (only_point u v c.at e c.meet.second) c.meet.first),
  (λ h. record {
    at = u;
    meet =
        record { first = h; second = start_on_segment u v; only = λ p f g. only_point u v p e g };
    within = within_itself u v u e (same-refl u);
  }),
)

-- ---- crossing by answers of the side function
opposite_is_parts : (s t u v : Fraction)
    → AreOpposite (bracket (vec s) (vec t) (vec u)) (bracket (vec s) (vec t) (vec v))
    ↔ Parts s t u v
opposite_is_parts s t u v = (forth, back)
  where
    forth : AreOpposite (bracket (vec s) (vec t) (vec u)) (bracket (vec s) (vec t) (vec v))
        → Parts s t u v
    forth (inl h) = inr (right_if s t u h.0, left_if s t v h.1)
    forth (inr h) = inl (left_if s t u h.0, right_if s t v h.1)

    back : Parts s t u v
        → AreOpposite (bracket (vec s) (vec t) (vec u)) (bracket (vec s) (vec t) (vec v))
    back (inl h) = inr (if_left s t u h.0, if_right s t v h.1)
    back (inr h) = inl (if_right s t u h.0, if_left s t v h.1)

-- two segments, each with different ends, cross exactly if each has the other's ends on its two
-- sides
pub crossing_is_sides : (s t u v : Fraction) → ¬ IsSame s t → ¬ IsSame u v → Cross s t u v
    ↔ (Parts s t u v × Parts u v s t)
crossing_is_sides s t u v apart apart' = let brackets = cross_is s t u v apart apart' in (
  (λ c. let o = brackets.0 c in
      ((opposite_is_parts s t u v).0 o.0, (opposite_is_parts u v s t).0 o.1)),
  (λ p. brackets.1 ((opposite_is_parts s t u v).1 p.0, (opposite_is_parts u v s t).1 p.1)),
)
