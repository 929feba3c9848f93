-- What a segment meets first from strictly within an edge; and a point outside the vertices of one
-- line, which no edge carries.
-- Lemmas: first_to_left, first_along, one_ahead, first_from_an_edge, off_past,
-- outside_is_off_line, crossing_on_line.
use Rattle.std.proofs.Common.{◌≡◌, ◌≢◌, ℕ, [], ◌∷◌, arith, sym, ◌∙◌, subst}
use mathlib.Core.Logic.{◌⊎◌, inl, inr}
use native.Mathlib.Decide.{ℕ_discrete}
use lib.IntN.{neg_ℤ}
use Rattle.std.specs.Prelude.{ℤ, pos, ◌<ℤ◌, ◌≤ℤ◌, ◌+ℤ◌, ◌-ℤ◌, ◌*ℤ◌}
use Rattle.std.proofs.lemmas.Int.{ints}
use Rattle.plane.specs.{Fraction, IsEdge, IsNotNegative, IsPast, IsPositive, IsSame, IsVertex}
use Rattle.plane.specs.{JoinsLine, OnSegment, Triangulation, TurnsLeft, vertex, WithinSegment}
use Rattle.plane.proofs.{◌⊕◌, ◌⊗◌, above, below, difference_is_positive, end_on_segment, lt_or_ge_ℤ}
use Rattle.plane.proofs.{mean_of_two, mul-neg_ℤ, mul-nonneg_ℤ, mul-nonpos_of_nonneg_nonpos_ℤ}
use Rattle.plane.proofs.{mul-pos_ℤ, neg-mul_ℤ, none, on_of_within, on_segment-same, on_segment_is}
use Rattle.plane.proofs.{only_point, opposite_of_negative, opposite_of_positive}
use Rattle.plane.proofs.{opposite_of_zero_of, pos-ne-zero_ℤ, pos_of_mul-pos_ℤ, product_zero_left}
use Rattle.plane.proofs.{reach, reach-end, reach-start, reach_of_two, right_not_above, ring_in_from}
use Rattle.plane.proofs.{same-sym, same-trans, Sign, sign, start_on_segment, two_weights}
use Rattle.plane.proofs.{TwoWeights, weak, weak_right, within_segment-same, zero-mul_ℤ}
use Rattle.plane.proofs.{Means.turned_two, zero_of_mul-zero_ℤ, zero_weak}
use Rattle.plane_theorems.specs.{IsAhead, IsFirst}
use Rattle.plane_theorems.specs.Segments.WalkLaws.{CrossingOnLine, FirstFromEdge, OutsideIsOffLine}
use Rattle.plane_theorems.proofs.Delaunay.Circles.EmptyCircles.{same_at_end}
use Rattle.plane_theorems.proofs.Delaunay.Points.AlongSegment.{same_on_line, within_on_line}
use Rattle.plane_theorems.proofs.Delaunay.Points.Bracket.{above_if_left, bracket, bracket-first}
use Rattle.plane_theorems.proofs.Delaunay.Points.Bracket.{bracket-second, bracket-swapped}
use Rattle.plane_theorems.proofs.Delaunay.Points.Bracket.{bracket-turned}
use Rattle.plane_theorems.proofs.Delaunay.Segments.LineItems.{between_of, Meeting, turned_segment}
use Rattle.plane_theorems.proofs.Delaunay.Tilings.Faces.{Between, between-on}
use Rattle.plane_theorems.proofs.Segments.First.Firsts.{first_crossing_here, first_overlap}
use Rattle.plane_theorems.proofs.Segments.Items.Begins.{edge_flipped, met_if}
use Rattle.plane_theorems.proofs.Segments.Items.OverlapDecided.{overlaps_if}
use Rattle.plane_theorems.proofs.Segments.Items.SideSigns.{below_if_right, none_if_on}
use Rattle.plane_theorems.proofs.{Segments.Walking.EachWalk.ends_differ, Tiling.Edges.turned_within}
use Rattle.plane_theorems.proofs.Segments.Walking.OneLine.{edge_level, item_level, line_ends}
use Rattle.plane_theorems.proofs.Segments.Walking.OneLine.{meeting_if}
use Rattle.plane_theorems.proofs.Segments.Walking.Steps.{crossing_sides}
use Rattle.plane_theorems.proofs.Segments.Walking.WalkSteps.{meeting_of}
use Rattle.plane.specs.Line as L

-- ---- numbers: n x = k a + l b
last_only : (n k l x a b : ℤ) → n *ℤ x ≡ k *ℤ a +ℤ l *ℤ b → a ≡ pos 0 → n *ℤ x ≡ l *ℤ b
last_only n k l x a b e z = let m = zero-mul_ℤ k z in omega (arith, ints)

first_only : (n k l x a b : ℤ) → n *ℤ x ≡ k *ℤ a +ℤ l *ℤ b → b ≡ pos 0 → n *ℤ x ≡ k *ℤ a
first_only n k l x a b e z = let m = zero-mul_ℤ l z in omega (arith, ints)

left_by : (n x l b : ℤ) → n *ℤ x ≡ l *ℤ b → pos 0 <ℤ n → pos 0 <ℤ l → pos 0 <ℤ b → pos 0 <ℤ x
left_by n x l b e hn hl hb =
    pos_of_mul-pos_ℤ {k = n} {x = x} hn
    (subst (λ z. pos 0 <ℤ z) (sym e) (mul-pos_ℤ {a = l} {b = b} hl hb))

none_by : (n x l b : ℤ) → n *ℤ x ≡ l *ℤ b → pos 0 <ℤ n → b ≡ pos 0 → x ≡ pos 0
none_by n x l b e hn z =
    zero_of_mul-zero_ℤ {k = n} {x = x} (pos-ne-zero_ℤ hn) (let m = zero-mul_ℤ l z in
    omega (arith, ints))

-- of two numbers under positive weights with sum 0, one is above where the other is below
other_below : (n k l x a b : ℤ) → n *ℤ x ≡ k *ℤ a +ℤ l *ℤ b → x ≡ pos 0 → pos 0 <ℤ k → pos 0 <ℤ l
    → pos 0 <ℤ b → a <ℤ pos 0
other_below n k l x a b e z hk hl hb = go (lt_or_ge_ℤ a (pos 0))
  where
    high : pos 0 ≤ℤ a → ⊥
    high h = let m = mul-nonneg_ℤ {a = k} {b = a} (weak hk) h in
        let o = mul-pos_ℤ {a = l} {b = b} hl hb in
        let y = zero-mul_ℤ n z in omega (arith, ints)

    go : (a <ℤ pos 0) ⊎ (pos 0 ≤ℤ a) → a <ℤ pos 0
    go (inl h) = h
    go (inr h) = absurd (high h)

other_above : (n k l x a b : ℤ) → n *ℤ x ≡ k *ℤ a +ℤ l *ℤ b → x ≡ pos 0 → pos 0 <ℤ k → pos 0 <ℤ l
    → b <ℤ pos 0 → pos 0 <ℤ a
other_above n k l x a b e z hk hl hb =
    elim (lt_or_ge_ℤ (pos 0) a) [ inl h ↦ h | inr h ↦ absurd (low h) ]
  where
    low : a ≤ℤ pos 0 → ⊥
    low h = let m = mul-nonpos_of_nonneg_nonpos_ℤ {a = k} {b = a} (weak hk) h in
        let o = mul-pos_ℤ {a = l} {b = neg_ℤ b} hl (omega (arith, ints)) in let c = mul-neg_ℤ l b in
        let y = zero-mul_ℤ n z in omega (arith, ints)

module _ (p q : Fraction) (apart : ¬ IsSame p q) where
  -- p is on the line of p and q
  on_p : bracket p q p ≡ pos 0
  unfolding bracket
  on_p = ((on_segment_is p q p apart).0 (start_on_segment p q)).0

  -- and so is q
  on_q : bracket p q q ≡ pos 0
  unfolding bracket
  on_q = ((on_segment_is p q q apart).0 (end_on_segment p q)).0

  -- a point of the line after the start is ahead, towards the end
  ahead_if : (x : Fraction) → bracket p q x ≡ pos 0 → pos 0 <ℤ reach p q x → IsAhead p x q
  unfolding bracket on_p on_q
  ahead_if x on_x high = go (lt_or_ge_ℤ (reach p q q *ℤ x.w) (reach p q x *ℤ q.w))
    where
      after : (y : Fraction) → pos 0 <ℤ reach p q y
          → pos 0 <ℤ (reach p q y *ℤ p.w -ℤ reach p q p *ℤ y.w)
      after y h = sum (reach p q y *ℤ p.w) (reach p q p *ℤ y.w) (mul-pos_ℤ h p.positive)
          (product_zero_left y.w (reach-start p q))
        where
          sum : (a b : ℤ) → pos 0 <ℤ a → b ≡ pos 0 → pos 0 <ℤ (a -ℤ b)
          sum a b h e = omega (arith, ints)

      go : ((reach p q q *ℤ x.w) <ℤ (reach p q x *ℤ q.w))
          ⊎ ((reach p q x *ℤ q.w) ≤ℤ (reach p q q *ℤ x.w)) → IsAhead p x q
      go (inl past) = inl (on_of_within p x q (within_on_line p q apart p q x on_p on_q on_x
          (after q (reach-end p q apart)) (difference_is_positive _ _ past)))
      go (inr least) = inr ((on_segment_is p q x apart).1 (on_x, weak high, least))

  -- and one that is ahead and not at the start comes after it
  after_if : (x : Fraction) → ¬ IsSame p x → bracket p q x ≡ pos 0 → IsAhead p x q
      → pos 0 <ℤ reach p q x
  unfolding bracket on_p
  after_if x two on_x (inl m) = go (sign (reach p q x))
    where
      w : TwoWeights IsNotNegative p x q
      w = two_weights IsNotNegative p x q m

      sum : w.n *ℤ reach p q q ≡ w.l *ℤ reach p q x
      sum = last_only w.n w.k w.l (reach p q q) (reach p q p) (reach p q x)
          (reach_of_two IsNotNegative p q p x q w)
          (reach-start p q)

      not_under : (n r l x : ℤ) → n *ℤ r ≡ l *ℤ x → pos 0 <ℤ n → pos 0 <ℤ r → pos 0 ≤ℤ l
          → x ≤ℤ pos 0 → ⊥
      not_under n r l x e hn hr hl hx = let a = mul-pos_ℤ {a = n} {b = r} hn hr in
          let b = mul-nonpos_of_nonneg_nonpos_ℤ {a = l} {b = x} hl hx in omega (arith, ints)

      under : reach p q x ≤ℤ pos 0 → ⊥
      under h = not_under w.n (reach p q q) w.l (reach p q x) sum w.positive
          (reach-end p q apart) w.l_allowed h

      go : Sign (reach p q x) → pos 0 <ℤ reach p q x
      go (below h) = absurd (under (weak_right h))
      go (none h) = absurd (under (zero_weak h))
      go (above h) = h
  after_if x two on_x (inr m) = go (sign (reach p q x))
    where
      go : Sign (reach p q x) → pos 0 <ℤ reach p q x
      go (below h) = absurd (right_not_above h ((on_segment_is p q x apart).0 m).1)
      go (none h) = absurd (two (same_on_line p q apart p x on_p on_x
          (both (reach p q p *ℤ x.w) (reach p q x *ℤ p.w) (product_zero_left x.w (reach-start p q))
          (product_zero_left p.w h))))
        where
          both : (a b : ℤ) → a ≡ pos 0 → b ≡ pos 0 → a ≡ b
          both a b e d = omega (arith, ints)
      go (above h) = h

module _ (t : Triangulation) (c₀ : Meeting t) (p q : Fraction) (apart : ¬ IsSame p q) where
  module _ (a b : ℕ) (e : IsEdge t a b) (here : WithinSegment (vertex t a) (vertex t b) p) where
    abbrev A : Fraction
    A = vertex t a

    abbrev B : Fraction
    B = vertex t b

    -- p is strictly between the ends, for each linear form
    m : Between A B p
    m = between_of A B p here

    -- what the bracket of the edge at the end says of its ends and the segment
    by_first : m.n *ℤ bracket q A p ≡ m.l *ℤ bracket q A B
    by_first = last_only m.n m.k m.l (bracket q A p) (bracket q A A) (bracket q A B) (m.along q A)
        (bracket-second q A)

    by_second : m.n *ℤ bracket q B p ≡ m.k *ℤ bracket q B A
    by_second =
        first_only m.n m.k m.l (bracket q B p) (bracket q B A) (bracket q B B) (m.along q B)
        (bracket-second q B)

    -- from a point within an edge to its left, the edge itself is crossed first
    pub first_to_left : pos 0 <ℤ bracket A B q → IsFirst t p q (L.across a b)
    first_to_left high = first_crossing_here t p q apart a b (met_if t p q apart a b e (record {
      left = subst (λ z. pos 0 <ℤ z) (bracket-turned p q A)
          (left_by m.n (bracket q A p) m.l (bracket q A B) by_first m.n_above m.l_above
          (subst (λ z. pos 0 <ℤ z) (bracket-turned q A B) high));
      right = subst (λ z. z <ℤ pos 0) (bracket-turned p q B)
          (opposite_of_positive _ _ (bracket-swapped B q p)
          (left_by m.n (bracket B q p) m.k (bracket B q A) swapped m.n_above m.k_above
          (subst (λ z. pos 0 <ℤ z) (sym (bracket-turned A B q)) high)));
      start = zero_weak (between-on A B p m);
      end = weak high;
    })) (on_of_within A B p here)
      where
        swapped : m.n *ℤ bracket B q p ≡ m.k *ℤ bracket B q A
        swapped =
            first_only m.n m.k m.l (bracket B q p) (bracket B q A) (bracket B q B) (m.along B q)
            (bracket-first B q)

    -- where q is on the edge's line, a is on the segment's
    on_a : bracket A B q ≡ pos 0 → bracket p q A ≡ pos 0
    on_a z = sym (bracket-turned p q A)
        ∙ none_by m.n (bracket q A p) m.l (bracket q A B) by_first m.n_above
        (sym (bracket-turned q A B) ∙ z)

    -- and so is b
    on_b : bracket A B q ≡ pos 0 → bracket p q B ≡ pos 0
    on_b z = sym (bracket-turned p q B)
        ∙ none_by m.n (bracket q B p) m.k (bracket q B A) by_second m.n_above
        (opposite_of_zero_of (bracket-swapped B q A) (bracket-turned A B q ∙ z))

    not_at_last : ¬ IsSame p B
    not_at_last s = c₀.none_within a b b e (c₀.ends a b e).1 (within_segment-same A B p B s here)

    -- p, by its weights on the edge
    w : TwoWeights IsPositive A B p
    w = two_weights IsPositive A B p here

    first_before : pos 0 <ℤ reach p q B → reach p q A <ℤ pos 0
    first_before = other_below w.n w.k w.l (reach p q p) (reach p q A) (reach p q B)
        (reach_of_two IsPositive p q A B p w) (reach-start p q) w.k_allowed w.l_allowed

    -- from a point within an edge along it, the overlap comes first
    pub first_along : bracket A B q ≡ pos 0 → IsAhead p B q → IsFirst t p q (L.along a b)
    unfolding bracket
    first_along z ahead = first_overlap t p q apart c₀ a b (
      e,
      overlaps_if p q A B apart (record {
        on_u = on_a z;
        on_v = on_b z;
        along = falls (reach p q B) A.w (reach p q A) B.w high low A.positive B.positive;
        starts = less (reach p q A) q.w (reach p q q) A.w low
            (reach-end p q apart) q.positive A.positive;
        ends = high;
      }),
    ) here
      where
        high : pos 0 <ℤ reach p q B
        high = after_if p q apart B not_at_last (on_b z) ahead

        low : reach p q A <ℤ pos 0
        low = first_before high

        falls : (rb aw ra bw : ℤ) → pos 0 <ℤ rb → ra <ℤ pos 0 → pos 0 <ℤ aw → pos 0 <ℤ bw →
            pos 0 <ℤ (rb *ℤ aw -ℤ ra *ℤ bw)
        falls rb aw ra bw h l ha hb = let i = mul-pos_ℤ {a = rb} {b = aw} h ha in
            let j = mul-pos_ℤ {a = neg_ℤ ra} {b = bw} (omega (arith, ints)) hb in
            omega (arith, ints, neg-mul_ℤ ra bw)

        less : (ra qw rq aw : ℤ) → ra <ℤ pos 0 → pos 0 <ℤ rq → pos 0 <ℤ qw → pos 0 <ℤ aw
            → (ra *ℤ qw) <ℤ (rq *ℤ aw)
        less ra qw rq aw l h hq ha = let i = mul-pos_ℤ {a = rq} {b = aw} h ha in
            let j = mul-pos_ℤ {a = neg_ℤ ra} {b = qw} (omega (arith, ints)) hq in
            omega (arith, ints, neg-mul_ℤ ra qw)

    -- one of the edge's ends is ahead
    pub one_ahead : bracket A B q ≡ pos 0 → IsAhead p B q ⊎ IsAhead p A q
    unfolding bracket
    one_ahead z = go (sign (reach p q B))
      where
        sum : w.n *ℤ reach p q p ≡ w.k *ℤ reach p q A +ℤ w.l *ℤ reach p q B
        sum = reach_of_two IsPositive p q A B p w

        go : Sign (reach p q B) → IsAhead p B q ⊎ IsAhead p A q
        go (above h) = inl (ahead_if p q apart B (on_b z) h)
        go (below h) = inr (ahead_if p q apart A (on_a z)
            (other_above w.n w.k w.l (reach p q p) (reach p q A) (reach p q B) sum
            (reach-start p q) w.k_allowed
            w.l_allowed h))
        go (none h) = absurd (not_at_last (same_on_line p q apart p B (on_p p q apart) (on_b z)
            (both (reach p q p *ℤ B.w) (reach p q B *ℤ p.w)
            (product_zero_left B.w (reach-start p q))
            (product_zero_left p.w h))))
          where
            both : (a b : ℤ) → a ≡ pos 0 → b ≡ pos 0 → a ≡ b
            both a b e d = omega (arith, ints)

-- from strictly within an edge, that edge comes first: crossed, or overlapped towards the end ahead
pub first_from_an_edge : FirstFromEdge
first_from_an_edge t h p q apart a b e here = (
  (λ s. first_to_left t c p q apart a b e here (above_if_left (vertex t a) (vertex t b) q s)),
  (λ s. first_to_left t c p q apart b a (edge_flipped t a b e)
      (turned_within (vertex t a) (vertex t b) p here)
      (opposite_of_negative _ _ (bracket-swapped (vertex t a) (vertex t b) q)
      (below_if_right (vertex t a) (vertex t b) q s))),
  (λ s ahead. first_along t c p q apart a b e here
      (none_if_on (vertex t a) (vertex t b) q s) ahead),
  (λ s. one_ahead t c p q apart a b e here (none_if_on (vertex t a) (vertex t b) q s)),
)
  where
    c : Meeting t
    c = meeting_of t h

-- ---- outside the vertices of one line
-- x is within p a, and p on the edge a b, not at a: x is within the edge
inner_within : (a b p x : Fraction) → OnSegment a b p → WithinSegment p a x
    → IsSame p a ⊎ WithinSegment a b x
inner_within a b p x m n = go (sign w.l)
  where
    w : TwoWeights IsNotNegative a b p
    w = two_weights IsNotNegative a b p m

    v : TwoWeights IsPositive p a x
    v = two_weights IsPositive p a x n

    mixed : (n k l a b p n' k' l' x : ℤ) → n *ℤ p ≡ k *ℤ a +ℤ l *ℤ b → n' *ℤ x ≡ k' *ℤ p +ℤ l' *ℤ a
        → (n *ℤ n') *ℤ x ≡ (k' *ℤ k +ℤ n *ℤ l') *ℤ a +ℤ (k' *ℤ l) *ℤ b
    mixed n k l a b p n' k' l' x e d = ring_in_from (n ∷ k ∷ l ∷ a ∷ b ∷ p ∷ n' ∷ k' ∷ l' ∷ x ∷ [])
        (λ n k l a b p n' k' l' x. (n ⊗ n') ⊗ x)
        (λ n k l a b p n' k' l' x. (k' ⊗ k ⊕ n ⊗ l') ⊗ a ⊕ (k' ⊗ l) ⊗ b)
        (λ n k l a b p n' k' l' x. (k', n ⊗ p, k ⊗ a ⊕ l ⊗ b) ∷ (n, n' ⊗ x, k' ⊗ p ⊕ l' ⊗ a) ∷ [])
        (e, (d, tt)) tt

    sum : {y z : ℤ} → pos 0 ≤ℤ y → pos 0 <ℤ z → pos 0 <ℤ (y +ℤ z)
    sum h k = omega (arith, ints)

    go : Sign w.l → IsSame p a ⊎ WithinSegment a b x
    go (below h) = absurd (right_not_above h w.l_allowed)
    go (none h) = inl (same_at_end b a p (turned_two IsNotNegative a b p w) h)
    go (above h) = inr (mean_of_two IsPositive a b x (record {
      k = v.k *ℤ w.k +ℤ w.n *ℤ v.l;
      l = v.k *ℤ w.l;
      n = w.n *ℤ v.n;
      k_allowed =
          sum (mul-nonneg_ℤ (weak v.k_allowed) w.k_allowed) (mul-pos_ℤ w.positive v.l_allowed);
      l_allowed = mul-pos_ℤ v.k_allowed h;
      positive = mul-pos_ℤ w.positive v.positive;
      x = mixed w.n w.k w.l a.x b.x p.x v.n v.k v.l x.x w.x v.x;
      y = mixed w.n w.k w.l a.y b.y p.y v.n v.k v.l x.y w.y v.y;
      w = mixed w.n w.k w.l a.w b.w p.w v.n v.k v.l x.w w.w v.w;
    }))

module _ (t : Triangulation) (h : JoinsLine t) (c₀ : Meeting t) (p : Fraction) (i : ℕ)
    (hi : IsVertex t i) where
  -- past an end of the line no edge carries the point
  not_past_and_on : IsPast t i p → (a b : ℕ) → IsEdge t a b → a ≢ i
      → ¬ OnSegment (vertex t a) (vertex t b) p
  not_past_and_on past a b e n m =
      go (inner_within (vertex t a) (vertex t b) p (vertex t i) m (past a (c₀.ends a b e).0 n))
    where
      go : IsSame p (vertex t a) ⊎ WithinSegment (vertex t a) (vertex t b) (vertex t i) → ⊥
      go (inl s) = n (sym (c₀.one_vertex i a hi (c₀.ends a b e).0
          (same-trans (vertex t i) p (vertex t a) (only_point p (vertex t a) (vertex t i) s
          (on_of_within p (vertex t a) (vertex t i) (past a (c₀.ends a b e).0 n))) s)))
      go (inr w) = c₀.none_within a b i e hi w

  -- a point past the end of the line is on no edge
  pub off_past : IsPast t i p → (a b : ℕ) → IsEdge t a b → ¬ OnSegment (vertex t a) (vertex t b) p
  off_past past a b e m = go (ℕ_discrete a i)
    where
      go : Dec (a ≡ i) → ⊥
      go (no n) = not_past_and_on past a b e n m
      go (yes r) = not_past_and_on past b a (edge_flipped t a b e)
          (λ s. ((h.neighbours a b).0 e).apart (r ∙ sym s))
          (turned_segment (vertex t a) (vertex t b) p m)

-- where all vertices are on one line, a point outside is at no vertex and on no edge
pub outside_is_off_line : OutsideIsOffLine
outside_is_off_line t h meet one p i j (outer, away) = go away
  where
    c : Meeting t
    c = meeting_if t (line_ends t h) meet one

    hi : IsVertex t i
    hi = (line_ends t h i j outer.0).0

    hj : IsVertex t j
    hj = (line_ends t h i j outer.0).1

    go : TurnsLeft (vertex t i) (vertex t j) p ⊎ IsPast t i p
        → ((k : ℕ) → IsVertex t k → ¬ IsSame p (vertex t k))
        × ((a b : ℕ) → IsEdge t a b → ¬ OnSegment (vertex t a) (vertex t b) p)
    go (inl turns) = (
      (λ k hk s. item_level t h p p i j hi hj (L.at_vertex k)
          (hk, on_segment-same p p p (vertex t k) s (start_on_segment p p)) p s
          (above_if_left _ _ p turns)),
      (λ a b e m. edge_level t h i j hi hj a b e p m (above_if_left _ _ p turns)),
    )
    go (inr past) = (
      (λ k hk s. at_vertex k hk s (ℕ_discrete k i)),
      off_past t h c p i hi past,
    )
      where
        at_vertex : (k : ℕ) → IsVertex t k → IsSame p (vertex t k) → Dec (k ≡ i) → ⊥
        at_vertex k hk s (yes r) = off_past t h c p i hi past i j outer.0
            (on_segment-same (vertex t i) (vertex t j) (vertex t i) p
            (same-sym p (vertex t i) (subst (λ n. IsSame p (vertex t n)) r s))
            (start_on_segment (vertex t i) (vertex t j)))
        at_vertex k hk s (no n) = n (c.one_vertex k i hk hi
            (same-trans (vertex t k) p (vertex t i) (same-sym p (vertex t k) s)
            (same-sym (vertex t i) p (only_point p (vertex t k) (vertex t i) s
            (on_of_within p (vertex t k) (vertex t i) (past k hk n))))))

-- where all vertices are on one line, four sides tell too whether an edge is crossed
pub crossing_on_line : CrossingOnLine
crossing_on_line t h meet one = (
  (λ p q apart a b e. crossing_sides t p q apart a b e
      (ends_differ t (meeting_if t (line_ends t h) meet one) p q apart a b e)),
  (λ few a b e. let n = (h.neighbours a b).0 e in n.apart (omega (arith, few, n.first, n.second))),
)
