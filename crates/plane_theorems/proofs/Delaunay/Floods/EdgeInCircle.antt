-- A closed edge has a point of a closed circle exactly if an end is in it, or the centre falls
-- between the ends and is near enough to the line.
-- Lemmas: edge_meets_circle.
use Rattle.std.proofs.Common.{◌≡◌, [], ◌∷◌, arith, sym, subst}
use mathlib.Core.Logic.{◌⊎◌, ◌↔◌, inl, inr}
use Rattle.std.specs.Prelude.{ℤ, pos, ◌<ℤ◌, ◌≤ℤ◌, ◌+ℤ◌, ◌-ℤ◌, ◌*ℤ◌}
use Rattle.std.proofs.lemmas.Int.{ints}
use Rattle.plane.specs.{Fraction, gap, InClosedCircle, IsNotNegative, OnSegment, Point, whole}
use Rattle.plane.proofs.{◌⊕◌, ◌⊖◌, ◌⊗◌, at_most_by_difference, difference_not_negative_from}
use Rattle.plane.proofs.{end_on_segment, lt_or_ge_ℤ, mean_of_two, mul-nonneg_ℤ, mul-pos_ℤ}
use Rattle.plane.proofs.{nonneg_of_mul-nonneg_ℤ, num, one_times_sum, ring_in, ring_in_from}
use Rattle.plane.proofs.{square-nonneg_ℤ, start_on_segment, sum_not_negative_of, two_weights}
use Rattle.plane.proofs.{TwoWeights, weak, zero_or_left, ⊝}
use Rattle.plane_theorems.specs.{Delaunay.EdgeTests.MeetsCircle, distance_2, factor, HasPointIn}

-- ---- from the numbers to a point
-- an end
end_in : (c : Point) (r : ℤ) (p : Point) → distance_2 c p ≤ℤ r → InClosedCircle c r (whole p)
end_in c r p h = record {
  near = subst (λ z. z ≤ℤ (r *ℤ (pos 1 *ℤ pos 1))) (same c.x c.y p.x p.y)
      (with_one (distance_2 c p) r h);
}
  where
    same : (a b x y : ℤ) → (x -ℤ a) *ℤ (x -ℤ a) +ℤ (y -ℤ b) *ℤ (y -ℤ b) ≡ (x *ℤ pos 1 -ℤ a *ℤ pos 1)
        *ℤ (x *ℤ pos 1 -ℤ a *ℤ pos 1) +ℤ (y *ℤ pos 1 -ℤ b *ℤ pos 1) *ℤ (y *ℤ pos 1 -ℤ b *ℤ pos 1)
    same a b x y = ring_in (a ∷ b ∷ x ∷ y ∷ []) (λ a b x y. (x ⊖ a) ⊗ (x ⊖ a) ⊕ (y ⊖ b) ⊗ (y ⊖ b))
        (λ a b x y. (x ⊗ num 1 ⊖ a ⊗ num 1) ⊗ (x ⊗ num 1 ⊖ a ⊗ num 1) ⊕ (y ⊗ num 1 ⊖ b ⊗ num 1)
        ⊗ (y ⊗ num 1 ⊖ b ⊗ num 1)) tt

    with_one : (d r : ℤ) → d ≤ℤ r → d ≤ℤ (r *ℤ (pos 1 *ℤ pos 1))
    with_one d r h = omega (arith, ints)

module _ (c : Point) (r : ℤ) (p q : Point) where
  -- the squared length of the edge
  len : ℤ
  len = distance_2 p q

  -- where the centre falls on its line, times that length
  f : ℤ
  f = factor p q c

  -- the squared distance of p from the centre
  d : ℤ
  d = distance_2 c p

  -- the point of the line at which the centre falls
  foot : pos 0 <ℤ len → Fraction
  foot h = record {
    x = (len -ℤ f) *ℤ p.x +ℤ f *ℤ q.x;
    y = (len -ℤ f) *ℤ p.y +ℤ f *ℤ q.y;
    w = len;
    positive = h;
  }

  foot_on : (h : pos 0 <ℤ len) → pos 0 ≤ℤ f → f ≤ℤ len → OnSegment (whole p) (whole q) (foot h)
  unfolding foot
  foot_on h i j = mean_of_two IsNotNegative (whole p) (whole q) (foot h) (record {
    k = len -ℤ f;
    l = f;
    n = pos 1;
    k_allowed = difference_not_negative_from len f j;
    l_allowed = i;
    positive = record { lt = tt };
    x = one_times_sum ((len -ℤ f) *ℤ p.x) (f *ℤ q.x);
    y = one_times_sum ((len -ℤ f) *ℤ p.y) (f *ℤ q.y);
    w = all len f;
  })
    where
      all : (l f : ℤ) → pos 1 *ℤ l ≡ (l -ℤ f) *ℤ pos 1 +ℤ f *ℤ pos 1
      all l f = omega (arith, ints)

  foot_gap : (h : pos 0 <ℤ len) → gap (whole c) (foot h) ≡ len *ℤ (d *ℤ len -ℤ f *ℤ f)
  unfolding foot len f d
  foot_gap h = ring_in (c.x ∷ c.y ∷ p.x ∷ p.y ∷ q.x ∷ q.y ∷ [])
      (λ cx cy px py qx qy.
      let l = (qx ⊖ px) ⊗ (qx ⊖ px) ⊕ (qy ⊖ py) ⊗ (qy ⊖ py) in
      let f = (qx ⊖ px) ⊗ (cx ⊖ px) ⊕ (qy ⊖ py) ⊗ (cy ⊖ py) in
      let x = ((l ⊖ f) ⊗ px ⊕ f ⊗ qx) ⊗ num 1 ⊖ cx ⊗ l in
      let y = ((l ⊖ f) ⊗ py ⊕ f ⊗ qy) ⊗ num 1 ⊖ cy ⊗ l in
      x ⊗ x ⊕ y ⊗ y)
      (λ cx cy px py qx qy.
      let l = (qx ⊖ px) ⊗ (qx ⊖ px) ⊕ (qy ⊖ py) ⊗ (qy ⊖ py) in
      let f = (qx ⊖ px) ⊗ (cx ⊖ px) ⊕ (qy ⊖ py) ⊗ (cy ⊖ py) in
      let d = (px ⊖ cx) ⊗ (px ⊖ cx) ⊕ (py ⊖ cy) ⊗ (py ⊖ cy) in
      l ⊗ (d ⊗ l ⊖ f ⊗ f))
      tt

  foot_in : (h : pos 0 <ℤ len) → (d *ℤ len -ℤ f *ℤ f) ≤ℤ (r *ℤ len) → InClosedCircle c r (foot h)
  unfolding foot
  foot_in h i = record {
    near = subst (λ z. z ≤ℤ (r *ℤ (len *ℤ len))) (sym (foot_gap h))
        (at_most_by_difference (r *ℤ (len *ℤ len)) (len *ℤ (d *ℤ len -ℤ f *ℤ f))
        (subst (λ z. pos 0 ≤ℤ z) (spread len r (d *ℤ len -ℤ f *ℤ f)) (mul-nonneg_ℤ {a = len}
        {b = r *ℤ len -ℤ (d *ℤ len -ℤ f *ℤ f)} (weak h) (difference_not_negative_from _ _ i))));
  }
    where
      spread : (l r s : ℤ) → l *ℤ (r *ℤ l -ℤ s) ≡ r *ℤ (l *ℤ l) -ℤ l *ℤ s
      spread l r s =
          ring_in (l ∷ r ∷ s ∷ []) (λ l r s. l ⊗ (r ⊗ l ⊖ s)) (λ l r s. r ⊗ (l ⊗ l) ⊖ l ⊗ s) tt

  second_far : distance_2 c q ≡ d -ℤ pos 2 *ℤ f +ℤ len
  unfolding d f len
  second_far = ring_in (c.x ∷ c.y ∷ p.x ∷ p.y ∷ q.x ∷ q.y ∷ [])
      (λ cx cy px py qx qy. (qx ⊖ cx) ⊗ (qx ⊖ cx) ⊕ (qy ⊖ cy) ⊗ (qy ⊖ cy))
      (λ cx cy px py qx qy. ((px ⊖ cx) ⊗ (px ⊖ cx) ⊕ (py ⊖ cy) ⊗ (py ⊖ cy)) ⊖ num 2 ⊗ ((qx ⊖ px)
      ⊗ (cx ⊖ px) ⊕ (qy ⊖ py) ⊗ (cy ⊖ py)) ⊕ ((qx ⊖ px) ⊗ (qx ⊖ px) ⊕ (qy ⊖ py) ⊗ (qy ⊖ py))) tt

  -- ---- from a point to the numbers
  module _ (x : Fraction) (m : TwoWeights IsNotNegative (whole p) (whole q) x)
      (near : InClosedCircle c r x) where
    -- the sum of the weights
    s : ℤ
    s = m.k +ℤ m.l

    -- r s s, less the squared way of the mean from the centre, times s
    room : ℤ
    room = r *ℤ (s *ℤ s) -ℤ (s *ℤ s *ℤ d -ℤ pos 2 *ℤ (s *ℤ m.l *ℤ f) +ℤ m.l *ℤ m.l *ℤ len)

    room_is : m.n *ℤ m.n *ℤ (r *ℤ (x.w *ℤ x.w) -ℤ gap (whole c) x) ≡ room
    unfolding room s len f d
    room_is = ring_in_from
        (m.n ∷ m.k ∷ m.l ∷ r ∷ x.x ∷ x.y ∷ x.w ∷ c.x ∷ c.y ∷ p.x ∷ p.y ∷ q.x ∷ q.y ∷ [])
        (λ n k l r xx xy xw cx cy px py qx qy. n ⊗ n ⊗ (r ⊗ (xw ⊗ xw) ⊖ ((xx ⊗ num 1 ⊖ cx ⊗ xw)
        ⊗ (xx ⊗ num 1 ⊖ cx ⊗ xw) ⊕ (xy ⊗ num 1 ⊖ cy ⊗ xw) ⊗ (xy ⊗ num 1 ⊖ cy ⊗ xw))))
        (λ n k l r xx xy xw cx cy px py qx qy.
        let s = k ⊕ l in
        let e = (qx ⊖ px) ⊗ (qx ⊖ px) ⊕ (qy ⊖ py) ⊗ (qy ⊖ py) in
        let f = (qx ⊖ px) ⊗ (cx ⊖ px) ⊕ (qy ⊖ py) ⊗ (cy ⊖ py) in
        let d = (px ⊖ cx) ⊗ (px ⊖ cx) ⊕ (py ⊖ cy) ⊗ (py ⊖ cy) in
        r ⊗ (s ⊗ s) ⊖ (s ⊗ s ⊗ d ⊖ num 2 ⊗ (s ⊗ l ⊗ f) ⊕ l ⊗ l ⊗ e))
        (λ n k l r xx xy xw cx cy px py qx qy.
        let s = k ⊕ l in
        let ux = n ⊗ (xx ⊖ cx ⊗ xw) in
        let vx = s ⊗ (px ⊖ cx) ⊕ l ⊗ (qx ⊖ px) in
        let uy = n ⊗ (xy ⊖ cy ⊗ xw) in
        let vy = s ⊗ (py ⊖ cy) ⊕ l ⊗ (qy ⊖ py) in
        (⊝ (ux ⊕ vx), n ⊗ xx, k ⊗ px ⊕ l ⊗ qx) ∷ (⊝ (uy ⊕ vy), n ⊗ xy, k ⊗ py ⊕ l ⊗ qy) ∷ (
          r
              ⊗ (n ⊗ xw ⊕ s) ⊕ cx ⊗ (ux ⊕ vx) ⊕ cy ⊗ (uy ⊕ vy),
          n ⊗ xw,
          k ⊗ num 1 ⊕ l ⊗ num 1,
        ) ∷ [])
        (m.x, (m.y, (m.w, tt))) tt

    room_least : pos 0 ≤ℤ room
    room_least = subst (λ z. pos 0 ≤ℤ z) room_is
        (mul-nonneg_ℤ {a = m.n *ℤ m.n} {b = r *ℤ (x.w *ℤ x.w) -ℤ gap (whole c) x}
        (weak (mul-pos_ℤ m.positive m.positive)) (difference_not_negative_from _ _ near.near))

    s_above : pos 0 <ℤ s
    unfolding s
    s_above = weights _ m.k m.l m.w (mul-pos_ℤ {a = m.n} {b = x.w} m.positive x.positive)
      where
        weights : (t k l : ℤ) → t ≡ k *ℤ pos 1 +ℤ l *ℤ pos 1 → pos 0 <ℤ t → pos 0 <ℤ (k +ℤ l)
        weights t k l e h = omega (arith, ints)

    square_above : pos 0 <ℤ (s *ℤ s)
    square_above = mul-pos_ℤ s_above s_above

    len_least : pos 0 ≤ℤ len
    unfolding len
    len_least = sum_not_negative_of (square-nonneg_ℤ (q.x -ℤ p.x)) (square-nonneg_ℤ (q.y -ℤ p.y))

    -- ss (r - d) = room - 2 s l f + l l len
    by_first : f ≤ℤ pos 0 → d ≤ℤ r
    unfolding room
    by_first h = at_most_by_difference r d (nonneg_of_mul-nonneg_ℤ {k = s *ℤ s} {x = r -ℤ d}
        square_above (subst (λ z. pos 0 ≤ℤ z) (sum r s d m.l f len)
        (sum_not_negative_of
        (sum_not_negative_of room_least (mul-nonneg_ℤ {a = pos 2 *ℤ s} {b = m.l *ℤ (pos 0 -ℤ f)}
        (mul-nonneg_ℤ {a = pos 2} {b = s} (record { le = tt }) (weak s_above)) (mul-nonneg_ℤ
        {a = m.l} {b = pos 0 -ℤ f} m.l_allowed (difference_not_negative_from (pos 0) f h))))
        (mul-nonneg_ℤ {a = m.l *ℤ m.l} {b = len} (square-nonneg_ℤ m.l) len_least))))
      where
        sum : (r s d l f e : ℤ)
            → (r *ℤ (s *ℤ s) -ℤ (s *ℤ s *ℤ d -ℤ pos 2 *ℤ (s *ℤ l *ℤ f) +ℤ l *ℤ l *ℤ e)) +ℤ pos 2
            *ℤ s *ℤ (l *ℤ (pos 0 -ℤ f)) +ℤ l *ℤ l *ℤ e ≡ s *ℤ s *ℤ (r -ℤ d)
        sum r s d l f e = ring_in (r ∷ s ∷ d ∷ l ∷ f ∷ e ∷ [])
            (λ r s d l f e. (r ⊗ (s ⊗ s) ⊖ (s ⊗ s ⊗ d ⊖ num 2 ⊗ (s ⊗ l ⊗ f) ⊕ l ⊗ l ⊗ e)) ⊕ num 2
            ⊗ s ⊗ (l ⊗ (num 0 ⊖ f)) ⊕ l ⊗ l ⊗ e) (λ r s d l f e. s ⊗ s ⊗ (r ⊖ d)) tt

    -- the squared distance of the second end is d - 2 f + len
    by_second : len ≤ℤ f → distance_2 c q ≤ℤ r
    unfolding room s
    by_second h = at_most_by_difference r (distance_2 c q)
        (nonneg_of_mul-nonneg_ℤ {k = s *ℤ s} {x = r -ℤ distance_2 c q} square_above
        (subst (λ z. pos 0 ≤ℤ z) (sum r d m.k m.l f len (distance_2 c q) second_far)
        (sum_not_negative_of room_least
        (mul-nonneg_ℤ {a = m.k} {b = pos 2 *ℤ (s *ℤ (f -ℤ len)) +ℤ len *ℤ m.k} m.k_allowed
        (sum_not_negative_of (mul-nonneg_ℤ {a = pos 2} {b = s *ℤ (f -ℤ len)} (record { le = tt })
        (mul-nonneg_ℤ {a = s} {b = f -ℤ len} (weak s_above) (difference_not_negative_from f len
        h))) (mul-nonneg_ℤ {a = len} {b = m.k} len_least m.k_allowed))))))
      where
        sum : (r d k l f e g : ℤ) → g ≡ d -ℤ pos 2 *ℤ f +ℤ e → (r *ℤ ((k +ℤ l) *ℤ (k +ℤ l))
            -ℤ ((k +ℤ l) *ℤ (k +ℤ l) *ℤ d -ℤ pos 2 *ℤ ((k +ℤ l) *ℤ l *ℤ f) +ℤ l *ℤ l *ℤ e)) +ℤ k
            *ℤ (pos 2 *ℤ ((k +ℤ l) *ℤ (f -ℤ e)) +ℤ e *ℤ k) ≡ (k +ℤ l) *ℤ (k +ℤ l) *ℤ (r -ℤ g)
        sum r d k l f e g o = ring_in_from (r ∷ d ∷ k ∷ l ∷ f ∷ e ∷ g ∷ [])
            (λ r d k l f e g. (r ⊗ ((k ⊕ l) ⊗ (k ⊕ l)) ⊖ ((k ⊕ l) ⊗ (k ⊕ l) ⊗ d ⊖ num 2
            ⊗ ((k ⊕ l) ⊗ l ⊗ f) ⊕ l ⊗ l ⊗ e)) ⊕ k ⊗ (num 2 ⊗ ((k ⊕ l) ⊗ (f ⊖ e)) ⊕ e ⊗ k))
            (λ r d k l f e g. (k ⊕ l) ⊗ (k ⊕ l) ⊗ (r ⊖ g))
            (λ r d k l f e g. ((k ⊕ l) ⊗ (k ⊕ l), g, d ⊖ num 2 ⊗ f ⊕ e) ∷ []) (o, tt) tt

    -- ss (r len - (d len - f f)) = len room + the square of l len - s f
    by_line : pos 0 <ℤ len → (d *ℤ len -ℤ f *ℤ f) ≤ℤ (r *ℤ len)
    unfolding room
    by_line h = at_most_by_difference (r *ℤ len) (d *ℤ len -ℤ f *ℤ f)
        (nonneg_of_mul-nonneg_ℤ {k = s *ℤ s} {x = r *ℤ len -ℤ (d *ℤ len -ℤ f *ℤ f)} square_above
        (subst (λ z. pos 0 ≤ℤ z) (sum r s d m.l f len)
        (sum_not_negative_of (mul-nonneg_ℤ {a = len} {b = room} (weak h) room_least)
        (square-nonneg_ℤ (m.l *ℤ len -ℤ s *ℤ f)))))
      where
        sum : (r s d l f e : ℤ)
            → e *ℤ (r *ℤ (s *ℤ s) -ℤ (s *ℤ s *ℤ d -ℤ pos 2 *ℤ (s *ℤ l *ℤ f) +ℤ l *ℤ l *ℤ e))
            +ℤ (l *ℤ e -ℤ s *ℤ f) *ℤ (l *ℤ e -ℤ s *ℤ f) ≡ s *ℤ s *ℤ (r *ℤ e -ℤ (d *ℤ e -ℤ f *ℤ f))
        sum r s d l f e = ring_in (r ∷ s ∷ d ∷ l ∷ f ∷ e ∷ []) (λ r s d l f e. e
            ⊗ (r ⊗ (s ⊗ s) ⊖ (s ⊗ s ⊗ d ⊖ num 2 ⊗ (s ⊗ l ⊗ f) ⊕ l ⊗ l ⊗ e)) ⊕ (l ⊗ e ⊖ s ⊗ f)
            ⊗ (l ⊗ e ⊖ s ⊗ f)) (λ r s d l f e. s ⊗ s ⊗ (r ⊗ e ⊖ (d ⊗ e ⊖ f ⊗ f))) tt

    -- an end is in the circle, or the centre falls between the ends and is near enough to the line
    told : MeetsCircle c r p q
    unfolding len f d
    told = go (lt_or_ge_ℤ f (pos 0)) (lt_or_ge_ℤ len f) (zero_or_left len_least)
      where
        below : f <ℤ pos 0 → f ≤ℤ pos 0
        below h = omega (arith, ints)

        above : len <ℤ f → len ≤ℤ f
        above h = omega (arith, ints)

        flat : len ≡ pos 0 → f ≤ℤ len → f ≤ℤ pos 0
        flat e h = omega (arith, ints)

        go : (f <ℤ pos 0) ⊎ (pos 0 ≤ℤ f) → (len <ℤ f) ⊎ (f ≤ℤ len) → (len ≡ pos 0) ⊎ (pos 0 <ℤ len)
            → MeetsCircle c r p q
        go (inl h) i j = inl (by_first (below h))
        go (inr h) (inl i) j = inr (inl (by_second (above i)))
        go (inr h) (inr i) (inl e) = inl (by_first (flat e i))
        go (inr h) (inr i) (inr l) = inr (inr (l, h, i, by_line l))

  found : MeetsCircle c r p q → HasPointIn (InClosedCircle c r) p q
  unfolding len f d
  found (inl h) = (whole p, start_on_segment (whole p) (whole q), end_in c r p h)
  found (inr (inl h)) = (whole q, end_on_segment (whole p) (whole q), end_in c r q h)
  found (inr (inr h)) = (foot h.0, foot_on h.0 h.1 h.2, foot_in h.0 h.3)

-- a closed edge meets a closed circle exactly if an end does, or its line does and the centre falls
-- between
pub edge_meets_circle : (centre : Point) (radius_2 : ℤ) (p q : Point)
    → HasPointIn (InClosedCircle centre radius_2) p q ↔ MeetsCircle centre radius_2 p q
edge_meets_circle c r p q = (
  (λ h. told c r p q h.0 (two_weights IsNotNegative (whole p) (whole q) h.0 h.1) h.2),
  found c r p q,
)
