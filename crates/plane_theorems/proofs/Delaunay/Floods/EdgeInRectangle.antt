-- A closed edge has a point of a closed rectangle exactly if its ranges meet the rectangle's and
-- the corners are not all strictly on one side of its line.
-- Lemmas: edge_meets_rectangle.
use Rattle.std.proofs.Common.{◌≡◌, [], ◌∷◌, refl, arith, ap, sym, ◌∙◌, subst}
use mathlib.Core.Logic.{◌⊎◌, ◌↔◌, inl, inr}
use lib.IntN.{neg_ℤ, negsuc}
use Rattle.std.specs.Prelude.{ℤ, pos, ◌<ℤ◌, ◌≤ℤ◌, ◌+ℤ◌, ◌-ℤ◌, ◌*ℤ◌}
use Rattle.std.proofs.lemmas.Int.{ints}
use Rattle.plane.specs.{Fraction, InClosedRectangle, IsNotNegative, left, Point, right, side, whole}
use Rattle.plane.proofs.{◌⊕◌, ◌⊖◌, ◌⊗◌, at_most_itself, balanced, bracketᵖ}
use Rattle.plane.proofs.{difference_not_negative_from, end_on_segment, if_left, if_right, left_if}
use Rattle.plane.proofs.{left_not_zero, lt_or_ge_ℤ, mean_of_two, mul-nonneg_ℤ, mul-pos_ℤ, neg-mul_ℤ}
use Rattle.plane.proofs.{neg-pos_ℤ, num, right_if, right_not_above, ring_in, ring_in_from}
use Rattle.plane.proofs.{ring_over, start_on_segment, sum_not_negative_of, two_weights, TwoWeights}
use Rattle.plane.proofs.{weak, weak_right, zero_weak_left, ⊝}
use Rattle.plane.proofs.Signs.{difference_not_positive, negative_of_opposite}
use Rattle.plane_theorems.specs.{AreCornersOn, HasPointIn, MeetsRectangle}
use Rattle.plane_theorems.proofs.Delaunay.Circles.EmptyCircles.{weights_along}
use Rattle.plane_theorems.proofs.Delaunay.Points.Bracket.{bracket, bracket-first, bracket-mixed}
use Rattle.plane_theorems.proofs.Delaunay.Points.Bracket.{bracket-swapped, bracket-turned, fraction}
use Rattle.plane_theorems.proofs.Delaunay.Points.Bracket.{mixed}
use Rattle.plane_theorems.proofs.Delaunay.Points.Numbers.{mix_positive}
use Rattle.plane.proofs.Bracket as B

-- ---- how far a point is past a line across, or along
abbrev past_x : ℤ → ℤ → Fraction → ℤ
past_x e c z = e *ℤ (z.x -ℤ c *ℤ z.w)

abbrev past_y : ℤ → ℤ → Fraction → ℤ
past_y e c z = e *ℤ (z.y -ℤ c *ℤ z.w)

past_mixed : (e c k a m b v w : ℤ) → e *ℤ ((k *ℤ a +ℤ m *ℤ b) -ℤ c *ℤ (k *ℤ v +ℤ m *ℤ w))
    ≡ k *ℤ (e *ℤ (a -ℤ c *ℤ v)) +ℤ m *ℤ (e *ℤ (b -ℤ c *ℤ w))
past_mixed e c k a m b v w = ring_in (e ∷ c ∷ k ∷ a ∷ m ∷ b ∷ v ∷ w ∷ [])
    (λ e c k a m b v w. e ⊗ ((k ⊗ a ⊕ m ⊗ b) ⊖ c ⊗ (k ⊗ v ⊕ m ⊗ w)))
    (λ e c k a m b v w. k ⊗ (e ⊗ (a ⊖ c ⊗ v)) ⊕ m ⊗ (e ⊗ (b ⊖ c ⊗ w))) tt

-- the bracket, by how far the points are past two lines
both_lines : (e c f d : ℤ) (g k z : Fraction) → e *ℤ f *ℤ bracket g k z
    ≡ past_x e c g *ℤ (past_y f d k *ℤ z.w) -ℤ past_x e c g *ℤ (k.w *ℤ past_y f d z) -ℤ past_y f d g
    *ℤ (past_x e c k *ℤ z.w) +ℤ g.w *ℤ (past_x e c k *ℤ past_y f d z)
    +ℤ (past_y f d g *ℤ k.w -ℤ g.w *ℤ past_y f d k) *ℤ past_x e c z
unfolding bracket B.bracket
both_lines e c f d g k z = ring_over fraction (e ∷ c ∷ f ∷ d ∷ []) (g ∷ k ∷ z ∷ [])
    (λ e c f d g k z. e ⊗ f ⊗ bracketᵖ g k z)
    (λ e c f d g k z.
    let xg = e ⊗ (g.x ⊖ c ⊗ g.w) in let xk = e ⊗ (k.x ⊖ c ⊗ k.w) in let xz = e ⊗ (z.x ⊖ c ⊗ z.w) in
    let yg = f ⊗ (g.y ⊖ d ⊗ g.w) in let yk = f ⊗ (k.y ⊖ d ⊗ k.w) in let yz = f ⊗ (z.y ⊖ d ⊗ z.w) in
    xg ⊗ (yk ⊗ z.w) ⊖ xg ⊗ (k.w ⊗ yz) ⊖ yg ⊗ (xk ⊗ z.w) ⊕ g.w ⊗ (xk ⊗ yz)
    ⊕ (yg ⊗ k.w ⊖ g.w ⊗ yk) ⊗ xz)
    tt

-- z is on the first line and short of the second, g the other way round: what is past both is on
-- one side
below_all : (t xg yk zw kw yz yg xk gw xz : ℤ) → t ≡ xg *ℤ (yk *ℤ zw) -ℤ xg *ℤ (kw *ℤ yz) -ℤ yg
    *ℤ (xk *ℤ zw) +ℤ gw *ℤ (xk *ℤ yz) +ℤ (yg *ℤ kw -ℤ gw *ℤ yk) *ℤ xz → xz ≡ pos 0 → yz <ℤ pos 0
    → xg <ℤ pos 0 → pos 0 ≤ℤ yg → pos 0 ≤ℤ xk → pos 0 ≤ℤ yk → pos 0 <ℤ zw → pos 0 <ℤ kw
    → pos 0 <ℤ gw → t <ℤ pos 0
below_all t xg yk zw kw yz yg xk gw xz e hz hyz hxg hyg hxk hyk hzw hkw hgw =
    let a = mul-nonneg_ℤ {a = neg_ℤ xg} {b = yk *ℤ zw} (weak (neg-pos_ℤ hxg))
    (mul-nonneg_ℤ {a = yk} {b = zw} hyk (weak hzw)) in
    let b = mul-pos_ℤ {a = neg_ℤ xg} {b = kw *ℤ neg_ℤ yz} (neg-pos_ℤ hxg)
    (mul-pos_ℤ {a = kw} {b = neg_ℤ yz} hkw (neg-pos_ℤ hyz)) in
    let c =
    mul-nonneg_ℤ {a = yg} {b = xk *ℤ zw} hyg (mul-nonneg_ℤ {a = xk} {b = zw} hxk (weak hzw)) in
    let d = mul-nonneg_ℤ {a = gw} {b = xk *ℤ neg_ℤ yz} (weak hgw)
    (mul-nonneg_ℤ {a = xk} {b = neg_ℤ yz} hxk (weak (neg-pos_ℤ hyz))) in
    let o = Rattle.plane.proofs.IntegerOrder.zero-mul_ℤ (yg *ℤ kw -ℤ gw *ℤ yk) hz in
    let s = neg-mul_ℤ xg (yk *ℤ zw) in let r = signs xg kw yz in let q = last gw xk yz in
    omega (arith, ints)
  where
    signs : (x k y : ℤ) → neg_ℤ x *ℤ (k *ℤ neg_ℤ y) ≡ x *ℤ (k *ℤ y)
    signs x k y = ring_in (x ∷ k ∷ y ∷ []) (λ x k y. ⊝ x ⊗ (k ⊗ ⊝ y)) (λ x k y. x ⊗ (k ⊗ y)) tt

    last : (g x y : ℤ) → g *ℤ (x *ℤ neg_ℤ y) ≡ neg_ℤ (g *ℤ (x *ℤ y))
    last g x y = ring_in (g ∷ x ∷ y ∷ []) (λ g x y. g ⊗ (x ⊗ ⊝ y)) (λ g x y. ⊝ (g ⊗ (x ⊗ y))) tt

quadrant : (e c f d : ℤ) (g k z : Fraction) → past_x e c z ≡ pos 0 → past_y f d z <ℤ pos 0
    → past_x e c g <ℤ pos 0 → pos 0 ≤ℤ past_y f d g → pos 0 ≤ℤ past_x e c k → pos 0 ≤ℤ past_y f d k
    → (e *ℤ f *ℤ bracket g k z) <ℤ pos 0
quadrant e c f d g k z hz hyz hxg hyg hxk hyk = below_all _ (past_x e c g) (past_y f d k) z.w k.w
    (past_y f d z) (past_y f d g) (past_x e c k) g.w (past_x e c z)
    (both_lines e c f d g k z) hz hyz hxg hyg hxk hyk z.positive k.positive g.positive

-- ---- a point between two, where a number that is below 0 at the one is 0
cross : (f : Fraction → ℤ) (g o : Fraction) → f g <ℤ pos 0 → pos 0 ≤ℤ f o → Fraction
cross f g o h i = mixed (neg_ℤ (f g)) o (f o) g
    (mix_positive (neg_ℤ (f g)) (f o) o.w g.w (neg-pos_ℤ h) i o.positive g.positive)

-- points of the segment, kept under means
module _ (p q : Fraction) where
  -- z is a point of the segment, by its weights
  abbrev On : Fraction → Type 0
  On z = TwoWeights IsNotNegative p q z

  on_sum : (m m' k k' l l' a b x y u v : ℤ) → m *ℤ a ≡ k *ℤ x +ℤ l *ℤ y
      → m' *ℤ b ≡ k' *ℤ x +ℤ l' *ℤ y → m *ℤ m' *ℤ (u *ℤ a +ℤ v *ℤ b)
      ≡ (u *ℤ (m' *ℤ k) +ℤ v *ℤ (m *ℤ k')) *ℤ x +ℤ (u *ℤ (m' *ℤ l) +ℤ v *ℤ (m *ℤ l')) *ℤ y
  on_sum m m' k k' l l' a b x y u v e d =
      ring_in_from (m ∷ m' ∷ k ∷ k' ∷ l ∷ l' ∷ a ∷ b ∷ x ∷ y ∷ u ∷ v ∷ [])
      (λ m m' k k' l l' a b x y u v. m ⊗ m' ⊗ (u ⊗ a ⊕ v ⊗ b)) (λ m m' k k' l l' a b x y u v. (u
      ⊗ (m' ⊗ k) ⊕ v ⊗ (m ⊗ k')) ⊗ x ⊕ (u ⊗ (m' ⊗ l) ⊕ v ⊗ (m ⊗ l')) ⊗ y)
      (λ m m' k k' l l' a b x y u v. (u ⊗ m', m ⊗ a, k ⊗ x ⊕ l ⊗ y)
      ∷ (v ⊗ m, m' ⊗ b, k' ⊗ x ⊕ l' ⊗ y) ∷ []) (e, (d, tt)) tt

  on_mixed : (u : ℤ) (a : Fraction) (v : ℤ) (b : Fraction) (h : pos 0 <ℤ (u *ℤ a.w +ℤ v *ℤ b.w))
      → pos 0 ≤ℤ u → pos 0 ≤ℤ v → On a → On b → On (mixed u a v b h)
  on_mixed u a v b h hu hv s t = record {
    k = u *ℤ (t.n *ℤ s.k) +ℤ v *ℤ (s.n *ℤ t.k);
    l = u *ℤ (t.n *ℤ s.l) +ℤ v *ℤ (s.n *ℤ t.l);
    n = s.n *ℤ t.n;
    k_allowed = sum_not_negative_of (mul-nonneg_ℤ {a = u} {b = t.n *ℤ s.k} hu
        (mul-nonneg_ℤ {a = t.n} {b = s.k} (weak t.positive) s.k_allowed)) (mul-nonneg_ℤ {a = v}
        {b = s.n *ℤ t.k} hv (mul-nonneg_ℤ {a = s.n} {b = t.k} (weak s.positive) t.k_allowed));
    l_allowed = sum_not_negative_of (mul-nonneg_ℤ {a = u} {b = t.n *ℤ s.l} hu
        (mul-nonneg_ℤ {a = t.n} {b = s.l} (weak t.positive) s.l_allowed)) (mul-nonneg_ℤ {a = v}
        {b = s.n *ℤ t.l} hv (mul-nonneg_ℤ {a = s.n} {b = t.l} (weak s.positive) t.l_allowed));
    positive = mul-pos_ℤ s.positive t.positive;
    x = on_sum s.n t.n s.k t.k s.l t.l a.x b.x p.x q.x u v s.x t.x;
    y = on_sum s.n t.n s.k t.k s.l t.l a.y b.y p.y q.y u v s.y t.y;
    w = on_sum s.n t.n s.k t.k s.l t.l a.w b.w p.w q.w u v s.w t.w;
  }

  on_cross : (f : Fraction → ℤ) (g o : Fraction) (h : f g <ℤ pos 0) (i : pos 0 ≤ℤ f o) → On g → On o
      → On (cross f g o h i)
  unfolding cross
  on_cross f g o h i s t = on_mixed (neg_ℤ (f g)) o (f o) g _ (weak (neg-pos_ℤ h)) i t s

-- ---- between two lines
record AreFacing (f f' : Fraction → ℤ) : Type 0 where
  linear : (k : ℤ) (a : Fraction) (m : ℤ) (b : Fraction) (h : pos 0 <ℤ (k *ℤ a.w +ℤ m *ℤ b.w))
      → f (mixed k a m b h) ≡ k *ℤ f a +ℤ m *ℤ f b
  linear' : (k : ℤ) (a : Fraction) (m : ℤ) (b : Fraction) (h : pos 0 <ℤ (k *ℤ a.w +ℤ m *ℤ b.w))
      → f' (mixed k a m b h) ≡ k *ℤ f' a +ℤ m *ℤ f' b
  wide : (z : Fraction) → pos 0 ≤ℤ (f z +ℤ f' z)

second_least : (a b : ℤ) → pos 0 ≤ℤ (a +ℤ b) → a ≡ pos 0 → pos 0 ≤ℤ b
second_least a b h e = omega (arith, ints)

first_least : (a b : ℤ) → pos 0 ≤ℤ (a +ℤ b) → b ≡ pos 0 → pos 0 ≤ℤ a
first_least a b h e = omega (arith, ints)

-- where a point is drawn to o until it is between the lines
data Drawn (f f' : Fraction → ℤ) (g o : Fraction) : Type 0 where
  stays : pos 0 ≤ℤ f g → pos 0 ≤ℤ f' g → Drawn f f' g o
  to_first : (h : f g <ℤ pos 0) (i : pos 0 ≤ℤ f o) → Drawn f f' g o
  to_second : (h : f' g <ℤ pos 0) (i : pos 0 ≤ℤ f' o) → Drawn f f' g o

-- where g or o is within each of two lines: g is between them, or is drawn to o until it is
draw : (f f' : Fraction → ℤ) (g o : Fraction) → (pos 0 ≤ℤ f g) ⊎ (pos 0 ≤ℤ f o)
    → (pos 0 ≤ℤ f' g) ⊎ (pos 0 ≤ℤ f' o) → Drawn f f' g o
draw f f' g o h h' = go (lt_or_ge_ℤ (f g) (pos 0)) (lt_or_ge_ℤ (f' g) (pos 0))
  where
    other : {a b : ℤ} → a <ℤ pos 0 → (pos 0 ≤ℤ a) ⊎ (pos 0 ≤ℤ b) → pos 0 ≤ℤ b
    other r (inl s) = absurd (right_not_above r s)
    other r (inr s) = s

    go : (f g <ℤ pos 0) ⊎ (pos 0 ≤ℤ f g) → (f' g <ℤ pos 0) ⊎ (pos 0 ≤ℤ f' g) → Drawn f f' g o
    go (inl r) s = to_first r (other r h)
    go (inr r) (inl s) = to_second s (other s h')
    go (inr r) (inr s) = stays r s

drawn : {f f' : Fraction → ℤ} {g o : Fraction} → Drawn f f' g o → Fraction
drawn {f} {f'} {g} {o} (stays h h') = g
drawn {f} {f'} {g} {o} (to_first h i) = cross f g o h i
drawn {f} {f'} {g} {o} (to_second h i) = cross f' g o h i

cross_none : (f : Fraction → ℤ) (linear : (k : ℤ) (a : Fraction) (m : ℤ) (b : Fraction)
    (h : pos 0 <ℤ (k *ℤ a.w +ℤ m *ℤ b.w)) → f (mixed k a m b h) ≡ k *ℤ f a +ℤ m *ℤ f b)
    (g o : Fraction) (h : f g <ℤ pos 0) (i : pos 0 ≤ℤ f o) → f (cross f g o h i) ≡ pos 0
unfolding cross
cross_none f linear g o h i = linear (neg_ℤ (f g)) o (f o) g _ ∙ balanced (f o) (f g)

drawn_first : (f f' : Fraction → ℤ) (s : AreFacing f f') (g o : Fraction) (d : Drawn f f' g o)
    → pos 0 ≤ℤ f (drawn d)
unfolding drawn
drawn_first f f' s g o (stays h h') = h
drawn_first f f' s g o (to_first h i) = zero_weak_left (cross_none f s.linear g o h i)
drawn_first f f' s g o (to_second h i) =
    first_least _ _ (s.wide (cross f' g o h i)) (cross_none f' s.linear' g o h i)

drawn_second : (f f' : Fraction → ℤ) (s : AreFacing f f') (g o : Fraction) (d : Drawn f f' g o)
    → pos 0 ≤ℤ f' (drawn d)
unfolding drawn
drawn_second f f' s g o (stays h h') = h'
drawn_second f f' s g o (to_first h i) =
    second_least _ _ (s.wide (cross f g o h i)) (cross_none f s.linear g o h i)
drawn_second f f' s g o (to_second h i) = zero_weak_left (cross_none f' s.linear' g o h i)

drawn_on : (p q : Fraction) (f f' : Fraction → ℤ) (g o : Fraction) (d : Drawn f f' g o)
    → TwoWeights IsNotNegative p q g → TwoWeights IsNotNegative p q o
    → TwoWeights IsNotNegative p q (drawn d)
unfolding drawn
drawn_on p q f f' g o (stays h h') a b = a
drawn_on p q f f' g o (to_first h i) a b = on_cross p q f g o h i a b
drawn_on p q f f' g o (to_second h i) a b = on_cross p q f' g o h i a b

drawn_keeps : (f f' h : Fraction → ℤ)
    (linear : (k : ℤ) (a : Fraction) (m : ℤ) (b : Fraction) (r : pos 0 <ℤ (k *ℤ a.w +ℤ m *ℤ b.w))
    → h (mixed k a m b r) ≡ k *ℤ h a +ℤ m *ℤ h b) (g o : Fraction) (d : Drawn f f' g o)
    → pos 0 ≤ℤ h g → pos 0 ≤ℤ h o → pos 0 ≤ℤ h (drawn d)
unfolding drawn cross
drawn_keeps f f' h linear g o (stays r s) hg ho = hg
drawn_keeps f f' h linear g o (to_first r i) hg ho =
    subst (λ z. pos 0 ≤ℤ z) (sym (linear (neg_ℤ (f g)) o (f o) g _))
    (sum_not_negative_of (mul-nonneg_ℤ {a = neg_ℤ (f g)} {b = h o} (weak (neg-pos_ℤ r)) ho)
    (mul-nonneg_ℤ {a = f o} {b = h g} i hg))
drawn_keeps f f' h linear g o (to_second r i) hg ho =
    subst (λ z. pos 0 ≤ℤ z) (sym (linear (neg_ℤ (f' g)) o (f' o) g _))
    (sum_not_negative_of (mul-nonneg_ℤ {a = neg_ℤ (f' g)} {b = h o} (weak (neg-pos_ℤ r)) ho)
    (mul-nonneg_ℤ {a = f' o} {b = h g} i hg))

-- ---- one side of a line
abbrev IsUnit : ℤ → Type 0
IsUnit s = (s ≡ pos 1) ⊎ (s ≡ negsuc 0)

below_without : (s b z : ℤ) → (s *ℤ (b *ℤ z)) <ℤ pos 0 → pos 0 <ℤ b → (s *ℤ z) <ℤ pos 0
below_without s b z h i = Rattle.plane.proofs.IntegerOrder.neg_of_mul-neg_ℤ {k = b} {x = s *ℤ z} i
    (subst (λ t. t <ℤ pos 0) (turned s b z) h)
  where
    turned : (s b z : ℤ) → s *ℤ (b *ℤ z) ≡ b *ℤ (s *ℤ z)
    turned s b z = ring_in (s ∷ b ∷ z ∷ []) (λ s b z. s ⊗ (b ⊗ z)) (λ s b z. b ⊗ (s ⊗ z)) tt

-- a point of the rectangle, seen from two points drawn over two of its sides
seen_from : (g o k : Fraction) (f : Fraction → ℤ) (h : f g <ℤ pos 0) (i : pos 0 ≤ℤ f o)
    → bracket g k (cross f g o h i) ≡ neg_ℤ (f g) *ℤ bracket g k o
unfolding cross
seen_from g o k f h i = bracket-mixed g k (neg_ℤ (f g)) o (f o) g _
    ∙ no_more _ _ _ (bracket-first g k)
  where
    no_more : (x y z : ℤ) → z ≡ pos 0 → x +ℤ y *ℤ z ≡ x
    no_more x y z e = let p = Rattle.plane.proofs.IntegerOrder.zero-mul_ℤ y e in omega (arith, ints)

unit_product : (e f : ℤ) → IsUnit e → IsUnit f → IsUnit (e *ℤ f)
unit_product e f (inl a) (inl b) = inl (λ i. a i *ℤ b i)
unit_product e f (inl a) (inr b) = inr (λ i. a i *ℤ b i)
unit_product e f (inr a) (inl b) = inr (λ i. a i *ℤ b i)
unit_product e f (inr a) (inr b) = inl (λ i. a i *ℤ b i)

-- ---- a form that is above 0 at the corners is above 0 in the rectangle
corner_above : (a b c x y w cx cy : ℤ) → pos 0 <ℤ w → pos 0 ≤ℤ (a *ℤ (x -ℤ cx *ℤ w))
    → pos 0 ≤ℤ (b *ℤ (y -ℤ cy *ℤ w)) → pos 0 <ℤ (a *ℤ cx +ℤ b *ℤ cy +ℤ c)
    → pos 0 <ℤ (a *ℤ x +ℤ b *ℤ y +ℤ c *ℤ w)
corner_above a b c x y w cx cy hw hx hy h =
    let p = mul-pos_ℤ {a = w} {b = a *ℤ cx +ℤ b *ℤ cy +ℤ c} hw h in
    let e = spread a b c x y w cx cy in omega (arith, ints)
  where
    spread : (a b c x y w cx cy : ℤ) → a *ℤ x +ℤ b *ℤ y +ℤ c *ℤ w
        ≡ a *ℤ (x -ℤ cx *ℤ w) +ℤ b *ℤ (y -ℤ cy *ℤ w) +ℤ w *ℤ (a *ℤ cx +ℤ b *ℤ cy +ℤ c)
    spread a b c x y w cx cy =
        ring_in (a ∷ b ∷ c ∷ x ∷ y ∷ w ∷ cx ∷ cy ∷ []) (λ a b c x y w cx cy. a ⊗ x ⊕ b ⊗ y ⊕ c ⊗ w)
        (λ a b c x y w cx cy. a ⊗ (x ⊖ cx ⊗ w) ⊕ b ⊗ (y ⊖ cy ⊗ w) ⊕ w ⊗ (a ⊗ cx ⊕ b ⊗ cy ⊕ c)) tt

-- the end of a range at which a times the coordinate is least
least_end : (a x w low high : ℤ) → (low *ℤ w) ≤ℤ x → x ≤ℤ (high *ℤ w)
    → (pos 0 ≤ℤ (a *ℤ (x -ℤ low *ℤ w))) ⊎ (pos 0 ≤ℤ (a *ℤ (x -ℤ high *ℤ w)))
least_end a x w low high h i = go (lt_or_ge_ℤ a (pos 0))
  where
    go : (a <ℤ pos 0) ⊎ (pos 0 ≤ℤ a)
        → (pos 0 ≤ℤ (a *ℤ (x -ℤ low *ℤ w))) ⊎ (pos 0 ≤ℤ (a *ℤ (x -ℤ high *ℤ w)))
    go (inr s) = inl
        (mul-nonneg_ℤ {a = a} {b = x -ℤ low *ℤ w} s (difference_not_negative_from x (low *ℤ w) h))
    go (inl s) = inr (Rattle.plane.proofs.IntegerOrder.mul-nonneg_of_nonpos_ℤ {a = a}
        {b = x -ℤ high *ℤ w} (weak_right s) (difference_not_positive x (high *ℤ w) i))

strictly : (n z k a l b w : ℤ) → n *ℤ z ≡ k *ℤ a +ℤ l *ℤ b → n *ℤ w ≡ k *ℤ pos 1 +ℤ l *ℤ pos 1
    → pos 0 <ℤ n → pos 0 <ℤ w → pos 0 ≤ℤ k → pos 0 ≤ℤ l → a <ℤ pos 0 → b <ℤ pos 0 → z <ℤ pos 0
strictly n z k a l b w e d hn hw hk hl ha hb =
    Rattle.plane.proofs.IntegerOrder.neg_of_mul-neg_ℤ {k = n} {x = z} hn
    (let p = mul-pos_ℤ {a = n} {b = w} hn hw in
    let q = mul-nonneg_ℤ {a = k} {b = pos 0 -ℤ (a +ℤ pos 1)} hk (omega (arith, ints)) in
    let r = mul-nonneg_ℤ {a = l} {b = pos 0 -ℤ (b +ℤ pos 1)} hl (omega (arith, ints)) in
    let s = spread k a in let t = spread l b in omega (arith, ints))
  where
    spread : (k a : ℤ) → k *ℤ (pos 0 -ℤ (a +ℤ pos 1)) ≡ pos 0 -ℤ k *ℤ a -ℤ k
    spread k a =
        ring_in (k ∷ a ∷ []) (λ k a. k ⊗ (num 0 ⊖ (a ⊕ num 1))) (λ k a. num 0 ⊖ k ⊗ a ⊖ k) tt

past_along : (e c n k l r a b w : ℤ) → n *ℤ r ≡ k *ℤ a +ℤ l *ℤ b → n *ℤ w ≡ k *ℤ pos 1 +ℤ l *ℤ pos 1
    → n *ℤ (e *ℤ (r -ℤ c *ℤ w)) ≡ k *ℤ (e *ℤ (a -ℤ c *ℤ pos 1)) +ℤ l *ℤ (e *ℤ (b -ℤ c *ℤ pos 1))
past_along e c n k l r a b w h i = ring_in_from (e ∷ c ∷ n ∷ k ∷ l ∷ r ∷ a ∷ b ∷ w ∷ [])
    (λ e c n k l r a b w. n ⊗ (e ⊗ (r ⊖ c ⊗ w)))
    (λ e c n k l r a b w. k ⊗ (e ⊗ (a ⊖ c ⊗ num 1)) ⊕ l ⊗ (e ⊗ (b ⊖ c ⊗ num 1)))
    (λ e c n k l r a b w. (e, n ⊗ r, k ⊗ a ⊕ l ⊗ b) ∷ (⊝ (e ⊗ c), n ⊗ w, k ⊗ num 1 ⊕ l ⊗ num 1)
    ∷ []) (h, (i, tt)) tt

-- ---- the four sides' numbers
at_low : (x c w : ℤ) → pos 0 ≤ℤ (pos 1 *ℤ (x -ℤ c *ℤ w)) → (c *ℤ w) ≤ℤ x
at_low x c w h = omega (arith, ints)

at_high : (x c w : ℤ) → pos 0 ≤ℤ (negsuc 0 *ℤ (x -ℤ c *ℤ w)) → x ≤ℤ (c *ℤ w)
at_high x c w h = omega (arith, ints)

low_at : (x c : ℤ) → c ≤ℤ x → pos 0 ≤ℤ (pos 1 *ℤ (x -ℤ c *ℤ pos 1))
low_at x c h = omega (arith, ints)

high_at : (x c : ℤ) → x ≤ℤ c → pos 0 ≤ℤ (negsuc 0 *ℤ (x -ℤ c *ℤ pos 1))
high_at x c h = omega (arith, ints)

either_low : (c a b : ℤ) → (c ≤ℤ a) ⊎ (c ≤ℤ b)
    → (pos 0 ≤ℤ (pos 1 *ℤ (a -ℤ c *ℤ pos 1))) ⊎ (pos 0 ≤ℤ (pos 1 *ℤ (b -ℤ c *ℤ pos 1)))
either_low c a b (inl h) = inl (low_at a c h)
either_low c a b (inr h) = inr (low_at b c h)

either_high : (c a b : ℤ) → (a ≤ℤ c) ⊎ (b ≤ℤ c)
    → (pos 0 ≤ℤ (negsuc 0 *ℤ (a -ℤ c *ℤ pos 1))) ⊎ (pos 0 ≤ℤ (negsuc 0 *ℤ (b -ℤ c *ℤ pos 1)))
either_high c a b (inl h) = inl (high_at a c h)
either_high c a b (inr h) = inr (high_at b c h)

other_way : {a b : ℤ} → (pos 0 ≤ℤ a) ⊎ (pos 0 ≤ℤ b) → (pos 0 ≤ℤ b) ⊎ (pos 0 ≤ℤ a)
other_way (inl h) = inr h
other_way (inr h) = inl h

wide_range : (x w low high : ℤ) → low ≤ℤ high → pos 0 <ℤ w
    → pos 0 ≤ℤ (pos 1 *ℤ (x -ℤ low *ℤ w) +ℤ negsuc 0 *ℤ (x -ℤ high *ℤ w))
wide_range x w low high h i = let p =
    mul-nonneg_ℤ {a = high -ℤ low} {b = w} (difference_not_negative_from high low h) (weak i) in
    let e = spread high low w in omega (arith, ints)
  where
    spread : (a b w : ℤ) → (a -ℤ b) *ℤ w ≡ a *ℤ w -ℤ b *ℤ w
    spread a b w = ring_in (a ∷ b ∷ w ∷ []) (λ a b w. (a ⊖ b) ⊗ w) (λ a b w. a ⊗ w ⊖ b ⊗ w) tt

opposite_x : (low high : ℤ) → low ≤ℤ high
    → AreFacing (past_x (pos 1) low) (past_x (negsuc 0) high)
opposite_x low high h = record {
  linear = λ k a m b r. past_mixed (pos 1) low k a.x m b.x a.w b.w;
  linear' = λ k a m b r. past_mixed (negsuc 0) high k a.x m b.x a.w b.w;
  wide = λ z. wide_range z.x z.w low high h z.positive;
}

opposite_y : (low high : ℤ) → low ≤ℤ high
    → AreFacing (past_y (pos 1) low) (past_y (negsuc 0) high)
opposite_y low high h = record {
  linear = λ k a m b r. past_mixed (pos 1) low k a.y m b.y a.w b.w;
  linear' = λ k a m b r. past_mixed (negsuc 0) high k a.y m b.y a.w b.w;
  wide = λ z. wide_range z.y z.w low high h z.positive;
}

module _ (lower upper : Point) (wide : lower.x ≤ℤ upper.x) (high : lower.y ≤ℤ upper.y) where
  -- how far a point is right of the left side
  x₁ : Fraction → ℤ
  x₁ = past_x (pos 1) lower.x

  -- how far it is left of the right side
  x₂ : Fraction → ℤ
  x₂ = past_x (negsuc 0) upper.x

  -- how far it is above the lower side
  y₁ : Fraction → ℤ
  y₁ = past_y (pos 1) lower.y

  -- how far it is below the upper side
  y₂ : Fraction → ℤ
  y₂ = past_y (negsuc 0) upper.y

  -- a whole point of the rectangle
  record InBox (k : Point) : Type 0 where
    left : lower.x ≤ℤ k.x
    right : k.x ≤ℤ upper.x
    below : lower.y ≤ℤ k.y
    above : k.y ≤ℤ upper.y

  -- all of the rectangle is on one side of the line, as o sees it from g
  record OneSide (g o : Fraction) : Type 0 where
    sign : ℤ
    unit : IsUnit sign
    all : (k : Point) → InBox k → (sign *ℤ bracket g (whole k) o) <ℤ pos 0

  -- where g is drawn over a side, and is then short of another which g is past
  hides : (f d : ℤ) → IsUnit f → ((k : Point) → InBox k → pos 0 ≤ℤ past_y f d (whole k))
      → (g o : Fraction) (r : Drawn x₁ x₂ g o) → past_y f d (drawn r) <ℤ pos 0
      → pos 0 ≤ℤ past_y f d g → OneSide g o
  unfolding x₁ x₂ drawn
  hides f d unit inside g o (stays h h') below past = absurd (right_not_above below past)
  hides f d unit inside g o (to_first h i) below past = record {
    sign = pos 1 *ℤ f;
    unit = unit_product (pos 1) f (inl refl) unit;
    all = λ k s. below_without (pos 1 *ℤ f) (neg_ℤ (x₁ g)) _
        (subst (λ z. (pos 1 *ℤ f *ℤ z) <ℤ pos 0) (seen_from g o (whole k) x₁ h i)
        (quadrant (pos 1) lower.x f d g (whole k) (cross x₁ g o h i)
        (cross_none x₁ (opposite_x lower.x upper.x wide).linear g o h i) below h past
        (low_at k.x lower.x s.left) (inside k s))) (neg-pos_ℤ h);
  }
  hides f d unit inside g o (to_second h i) below past = record {
    sign = negsuc 0 *ℤ f;
    unit = unit_product (negsuc 0) f (inr refl) unit;
    all = λ k s. below_without (negsuc 0 *ℤ f) (neg_ℤ (x₂ g)) _
        (subst (λ z. (negsuc 0 *ℤ f *ℤ z) <ℤ pos 0) (seen_from g o (whole k) x₂ h i)
        (quadrant (negsuc 0) upper.x f d g (whole k) (cross x₂ g o h i)
        (cross_none x₂ (opposite_x lower.x upper.x wide).linear' g o h i) below h past
        (high_at k.x upper.x s.right) (inside k s))) (neg-pos_ℤ h);
  }

  corners : (P : Point → Type 0) → ((k : Point) → InBox k → P k)
      → P (record { x = lower.x; y = lower.y }) × P (record { x = upper.x; y = lower.y })
      × P (record { x = upper.x; y = upper.y }) × P (record { x = lower.x; y = upper.y })
  corners P h = (
    h (record { x = lower.x; y = lower.y }) (record {
      left = at_most_itself lower.x;
      right = wide;
      below = at_most_itself lower.y;
      above = high;
    }),
    h (record { x = upper.x; y = lower.y }) (record {
      left = wide;
      right = at_most_itself upper.x;
      below = at_most_itself lower.y;
      above = high;
    }),
    h (record { x = upper.x; y = upper.y }) (record {
      left = wide;
      right = at_most_itself upper.x;
      below = high;
      above = at_most_itself upper.y;
    }),
    h (record { x = lower.x; y = upper.y }) (record {
      left = at_most_itself lower.x;
      right = wide;
      below = high;
      above = at_most_itself upper.y;
    }),
  )

  module _ (p q : Point) where
    -- the start, as a fraction point
    P : Fraction
    P = whole p

    -- the end, as a fraction point
    Q : Fraction
    Q = whole q

    -- ---- from sides and ranges to a point
    not_one_side : (¬ AreCornersOn left lower upper p q) → (¬ AreCornersOn right lower upper p q)
        → (OneSide P Q ⊎ OneSide Q P) → ⊥
    unfolding P Q bracket
    not_one_side not_left not_right s = go s
      where
        seen_left : ((k : Point) → InBox k → pos 0 <ℤ bracket (whole p) (whole q) (whole k)) → ⊥
        seen_left h = not_left (corners (λ k. side (whole p) (whole q) (whole k) ≡ left)
            (λ k s. left_if (whole p) (whole q) (whole k) (h k s)))

        seen_right : ((k : Point) → InBox k → bracket (whole p) (whole q) (whole k) <ℤ pos 0) → ⊥
        seen_right h = not_right (corners (λ k. side (whole p) (whole q) (whole k) ≡ right)
            (λ k s. right_if (whole p) (whole q) (whole k) (h k s)))

        plus : (s z : ℤ) → s ≡ pos 1 → (s *ℤ z) <ℤ pos 0 → z <ℤ pos 0
        plus s z e h = below_one z (subst (λ t. (t *ℤ z) <ℤ pos 0) e h)
          where
            below_one : (z : ℤ) → (pos 1 *ℤ z) <ℤ pos 0 → z <ℤ pos 0
            below_one z h = omega (arith, ints)

        minus : (s z : ℤ) → s ≡ negsuc 0 → (s *ℤ z) <ℤ pos 0 → pos 0 <ℤ z
        minus s z e h = above_one z (subst (λ t. (t *ℤ z) <ℤ pos 0) e h)
          where
            above_one : (z : ℤ) → (negsuc 0 *ℤ z) <ℤ pos 0 → pos 0 <ℤ z
            above_one z h = omega (arith, ints)

        -- p k q, and q k p, as p q k
        last_two : (k : Fraction)
            → bracket (whole p) k (whole q) ≡ neg_ℤ (bracket (whole p) (whole q) k)
        last_two k = let a = bracket-turned (whole p) k (whole q) in
            let b = bracket-swapped (whole q) k (whole p) in
            let c = bracket-turned (whole p) (whole q) k in
            let d = bracket-turned (whole q) k (whole p) in omega (arith, ints)

        turned : (k : Fraction) → bracket (whole q) k (whole p) ≡ bracket (whole p) (whole q) k
        turned k = bracket-turned (whole p) (whole q) k

        left_of : (z t : ℤ) → t ≡ neg_ℤ z → t <ℤ pos 0 → pos 0 <ℤ z
        left_of z t e h = omega (arith, ints)

        go : (OneSide (whole p) (whole q)) ⊎ (OneSide (whole q) (whole p)) → ⊥
        go (inl o) = unit o.unit
          where
            unit : (o.sign ≡ pos 1) ⊎ (o.sign ≡ negsuc 0) → ⊥
            unit (inl e) =
                seen_left (λ k s. left_of _ _ (last_two (whole k)) (plus o.sign _ e (o.all k s)))
            unit (inr e) = seen_right (λ k s. negative_of_opposite _ _ (last_two (whole k))
                (minus o.sign _ e (o.all k s)))
        go (inr o) = unit o.unit
          where
            unit : (o.sign ≡ pos 1) ⊎ (o.sign ≡ negsuc 0) → ⊥
            unit (inl e) = seen_right
                (λ k s. subst (λ t. t <ℤ pos 0) (turned (whole k)) (plus o.sign _ e (o.all k s)))
            unit (inr e) = seen_left
                (λ k s. subst (λ t. pos 0 <ℤ t) (turned (whole k)) (minus o.sign _ e (o.all k s)))

    module _ (h : MeetsRectangle lower upper p q) where
      over_x : Drawn x₁ x₂ P Q
      unfolding x₁ x₂ P Q
      over_x = draw x₁ x₂ (whole p) (whole q) (either_low lower.x p.x q.x h.0.0)
          (either_high upper.x p.x q.x h.0.1)

      back_x : Drawn x₁ x₂ Q P
      unfolding x₁ x₂ P Q
      back_x = draw x₁ x₂ (whole q) (whole p) (other_way (either_low lower.x p.x q.x h.0.0))
          (other_way (either_high upper.x p.x q.x h.0.1))

      -- between the two drawn ends some point is past each line along
      reaches : (f d : ℤ) → IsUnit f → ((k : Point) → InBox k → pos 0 ≤ℤ past_y f d (whole k))
          → (pos 0 ≤ℤ past_y f d P) ⊎ (pos 0 ≤ℤ past_y f d Q)
          → (pos 0 ≤ℤ past_y f d (drawn over_x)) ⊎ (pos 0 ≤ℤ past_y f d (drawn back_x))
      reaches f d unit inside e = go (lt_or_ge_ℤ (past_y f d (drawn over_x)) (pos 0))
          (lt_or_ge_ℤ (past_y f d (drawn back_x)) (pos 0)) e
        where
          go : (past_y f d (drawn over_x) <ℤ pos 0) ⊎ (pos 0 ≤ℤ past_y f d (drawn over_x))
              → (past_y f d (drawn back_x) <ℤ pos 0) ⊎ (pos 0 ≤ℤ past_y f d (drawn back_x))
              → (pos 0 ≤ℤ past_y f d P) ⊎ (pos 0 ≤ℤ past_y f d Q)
              → (pos 0 ≤ℤ past_y f d (drawn over_x)) ⊎ (pos 0 ≤ℤ past_y f d (drawn back_x))
          go (inr a) b e = inl a
          go (inl a) (inr b) e = inr b
          go (inl a) (inl b) (inl e) =
              absurd (not_one_side h.2 h.3 (inl (hides f d unit inside P Q over_x a e)))
          go (inl a) (inl b) (inr e) =
              absurd (not_one_side h.2 h.3 (inr (hides f d unit inside Q P back_x b e)))

      over_y : Drawn y₁ y₂ (drawn over_x) (drawn back_x)
      unfolding y₁ y₂ P Q
      over_y = draw y₁ y₂ (drawn over_x) (drawn back_x)
          (reaches (pos 1) lower.y (inl refl) (λ k s. low_at k.y lower.y s.below)
          (either_low lower.y p.y q.y h.1.0))
          (reaches (negsuc 0) upper.y (inr refl) (λ k s. high_at k.y upper.y s.above)
          (either_high upper.y p.y q.y h.1.1))

      -- the start is on the segment
      on_p : TwoWeights IsNotNegative P Q P
      on_p = two_weights IsNotNegative P Q P (start_on_segment P Q)

      -- and so is the end
      on_q : TwoWeights IsNotNegative P Q Q
      on_q = two_weights IsNotNegative P Q Q (end_on_segment P Q)

      rectangle_met : HasPointIn (InClosedRectangle lower upper) p q
      unfolding x₁ x₂ y₁ y₂ P Q
      rectangle_met = (
        z,
        mean_of_two IsNotNegative (whole p) (whole q) z on,
        record {
          left = at_low z.x lower.x z.w in_x₁;
          right = at_high z.x upper.x z.w in_x₂;
          below = at_low z.y lower.y z.w in_y₁;
          above = at_high z.y upper.y z.w in_y₂;
        },
      )
        where
          z : Fraction
          z = drawn over_y

          sx : AreFacing x₁ x₂
          sx = opposite_x lower.x upper.x wide

          sy : AreFacing y₁ y₂
          sy = opposite_y lower.y upper.y high

          on : TwoWeights IsNotNegative (whole p) (whole q) z
          on = drawn_on P Q y₁ y₂ (drawn over_x) (drawn back_x) over_y
              (drawn_on P Q x₁ x₂ P Q over_x on_p on_q) (drawn_on P Q x₁ x₂ Q P back_x on_q on_p)

          in_x₁ : pos 0 ≤ℤ x₁ z
          in_x₁ = drawn_keeps y₁ y₂ x₁ sx.linear (drawn over_x) (drawn back_x) over_y
              (drawn_first x₁ x₂ sx P Q over_x) (drawn_first x₁ x₂ sx Q P back_x)

          in_x₂ : pos 0 ≤ℤ x₂ z
          in_x₂ = drawn_keeps y₁ y₂ x₂ sx.linear' (drawn over_x) (drawn back_x) over_y
              (drawn_second x₁ x₂ sx P Q over_x) (drawn_second x₁ x₂ sx Q P back_x)

          in_y₁ : pos 0 ≤ℤ y₁ z
          in_y₁ = drawn_first y₁ y₂ sy (drawn over_x) (drawn back_x) over_y

          in_y₂ : pos 0 ≤ℤ y₂ z
          in_y₂ = drawn_second y₁ y₂ sy (drawn over_x) (drawn back_x) over_y

    -- ---- from a point to ranges and sides
    module _ (z : Fraction) (m : TwoWeights IsNotNegative (whole p) (whole q) z)
        (r : InClosedRectangle lower upper z) where
      none_below : (e c u v w : ℤ) → m.n *ℤ w ≡ m.k *ℤ u +ℤ m.l *ℤ v
          → pos 0 ≤ℤ (e *ℤ (w -ℤ c *ℤ z.w)) → (e *ℤ (u -ℤ c *ℤ pos 1)) <ℤ pos 0
          → (e *ℤ (v -ℤ c *ℤ pos 1)) <ℤ pos 0 → ⊥
      none_below e c u v w s h a b =
          right_not_above (strictly m.n (e *ℤ (w -ℤ c *ℤ z.w)) m.k _ m.l _ z.w (past_along e c m.n
          m.k m.l w u v z.w s m.w) m.w m.positive z.positive m.k_allowed m.l_allowed a b) h

      low_meets : (c u v w : ℤ) → m.n *ℤ w ≡ m.k *ℤ u +ℤ m.l *ℤ v → (c *ℤ z.w) ≤ℤ w
          → (c ≤ℤ u) ⊎ (c ≤ℤ v)
      low_meets c u v w s h = go (lt_or_ge_ℤ u c) (lt_or_ge_ℤ v c)
        where
          short : (u c : ℤ) → u <ℤ c → (pos 1 *ℤ (u -ℤ c *ℤ pos 1)) <ℤ pos 0
          short u c h = omega (arith, ints)

          past : (w c v : ℤ) → (c *ℤ v) ≤ℤ w → pos 0 ≤ℤ (pos 1 *ℤ (w -ℤ c *ℤ v))
          past w c v h = omega (arith, ints)

          go : (u <ℤ c) ⊎ (c ≤ℤ u) → (v <ℤ c) ⊎ (c ≤ℤ v) → (c ≤ℤ u) ⊎ (c ≤ℤ v)
          go (inr a) b = inl a
          go (inl a) (inr b) = inr b
          go (inl a) (inl b) =
              absurd (none_below (pos 1) c u v w s (past w c z.w h) (short u c a) (short v c b))

      high_meets : (c u v w : ℤ) → m.n *ℤ w ≡ m.k *ℤ u +ℤ m.l *ℤ v → w ≤ℤ (c *ℤ z.w)
          → (u ≤ℤ c) ⊎ (v ≤ℤ c)
      high_meets c u v w s h = go (lt_or_ge_ℤ c u) (lt_or_ge_ℤ c v)
        where
          short : (u c : ℤ) → c <ℤ u → (negsuc 0 *ℤ (u -ℤ c *ℤ pos 1)) <ℤ pos 0
          short u c h = omega (arith, ints)

          past : (w c v : ℤ) → w ≤ℤ (c *ℤ v) → pos 0 ≤ℤ (negsuc 0 *ℤ (w -ℤ c *ℤ v))
          past w c v h = omega (arith, ints)

          go : (c <ℤ u) ⊎ (u ≤ℤ c) → (c <ℤ v) ⊎ (v ≤ℤ c) → (u ≤ℤ c) ⊎ (v ≤ℤ c)
          go (inr a) b = inl a
          go (inl a) (inr b) = inr b
          go (inl a) (inl b) =
              absurd (none_below (negsuc 0) c u v w s (past w c z.w h) (short u c a) (short v c b))

      on_line : bracket (whole p) (whole q) z ≡ pos 0
      on_line = Rattle.plane_theorems.proofs.Delaunay.Points.Numbers.sum_none m.n m.k m.l _ _ _ m.positive
          (weights_along IsNotNegative (whole p) (whole q) z m (whole p) (whole q))
          (bracket-first (whole p) (whole q))
          (Rattle.plane_theorems.proofs.Delaunay.Points.Bracket.bracket-second (whole p) (whole q))

      -- the bracket as a form of the third point
      a : ℤ
      a = p.y -ℤ q.y

      -- the factor of y
      b : ℤ
      b = q.x -ℤ p.x

      -- the factor of w
      c : ℤ
      c = p.x *ℤ q.y -ℤ p.y *ℤ q.x

      as_form : (t : Fraction) → bracket (whole p) (whole q) t ≡ a *ℤ t.x +ℤ b *ℤ t.y +ℤ c *ℤ t.w
      unfolding bracket B.bracket a b c
      as_form t = ring_in (p.x ∷ p.y ∷ q.x ∷ q.y ∷ t.x ∷ t.y ∷ t.w ∷ [])
          (λ px py qx qy x y w. bracketᵖ (record { x = px; y = py; w = num 1 })
          (record { x = qx; y = qy; w = num 1 }) (record { x = x; y = y; w = w }))
          (λ px py qx qy x y w. (py ⊖ qy) ⊗ x ⊕ (qx ⊖ px) ⊗ y ⊕ (px ⊗ qy ⊖ py ⊗ qx) ⊗ w) tt

      form_at : (k l m x y : ℤ) → k *ℤ x +ℤ l *ℤ y +ℤ m *ℤ pos 1 ≡ k *ℤ x +ℤ l *ℤ y +ℤ m
      form_at k l m x y = omega (arith, ints)

      -- a form that is above 0 at each corner is above 0 at z
      above_at : (k l m : ℤ) → pos 0 <ℤ (k *ℤ lower.x +ℤ l *ℤ lower.y +ℤ m) → pos 0
          <ℤ (k *ℤ upper.x +ℤ l *ℤ lower.y +ℤ m) → pos 0 <ℤ (k *ℤ upper.x +ℤ l *ℤ upper.y +ℤ m)
          → pos 0 <ℤ (k *ℤ lower.x +ℤ l *ℤ upper.y +ℤ m)
          → pos 0 <ℤ (k *ℤ z.x +ℤ l *ℤ z.y +ℤ m *ℤ z.w)
      above_at k l m h₁ h₂ h₃ h₄ = go (least_end k z.x z.w lower.x upper.x r.left r.right)
          (least_end l z.y z.w lower.y upper.y r.below r.above)
        where
          go : (pos 0 ≤ℤ (k *ℤ (z.x -ℤ lower.x *ℤ z.w))) ⊎ (pos 0 ≤ℤ (k *ℤ (z.x -ℤ upper.x *ℤ z.w)))
              → (pos 0 ≤ℤ (l *ℤ (z.y -ℤ lower.y *ℤ z.w)))
              ⊎ (pos 0 ≤ℤ (l *ℤ (z.y -ℤ upper.y *ℤ z.w)))
              → pos 0 <ℤ (k *ℤ z.x +ℤ l *ℤ z.y +ℤ m *ℤ z.w)
          go (inl s) (inl t) = corner_above k l m z.x z.y z.w lower.x lower.y z.positive s t h₁
          go (inr s) (inl t) = corner_above k l m z.x z.y z.w upper.x lower.y z.positive s t h₂
          go (inr s) (inr t) = corner_above k l m z.x z.y z.w upper.x upper.y z.positive s t h₃
          go (inl s) (inr t) = corner_above k l m z.x z.y z.w lower.x upper.y z.positive s t h₄

      not_left : ¬ AreCornersOn left lower upper p q
      unfolding bracket
      not_left s =
          left_not_zero (above_at a b c (corner lower.x lower.y s.0) (corner upper.x lower.y s.1)
          (corner upper.x upper.y s.2) (corner lower.x upper.y s.3)) (sym (as_form z) ∙ on_line)
        where
          corner : (x y : ℤ) → side (whole p) (whole q) (whole (record { x = x; y = y })) ≡ left
              → pos 0 <ℤ (a *ℤ x +ℤ b *ℤ y +ℤ c)
          corner x y e = subst (λ t. pos 0 <ℤ t) (as_form (whole (record { x = x; y = y }))
              ∙ form_at a b c x y) (if_left (whole p) (whole q) (whole (record { x = x; y = y })) e)

      negated_form : (k l m x y w : ℤ)
          → neg_ℤ k *ℤ x +ℤ neg_ℤ l *ℤ y +ℤ neg_ℤ m *ℤ w ≡ neg_ℤ (k *ℤ x +ℤ l *ℤ y +ℤ m *ℤ w)
      negated_form k l m x y w = ring_in (k ∷ l ∷ m ∷ x ∷ y ∷ w ∷ [])
          (λ k l m x y w. ⊝ k ⊗ x ⊕ ⊝ l ⊗ y ⊕ ⊝ m ⊗ w) (λ k l m x y w. ⊝ (k ⊗ x ⊕ l ⊗ y ⊕ m ⊗ w)) tt

      not_right : ¬ AreCornersOn right lower upper p q
      unfolding bracket
      not_right s =
          left_not_zero (above_at (neg_ℤ a) (neg_ℤ b) (neg_ℤ c) (corner lower.x lower.y s.0)
          (corner upper.x lower.y s.1) (corner upper.x upper.y s.2) (corner lower.x upper.y s.3))
          (negated_form a b c z.x z.y z.w ∙ none (sym (as_form z) ∙ on_line))
        where
          none : {t : ℤ} → t ≡ pos 0 → neg_ℤ t ≡ pos 0
          none e = ap neg_ℤ e

          turned : (t u v : ℤ) → t ≡ u +ℤ v *ℤ pos 1 → t <ℤ pos 0 → (w : ℤ)
              → w +ℤ neg_ℤ v *ℤ pos 1 ≡ neg_ℤ (u +ℤ v *ℤ pos 1) → pos 0 <ℤ (w +ℤ neg_ℤ v)
          turned t u v e h w d = omega (arith, ints)

          corner : (x y : ℤ) → side (whole p) (whole q) (whole (record { x = x; y = y })) ≡ right
              → pos 0 <ℤ (neg_ℤ a *ℤ x +ℤ neg_ℤ b *ℤ y +ℤ neg_ℤ c)
          corner x y e = turned _ (a *ℤ x +ℤ b *ℤ y) c (as_form (whole (record { x = x; y = y })))
              (if_right (whole p) (whole q) (whole (record { x = x; y = y })) e)
              (neg_ℤ a *ℤ x +ℤ neg_ℤ b *ℤ y) (negated_form a b c x y (pos 1))

      -- the ranges meet, and the corners are not all strictly on one side
      told : MeetsRectangle lower upper p q
      told = (
        (low_meets lower.x p.x q.x z.x m.x r.left, high_meets upper.x p.x q.x z.x m.x r.right),
        (low_meets lower.y p.y q.y z.y m.y r.below, high_meets upper.y p.y q.y z.y m.y r.above),
        not_left,
        not_right,
      )

-- a closed edge meets a rectangle exactly if the ranges meet and not all corners are strictly on
-- one side
pub edge_meets_rectangle : (lower upper : Point) → lower.x ≤ℤ upper.x → lower.y ≤ℤ upper.y
    → (p q : Point) → HasPointIn (InClosedRectangle lower upper) p q
    ↔ MeetsRectangle lower upper p q
edge_meets_rectangle lower upper wide high p q = (
  (λ h. told lower upper wide high p q h.0 (two_weights IsNotNegative (whole p)
      (whole q) h.0 h.1) h.2),
  rectangle_met lower upper wide high p q,
)
