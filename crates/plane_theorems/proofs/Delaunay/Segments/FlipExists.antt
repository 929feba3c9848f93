-- Among the edges that cross a segment is one that can be flipped: of the last right end, the edge
-- to the last left end.
-- Notions: far, IsLastRight, IsLastLeft; swap_below, front, x_around_v, z_around_v, flip_exists.
use Prim.Native.Nat.{ℕ}
use lib.IntN.{ℤ, pos, ◌+ℤ◌, ◌-ℤ◌, ◌*ℤ◌, neg_ℤ}
use lib.Signed.{◌<ℤ◌, ◌≤ℤ◌}
use mathlib.Core.Path.{◌≡◌, sym, ◌∙◌, ap, subst}
use mathlib.Core.Logic.{◌⊎◌, inl, inr}
use mathlib.Core.List.{[], ◌∷◌}
use native.Mathlib.Omega.{arith}
use borrow.Author.Differences.{ints}
use Rattle.{plane.specs.Fraction, plane_theorems.proofs.Delaunay.Tilings.Faces.turned-above}
use Rattle.plane.proofs.{◌⊕◌, ◌⊖◌, ◌⊗◌, bracketᵖ, left_not_zero, lt_or_ge_ℤ, mul-neg_of_pos_neg_ℤ}
use Rattle.plane.proofs.{mul-neg_ℤ, mul-nonneg_ℤ, mul-pos_of_neg_ℤ, mul-pos_ℤ, neg-mul_ℤ}
use Rattle.plane.proofs.{no_difference, not_left_strict, not_right_strict, num, product_zero_left}
use Rattle.plane.proofs.{right_not_zero, ring_in_from, ring_over_from, square-nonneg_ℤ}
use Rattle.plane.proofs.{sum_not_negative_of, times_one, weak, weak_right, zero-mul_ℤ, zero_weak}
use Rattle.plane.proofs.{Signs.zero_of_square, zero_weak_left, ⊝}
use Rattle.plane_theorems.proofs.Delaunay.Floods.Flood.{swapped_above, swapped_below}
use Rattle.plane_theorems.proofs.Delaunay.Points.Bracket.{bracket, bracket-first, bracket-second}
use Rattle.plane_theorems.proofs.Delaunay.Points.Bracket.{bracket-swapped, bracket-turned, cramer}
use Rattle.plane_theorems.proofs.Delaunay.Points.Bracket.{fraction, meeting, meeting-w, meeting-x}
use Rattle.plane_theorems.proofs.Delaunay.Points.Bracket.{meeting-y}
use Rattle.plane_theorems.proofs.Delaunay.Segments.Joining.{Before, before_crossing, by_left}
use Rattle.plane_theorems.proofs.Delaunay.Segments.Joining.{by_right, Crosses, from_start}
use Rattle.plane_theorems.proofs.Delaunay.Tilings.Faces.{Between, between-swapped, Tiling}
use Rattle.plane_theorems.proofs.Delaunay.Tilings.Meets.{edge-swapped}

turned_first : (a b s : Fraction) → pos 0 <ℤ bracket a b s → pos 0 <ℤ bracket s a b
turned_first a b s h = turned-above b s a (turned-above a b s h)

-- the squared distance from s, of points with weight 1
abbrev pub far : Fraction → Fraction → ℤ
far s p = (p.x -ℤ s.x) *ℤ (p.x -ℤ s.x) +ℤ (p.y -ℤ s.y) *ℤ (p.y -ℤ s.y)

-- p v = q x + (p - q) s by coordinates, so the squared distances go by squares
squares : (p q vx vy xx xy sx sy : ℤ) → p *ℤ vx -ℤ q *ℤ xx ≡ (p -ℤ q) *ℤ sx → p *ℤ vy -ℤ q *ℤ xy
    ≡ (p -ℤ q) *ℤ sy → (p *ℤ p) *ℤ ((vx -ℤ sx) *ℤ (vx -ℤ sx) +ℤ (vy -ℤ sy) *ℤ (vy -ℤ sy))
    ≡ (q *ℤ q) *ℤ ((xx -ℤ sx) *ℤ (xx -ℤ sx) +ℤ (xy -ℤ sy) *ℤ (xy -ℤ sy))
squares p q vx vy xx xy sx sy e d = ring_in_from (p ∷ q ∷ vx ∷ vy ∷ xx ∷ xy ∷ sx ∷ sy ∷ [])
    (λ p q vx vy xx xy sx sy. (p ⊗ p) ⊗ ((vx ⊖ sx) ⊗ (vx ⊖ sx) ⊕ (vy ⊖ sy) ⊗ (vy ⊖ sy)))
    (λ p q vx vy xx xy sx sy. (q ⊗ q) ⊗ ((xx ⊖ sx) ⊗ (xx ⊖ sx) ⊕ (xy ⊖ sy) ⊗ (xy ⊖ sy)))
    (λ p q vx vy xx xy sx sy. (p ⊗ (vx ⊖ sx) ⊕ q ⊗ (xx ⊖ sx), p ⊗ vx ⊖ q ⊗ xx, (p ⊖ q) ⊗ sx)
    ∷ (p ⊗ (vy ⊖ sy) ⊕ q ⊗ (xy ⊖ sy), p ⊗ vy ⊖ q ⊗ xy, (p ⊖ q) ⊗ sy) ∷ []) (e, (d, tt)) tt

-- of two numbers on one side of 0 the farther has the larger square
square_below : (p q : ℤ) → p <ℤ q → q <ℤ pos 0 → (q *ℤ q) <ℤ (p *ℤ p)
square_below p q h k = let a = mul-pos_ℤ {a = neg_ℤ p -ℤ neg_ℤ q} {b = neg_ℤ p}
    (omega (arith, ints)) (omega (arith, ints)) in let b =
    mul-pos_ℤ {a = neg_ℤ p -ℤ neg_ℤ q} {b = neg_ℤ q} (omega (arith, ints)) (omega (arith, ints)) in
    let e : (neg_ℤ p -ℤ neg_ℤ q) *ℤ neg_ℤ p +ℤ (neg_ℤ p -ℤ neg_ℤ q) *ℤ neg_ℤ q ≡ p *ℤ p -ℤ q *ℤ q =
    Rattle.plane.proofs.Solver.ring_in (p ∷ q ∷ [])
    (λ p q. (⊝ p ⊖ ⊝ q) ⊗ ⊝ p ⊕ (⊝ p ⊖ ⊝ q) ⊗ ⊝ q) (λ p q. p ⊗ p ⊖ q ⊗ q) tt in
    omega (arith, ints)

square_above : (p q : ℤ) → q <ℤ p → pos 0 <ℤ q → (q *ℤ q) <ℤ (p *ℤ p)
square_above p q h k = let a =
    mul-pos_ℤ {a = p -ℤ q} {b = p} (omega (arith, ints)) (omega (arith, ints)) in
    let b = mul-pos_ℤ {a = p -ℤ q} {b = q} (omega (arith, ints)) k in
    let e : (p -ℤ q) *ℤ p +ℤ (p -ℤ q) *ℤ q ≡ p *ℤ p -ℤ q *ℤ q = Rattle.plane.proofs.Solver.ring_in
    (p ∷ q ∷ []) (λ p q. (p ⊖ q) ⊗ p ⊕ (p ⊖ q) ⊗ q) (λ p q. p ⊗ p ⊖ q ⊗ q) tt in
    omega (arith, ints)

not_nearer : (p² q² v x : ℤ) → p² *ℤ v ≡ q² *ℤ x → q² <ℤ p² → pos 0 ≤ℤ q² → pos 0 <ℤ v → x ≤ℤ v → ⊥
not_nearer p² q² v x e h k hv hx =
    let a = mul-pos_ℤ {a = p² -ℤ q²} {b = v} (omega (arith, ints)) hv in
    let b = mul-nonneg_ℤ {a = q²} {b = v -ℤ x} k (omega (arith, ints)) in
    let c : (p² -ℤ q²) *ℤ v +ℤ q² *ℤ (v -ℤ x) ≡ p² *ℤ v -ℤ q² *ℤ x =
    Rattle.plane.proofs.Solver.ring_in (p² ∷ q² ∷ v ∷ x ∷ [])
    (λ p q v x. (p ⊖ q) ⊗ v ⊕ q ⊗ (v ⊖ x)) (λ p q v x. p ⊗ v ⊖ q ⊗ x) tt in
    omega (arith, ints)

-- f(x) v - f(v) x = m s: m is the difference of the weights
on_ray : (f g v x m s n t : ℤ) → f *ℤ v -ℤ g *ℤ x ≡ m *ℤ s -ℤ n *ℤ t → n ≡ pos 0 → m ≡ f -ℤ g
    → f *ℤ v -ℤ g *ℤ x ≡ (f -ℤ g) *ℤ s
on_ray f g v x m s n t e z d =
    let p = product_zero_left t z in let q = ap (λ i. i *ℤ s) d in omega (arith, ints)

ray_weight : (f g v x m s n t : ℤ) → f *ℤ v -ℤ g *ℤ x ≡ m *ℤ s -ℤ n *ℤ t → n ≡ pos 0 → v ≡ pos 1
    → x ≡ pos 1 → s ≡ pos 1 → m ≡ f -ℤ g
ray_weight f g v x m s n t e z hv hx hs =
    let p = product_zero_left t z in let a = times_one f v hv in let b = times_one g x hx in
    let c = times_one m s hs in omega (arith, ints)

-- the sum of two terms, one above 0
sum_above : (d o a f b g c h : ℤ) → d *ℤ o ≡ a *ℤ f +ℤ b *ℤ g +ℤ c *ℤ h → f ≡ pos 0 → pos 0 <ℤ b
    → pos 0 <ℤ g → pos 0 <ℤ c → pos 0 ≤ℤ h → pos 0 <ℤ (d *ℤ o)
sum_above d o a f b g c h e z hb hg hc hh =
    let p = zero-mul_ℤ a z in let q = mul-pos_ℤ {a = b} {b = g} hb hg in
    let r = mul-nonneg_ℤ {a = c} {b = h} (weak hc) hh in omega (arith, ints)

sum_below : (d o a f b g c h : ℤ) → d *ℤ o ≡ a *ℤ f +ℤ b *ℤ g +ℤ c *ℤ h → g ≡ pos 0 → pos 0 <ℤ a
    → f <ℤ pos 0 → pos 0 <ℤ c → h ≤ℤ pos 0 → (d *ℤ o) <ℤ pos 0
sum_below d o a f b g c h e z ha hf hc hh =
    let p = zero-mul_ℤ b z in let q = mul-neg_of_pos_neg_ℤ {a = a} {b = f} ha hf in
    let r = mul-nonneg_ℤ {a = c} {b = neg_ℤ h} (weak hc) (omega (arith, ints)) in
    omega (arith, ints, mul-neg_ℤ c h)

above_of_positive_product : (d o : ℤ) → pos 0 <ℤ (d *ℤ o) → pos 0 <ℤ o → pos 0 <ℤ d
above_of_positive_product d o h k = go (lt_or_ge_ℤ (pos 0) d)
  where
    go : (pos 0 <ℤ d) ⊎ (d ≤ℤ pos 0) → pos 0 <ℤ d
    go (inl p) = p
    go (inr p) =
        absurd (let q = mul-nonneg_ℤ {a = neg_ℤ d} {b = o} (omega (arith, ints)) (weak k) in
        omega (arith, ints, neg-mul_ℤ d o))

above_of_negative_product : (d o : ℤ) → (d *ℤ o) <ℤ pos 0 → o <ℤ pos 0 → pos 0 <ℤ d
above_of_negative_product d o h k = go (lt_or_ge_ℤ (pos 0) d)
  where
    go : (pos 0 <ℤ d) ⊎ (d ≤ℤ pos 0) → pos 0 <ℤ d
    go (inl p) = p
    go (inr p) = absurd (let q = mul-nonneg_ℤ {a = neg_ℤ d} {b = neg_ℤ o} (omega (arith, ints))
        (omega (arith, ints)) in omega (arith, ints, neg-mul_ℤ d (neg_ℤ o), mul-neg_ℤ d o))

-- a difference below 0, from g x = m y with g, x, y of known signs
difference_below : (f o g x m s n t : ℤ) → f *ℤ o -ℤ g *ℤ x ≡ m *ℤ s -ℤ n *ℤ t → o ≡ pos 0
    → n ≡ pos 0 → g <ℤ pos 0 → x <ℤ pos 0 → pos 0 <ℤ s → m <ℤ pos 0
difference_below f o g x m s n t e z y hg hx hs = go (lt_or_ge_ℤ m (pos 0))
  where
    go : (m <ℤ pos 0) ⊎ (pos 0 ≤ℤ m) → m <ℤ pos 0
    go (inl h) = h
    go (inr h) = absurd (let a = zero-mul_ℤ f z in let b = product_zero_left t y in
        let c = mul-pos_of_neg_ℤ {a = g} {b = x} hg hx in
        let d = mul-nonneg_ℤ {a = m} {b = s} h (weak hs) in omega (arith, ints))

difference_above : (f o g x m s n t : ℤ) → f *ℤ o -ℤ g *ℤ x ≡ m *ℤ s -ℤ n *ℤ t → o ≡ pos 0
    → n ≡ pos 0 → pos 0 <ℤ g → x <ℤ pos 0 → pos 0 <ℤ s → pos 0 <ℤ m
difference_above f o g x m s n t e z y hg hx hs = go (lt_or_ge_ℤ (pos 0) m)
  where
    go : (pos 0 <ℤ m) ⊎ (m ≤ℤ pos 0) → pos 0 <ℤ m
    go (inl h) = h
    go (inr h) = absurd (let a = zero-mul_ℤ f z in let b = product_zero_left t y in
        let c = mul-neg_of_pos_neg_ℤ {a = g} {b = x} hg hx in let d = mul-nonneg_ℤ {a = neg_ℤ m}
        {b = s} (omega (arith, ints)) (weak hs) in omega (arith, ints, neg-mul_ℤ m s))

below_by : (m f g : ℤ) → m ≡ f -ℤ g → m <ℤ pos 0 → f <ℤ g
below_by m f g e h = omega (arith, ints)

above_by : (m f g : ℤ) → m ≡ f -ℤ g → pos 0 <ℤ m → g <ℤ f
above_by m f g e h = omega (arith, ints)

-- a point where s is, is on each line through s
same_place : (s t p : Fraction) → p.x ≡ s.x → p.y ≡ s.y → p.w ≡ s.w → bracket s t p ≡ pos 0
unfolding bracket
same_place s t p e d o = ring_over_from fraction [] (s ∷ t ∷ p ∷ []) bracketᵖ (λ s t p. num 0)
    (λ s t p. (s.y ⊗ t.w ⊖ s.w ⊗ t.y, p.x, s.x) ∷ (s.w ⊗ t.x ⊖ s.x ⊗ t.w, p.y, s.y)
    ∷ (s.x ⊗ t.y ⊖ s.y ⊗ t.x, p.w, s.w) ∷ []) (e, (d, (o, tt))) tt

far_above : (s t p : Fraction) → ¬ (bracket s t p ≡ pos 0) → p.w ≡ s.w → pos 0 <ℤ far s p
far_above s t p n o = not_right_strict (sum_not_negative_of (square-nonneg_ℤ (p.x -ℤ s.x))
    (square-nonneg_ℤ (p.y -ℤ s.y))) (λ e. n (same_place s t p (no_difference p.x s.x (zero_of_square
    (p.x -ℤ s.x) (first _ _ (square-nonneg_ℤ (p.x -ℤ s.x)) (square-nonneg_ℤ (p.y -ℤ s.y)) e)))
    (no_difference p.y s.y (zero_of_square (p.y -ℤ s.y)
    (second _ _ (square-nonneg_ℤ (p.x -ℤ s.x)) (square-nonneg_ℤ (p.y -ℤ s.y)) e))) o))
  where
    first : (a b : ℤ) → pos 0 ≤ℤ a → pos 0 ≤ℤ b → a +ℤ b ≡ pos 0 → a ≡ pos 0
    first a b h k e = omega (arith, ints)

    second : (a b : ℤ) → pos 0 ≤ℤ a → pos 0 ≤ℤ b → a +ℤ b ≡ pos 0 → b ≡ pos 0
    second a b h k e = omega (arith, ints)

-- brackets with the last two exchanged
mirror_below : (a b s : Fraction) → pos 0 <ℤ bracket a b s → bracket s b a <ℤ pos 0
mirror_below a b s h = let e = bracket-turned s b a in let d = bracket-swapped a b s in
    omega (arith, ints)

mirror_above : (s a b : Fraction) → bracket s a b <ℤ pos 0 → pos 0 <ℤ bracket s b a
mirror_above s a b h = let e = bracket-turned s b a in let d = bracket-swapped a b s in
    let f = bracket-turned s a b in omega (arith, ints)

-- left, so right with the last two exchanged
pub swap_below : (s a b : Fraction) → pos 0 <ℤ bracket s a b → bracket s b a <ℤ pos 0
swap_below s a b h = let e = bracket-turned s b a in let d = bracket-swapped a b s in
    let f = bracket-turned s a b in omega (arith, ints)

mirror_none : (s v x : Fraction) → bracket s v x ≡ pos 0 → bracket x v s ≡ pos 0
mirror_none s v x h = let e = bracket-turned s v x in let d = bracket-swapped v x s in
    omega (arith, ints)

module _ (T : Tiling) (s t : ℕ) (hs : T.IsVertex s) (ht : T.IsVertex t)
    (clear : (n : ℕ) → T.IsVertex n → ¬ Between (T.at s) (T.at t) (T.at n)) where
  open T use {at, IsVertex, IsFace}

  clear_back : (n : ℕ) → IsVertex n → ¬ Between (at t) (at s) (at n)
  clear_back n h b = clear n h (between-swapped (at t) (at s) (at n) b)

  abbrev Across : ℕ → ℕ → Type 0
  Across v y = Crosses T s t hs ht clear v y

  to_back : (v y : ℕ) → Across v y → Crosses T t s ht hs clear_back y v
  to_back v y c = record {
    edge = edge-swapped T v y c.edge;
    right = swapped_below (at s) (at t) (at y) c.left;
    left = swapped_above (at s) (at t) (at v) c.right;
    start = swapped_above (at v) (at y) (at t) c.end;
    end = swapped_below (at v) (at y) (at s) c.start;
  }

  to_front : (v y : ℕ) → Crosses T t s ht hs clear_back y v → Across v y
  to_front v y c = record {
    edge = edge-swapped T y v c.edge;
    right = swapped_below (at t) (at s) (at v) c.left;
    left = swapped_above (at t) (at s) (at y) c.right;
    start = swapped_above (at y) (at v) (at s) c.end;
    end = swapped_below (at y) (at v) (at t) c.start;
  }

  -- no right end comes after v; no left end at v comes after y
  pub record IsLastRight (v : ℕ) : Type 0 where
    pub around : (u w : ℕ) → Crosses T s t hs ht clear u w → pos 0 ≤ℤ bracket (at s) (at v) (at u)
    pub nearer : (u w : ℕ) → Crosses T s t hs ht clear u w → bracket (at s) (at v) (at u) ≡ pos 0
        → far (at s) (at u) ≤ℤ far (at s) (at v)

  -- no left end of an edge that crosses at v comes after y
  pub record IsLastLeft (v y : ℕ) : Type 0 where
    pub around : (l : ℕ) → Crosses T s t hs ht clear v l → bracket (at s) (at y) (at l) ≤ℤ pos 0
    pub nearer : (l : ℕ) → Crosses T s t hs ht clear v l → bracket (at s) (at y) (at l) ≡ pos 0
        → far (at s) (at l) ≤ℤ far (at s) (at y)

  -- p, x on one ray from s: where the farther of the two has the larger value, it is not the nearer
  ray_clash : (p x : ℕ) → bracket (at x) (at p) (at s) ≡ pos 0
      → (bracket (at s) (at t) (at p) *ℤ bracket (at s) (at t) (at p))
      <ℤ (bracket (at s) (at t) (at x) *ℤ bracket (at s) (at t) (at x)) → pos 0 <ℤ far (at s) (at p)
      → far (at s) (at x) ≤ℤ far (at s) (at p) → ⊥
  ray_clash p x z h k l =
      let w = ray_weight (bracket (at s) (at t) (at x)) (bracket (at s) (at t) (at p)) (at p).w
      (at x).w (bracket (at x) (at p) (at t)) (at s).w (bracket (at x) (at p) (at s)) (at t).w
      (meeting-w (at s) (at t) (at p) (at x)) z (T.whole p) (T.whole x) (T.whole s) in
      not_nearer (bracket (at s) (at t) (at x) *ℤ bracket (at s) (at t) (at x)) (bracket (at s)
      (at t) (at p) *ℤ bracket (at s) (at t) (at p)) (far (at s) (at p)) (far (at s) (at x))
      (squares (bracket (at s) (at t) (at x)) (bracket (at s) (at t) (at p)) (at p).x (at p).y
      (at x).x (at x).y (at s).x (at s).y
      (on_ray (bracket (at s) (at t) (at x)) (bracket (at s) (at t) (at p)) (at p).x (at x).x
      (bracket (at x) (at p) (at t)) (at s).x (bracket (at x) (at p) (at s)) (at t).x
      (meeting-x (at s) (at t) (at p) (at x)) z w)
      (on_ray (bracket (at s) (at t) (at x)) (bracket (at s) (at t) (at p)) (at p).y (at x).y
      (bracket (at x) (at p) (at t)) (at s).y (bracket (at x) (at p) (at s)) (at t).y
      (meeting-y (at s) (at t) (at p) (at x)) z w))
      h (square-nonneg_ℤ (bracket (at s) (at t) (at p))) k l

  module _ (v x y z : ℕ) (c : Crosses T s t hs ht clear v y) (f : IsFace y v x) (g : IsFace v y z)
      (last_v : IsLastRight v) (last_y : IsLastLeft v y) where
    -- the face y v x turns left
    yvx : pos 0 <ℤ bracket (at y) (at v) (at x)
    yvx = T.turns y v x f

    -- the face v y z turns left
    vyz : pos 0 <ℤ bracket (at v) (at y) (at z)
    vyz = T.turns v y z g

    -- v y x turns right
    vyx : bracket (at v) (at y) (at x) <ℤ pos 0
    vyx = swapped_below (at y) (at v) (at x) yvx

    weight : (p : ℕ) → bracket (at x) (at p) (at s) ≡ pos 0 → bracket (at x) (at p) (at t)
        ≡ bracket (at s) (at t) (at x) -ℤ bracket (at s) (at t) (at p)
    weight p n = ray_weight (bracket (at s) (at t) (at x)) (bracket (at s) (at t) (at p)) (at p).w
        (at x).w (bracket (at x) (at p) (at t)) (at s).w (bracket (at x) (at p) (at s)) (at t).w
        (meeting-w (at s) (at t) (at p) (at x)) n (T.whole p) (T.whole x) (T.whole s)

    -- what lies before the crossing edge, seen from t, at the face of y, v and x
    back : Before T t s ht hs (clear_back) y v x
    back = before_crossing T t s ht hs clear_back y v x (to_back v y c) f

    -- what lies before the crossing edge, at the face of v, y and z
    pub front : Before T s t hs ht clear v y z
    front = before_crossing T s t hs ht clear v y z c g

    -- x is on the left of the way from s to v
    pub x_around_v : pos 0 <ℤ bracket (at s) (at v) (at x)
    x_around_v = go back
      where
        go : Before T t s ht hs clear_back y v x → pos 0 <ℤ bracket (at s) (at v) (at x)
        go (by_left k) = turned_first (at v) (at x) (at s) (to_front v x k).start
        go (from_start e) = subst (λ i. pos 0 <ℤ bracket (at s) (at v) (at i)) (sym e)
            (mirror_above (at s) (at t) (at v) c.right)
        go (by_right k) = not_right_strict (last_v.around x y (to_front x y k))
            (λ n. let n' = mirror_none (at s) (at v) (at x) n in
            ray_clash v x n' (square_below _ _ (below_by _ _ _ (weight v n') (difference_below _ _ _
            _ _ _ _ (bracket (at v) (at y) (at t)) (meeting (at s) (at t) (at v) (at x) (at v)
            (at y)) (bracket-first (at v) (at y)) n' c.right vyx c.start)) c.right)
            (far_above (at s) (at t) (at v) (right_not_zero c.right) (T.whole v ∙ sym (T.whole s)))
            (last_v.nearer x y (to_front x y k) n))

    -- z is not on the right of the way from s to v
    pub z_around_v : pos 0 ≤ℤ bracket (at s) (at v) (at z)
    z_around_v = go front
      where
        go : Before T s t hs ht clear v y z → pos 0 ≤ℤ bracket (at s) (at v) (at z)
        go (by_right k) = weak (turned_first (at v) (at z) (at s) k.start)
        go (by_left k) = last_v.around z y k
        go (from_start e) =
            zero_weak_left (ap (λ i. bracket (at s) (at v) (at i)) e ∙ bracket-first (at s) (at v))

    x_around_y : bracket (at s) (at y) (at x) <ℤ pos 0
    x_around_y = go back
      where
        go : Before T t s ht hs clear_back y v x → bracket (at s) (at y) (at x) <ℤ pos 0
        go (by_right k) = mirror_below (at x) (at y) (at s) (to_front x y k).start
        go (from_start e) = subst (λ i. bracket (at s) (at y) (at i) <ℤ pos 0) (sym e)
            (swap_below (at s) (at t) (at y) c.left)
        go (by_left k) = not_left_strict (last_y.around x (to_front v x k))
            (λ n. let n' = mirror_none (at s) (at y) (at x) n in
            ray_clash y x n' (square_above _ _ (above_by _ _ _ (weight y n') (difference_above _ _ _
            _ _ _ _ (bracket (at v) (at y) (at t)) (meeting (at s) (at t) (at y) (at x) (at v)
            (at y)) (bracket-second (at v) (at y)) n' c.left vyx c.start)) c.left)
            (far_above (at s) (at t) (at y) (left_not_zero c.left) (T.whole y ∙ sym (T.whole s)))
            (last_y.nearer x (to_front v x k) n))

    z_around_y : bracket (at s) (at y) (at z) ≤ℤ pos 0
    z_around_y = go front
      where
        go : Before T s t hs ht clear v y z → bracket (at s) (at y) (at z) ≤ℤ pos 0
        go (by_right k) = last_y.around z k
        go (by_left k) = weak_right (mirror_below (at z) (at y) (at s) k.start)
        go (from_start e) =
            zero_weak (ap (λ i. bracket (at s) (at y) (at i)) e ∙ bracket-first (at s) (at y))

    -- the quadrilateral round the edge v y is strictly convex
    pub flip_exists : (pos 0 <ℤ bracket (at v) (at x) (at z))
        × (pos 0 <ℤ bracket (at x) (at y) (at z))
    flip_exists = (
      above_of_positive_product (bracket (at v) (at x) (at z)) (bracket (at s) (at v) (at y))
          (sum_above (bracket (at v) (at x) (at z)) (bracket (at s) (at v) (at y)) _ _ _ _ _ _
          (cramer (at v) (at x) (at z) (at y) (at s) (at v)) (bracket-second (at s) (at v))
          (turned_first (at v) (at y) (at z) vyz) x_around_v (turned-above (at y) (at v) (at x) yvx)
          z_around_v) (turned_first (at v) (at y) (at s) c.start),
      above_of_negative_product (bracket (at x) (at y) (at z)) (bracket (at s) (at y) (at v))
          (sum_below (bracket (at x) (at y) (at z)) (bracket (at s) (at y) (at v)) _ _ _ _ _ _
          (cramer (at x) (at y) (at z) (at v) (at s) (at y)) (bracket-second (at s) (at y))
          (turned-above (at v) (at y) (at z) vyz) x_around_y
          (turned-above (at v) (at x) (at y) (turned-above (at y) (at v) (at x) yvx)) z_around_y)
          (mirror_below (at v) (at y) (at s) c.start),
    )
