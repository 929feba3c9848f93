-- The hull of a list of points has each of them, and with two points the points between them. A
-- linear form that is 0 at each point, or nowhere below 0, is so in the hull.
-- Notions: AreSomewhere, IsForm; corner_in_hull, nudge_in_hull, triangle_in_hull, part_in_hull,
-- bracket_form, sum_form, form-nudge, none_in_hull, least_in_hull.
use Rattle.std.proofs.Common.{◌≡◌, ◌<◌, [], ◌∷◌, ◌∙◌}
use Rattle.std.proofs.Common.{ℕ, zero, suc, List, length, get_or, refl, arith, ap, sym, subst}
use Rattle.std.specs.Prelude.{ℤ, pos, ◌≤ℤ◌, ◌*ℤ◌, ◌+ℤ◌, ◌-ℤ◌, All}
use Rattle.std.proofs.lemmas.List.Elements.{All-cons, All-nil, All-head, All-tail}
use Rattle.std.proofs.lemmas.Int.{ints}
use Rattle.plane.specs.{Fraction, InHull, IsNotNegative, weighted_sum}
use Rattle.plane.proofs.{◌⊕◌, ◌⊖◌, ◌⊗◌, bracketᵖ, index_not_negative, mul-nonneg_ℤ, mul-pos_ℤ}
use Rattle.plane.proofs.{nonneg_of_mul-nonneg_ℤ, num, pos-ne-zero_ℤ, ring_in, ring_in_from}
use Rattle.plane.proofs.{ring_over, sum_not_negative_of, weak, zero-mul_ℤ, zero_of_mul-zero_ℤ, ⊝}
use Rattle.{plane.proofs.Means.ThreeWeights, plane_theorems.proofs.Delaunay.Points.Nudges.nudge}
use Rattle.plane_theorems.proofs.Delaunay.Points.Bracket.{bracket, fraction}

abbrev zeros : List Fraction → List ℤ
zeros [] = []
zeros (c ∷ cs) = pos 0 ∷ zeros cs

abbrev spike : List Fraction → ℕ → List ℤ
spike [] i = []
spike (c ∷ cs) zero = pos 1 ∷ zeros cs
spike (c ∷ cs) (suc i) = pos 0 ∷ spike cs i

length-zeros : (cs : List Fraction) → length (zeros cs) ≡ length cs
length-zeros [] = refl
length-zeros (c ∷ cs) = ap suc (length-zeros cs)

length-spike : (cs : List Fraction) (i : ℕ) → length (spike cs i) ≡ length cs
length-spike [] i = refl
length-spike (c ∷ cs) zero = ap suc (length-zeros cs)
length-spike (c ∷ cs) (suc i) = ap suc (length-spike cs i)

none_more : (a s : ℤ) → s ≡ pos 0 → pos 0 *ℤ a +ℤ s ≡ pos 0
none_more a s e = omega (arith, ints)

zeros_sum : (f : Fraction → ℤ) (cs : List Fraction) → weighted_sum f (zeros cs) cs ≡ pos 0
zeros_sum f [] = refl
zeros_sum f (c ∷ cs) = none_more (f c) (weighted_sum f (zeros cs) cs) (zeros_sum f cs)

spike_sum : (f : Fraction → ℤ) (cs : List Fraction) (i : ℕ) (d : Fraction) → i < length cs
    → weighted_sum f (spike cs i) cs ≡ f (get_or cs i d)
spike_sum f [] i d h = absurd (omega arith)
spike_sum f (c ∷ cs) zero d h = one_more (f c) (weighted_sum f (zeros cs) cs) (zeros_sum f cs)
  where
    one_more : (a s : ℤ) → s ≡ pos 0 → pos 1 *ℤ a +ℤ s ≡ a
    one_more a s e = omega (arith, ints)
spike_sum f (c ∷ cs) (suc i) d h = next (f c) (weighted_sum f (spike cs i) cs) (f (get_or cs i d))
    (spike_sum f cs i d (omega arith))
  where
    next : (a s t : ℤ) → s ≡ t → pos 0 *ℤ a +ℤ s ≡ t
    next a s t e = omega (arith, ints)

zeros_allowed : (cs : List Fraction) → All IsNotNegative (zeros cs)
zeros_allowed [] = All-nil IsNotNegative
zeros_allowed (c ∷ cs) =
    All-cons IsNotNegative (pos 0) (zeros cs) (record { le = tt }) (zeros_allowed cs)

spike_allowed : (cs : List Fraction) (i : ℕ) → All IsNotNegative (spike cs i)
spike_allowed [] i = All-nil IsNotNegative
spike_allowed (c ∷ cs) zero =
    All-cons IsNotNegative (pos 1) (zeros cs) (record { le = tt }) (zeros_allowed cs)
spike_allowed (c ∷ cs) (suc i) =
    All-cons IsNotNegative (pos 0) (spike cs i) (record { le = tt }) (spike_allowed cs i)

-- a number taken once is itself
once : (x s : ℤ) → s ≡ x → pos 1 *ℤ x ≡ s
once x s e = omega (arith, ints)

-- each point of a list is in its hull
pub corner_in_hull : (cs : List Fraction) (i : ℕ) (d p : Fraction) → i < length cs
    → get_or cs i d ≡ p → InHull cs p
corner_in_hull cs i d p h e = record {
  weights = spike cs i;
  one_each = length-spike cs i;
  allowed = spike_allowed cs i;
  scale = pos 1;
  positive = record { lt = tt };
  x = once p.x _ (spike_sum (λ c. c.x) cs i d h ∙ ap (λ (c : Fraction). c.x) e);
  y = once p.y _ (spike_sum (λ c. c.y) cs i d h ∙ ap (λ (c : Fraction). c.y) e);
  w = once p.w _ (spike_sum (λ c. c.w) cs i d h ∙ ap (λ (c : Fraction). c.w) e);
}

-- ---- of two lists of weights
abbrev blend : ℤ → ℤ → List ℤ → List ℤ → List ℤ
blend m n [] ls = []
blend m n (a ∷ ks) [] = []
blend m n (a ∷ ks) (b ∷ ls) = (m *ℤ a +ℤ n *ℤ b) ∷ blend m n ks ls

length-blend : (m n : ℤ) (ks ls : List ℤ) (k : ℕ) → length ks ≡ k → length ls ≡ k
    → length (blend m n ks ls) ≡ k
length-blend m n [] ls k e d = e
length-blend m n (a ∷ ks) [] k e d = absurd (omega arith)
length-blend m n (a ∷ ks) (b ∷ ls) zero e d = absurd (omega arith)
length-blend m n (a ∷ ks) (b ∷ ls) (suc k) e d =
    ap suc (length-blend m n ks ls k (omega arith) (omega arith))

blend_step : (m n a b f s t : ℤ)
    → (m *ℤ a +ℤ n *ℤ b) *ℤ f +ℤ (m *ℤ s +ℤ n *ℤ t) ≡ m *ℤ (a *ℤ f +ℤ s) +ℤ n *ℤ (b *ℤ f +ℤ t)
blend_step m n a b f s t =
    ring_in (m ∷ n ∷ a ∷ b ∷ f ∷ s ∷ t ∷ []) (λ m n a b f s t. (m ⊗ a ⊕ n ⊗ b) ⊗ f
    ⊕ (m ⊗ s ⊕ n ⊗ t)) (λ m n a b f s t. m ⊗ (a ⊗ f ⊕ s) ⊕ n ⊗ (b ⊗ f ⊕ t)) tt

nothing : (m n : ℤ) → pos 0 ≡ m *ℤ pos 0 +ℤ n *ℤ pos 0
nothing m n = omega (arith, ints)

blend_sum : (f : Fraction → ℤ) (m n : ℤ) (ks ls : List ℤ) (cs : List Fraction)
    → length ks ≡ length cs → length ls ≡ length cs
    → weighted_sum f (blend m n ks ls) cs ≡ m *ℤ weighted_sum f ks cs +ℤ n *ℤ weighted_sum f ls cs
blend_sum f m n [] [] cs e d = nothing m n
blend_sum f m n [] (b ∷ ls) [] e d = absurd (omega arith)
blend_sum f m n [] (b ∷ ls) (c ∷ cs) e d = absurd (omega arith)
blend_sum f m n (a ∷ ks) [] [] e d = absurd (omega arith)
blend_sum f m n (a ∷ ks) [] (c ∷ cs) e d = absurd (omega arith)
blend_sum f m n (a ∷ ks) (b ∷ ls) [] e d = absurd (omega arith)
blend_sum f m n (a ∷ ks) (b ∷ ls) (c ∷ cs) e d =
    ap (λ t. (m *ℤ a +ℤ n *ℤ b) *ℤ f c +ℤ t) (blend_sum f m n ks ls cs (omega arith) (omega arith))
    ∙ blend_step m n a b (f c) (weighted_sum f ks cs) (weighted_sum f ls cs)

blend_allowed : (m n : ℤ) (ks ls : List ℤ) → pos 0 ≤ℤ m → pos 0 ≤ℤ n → All IsNotNegative ks
    → All IsNotNegative ls → All IsNotNegative (blend m n ks ls)
blend_allowed m n [] ls hm hn h k = All-nil IsNotNegative
blend_allowed m n (a ∷ ks) [] hm hn h k = All-nil IsNotNegative
blend_allowed m n (a ∷ ks) (b ∷ ls) hm hn h k =
    All-cons IsNotNegative (m *ℤ a +ℤ n *ℤ b) (blend m n ks ls)
    (sum_not_negative_of (mul-nonneg_ℤ {a = m} {b = a} hm (All-head IsNotNegative a ks h))
    (mul-nonneg_ℤ {a = n} {b = b} hn (All-head IsNotNegative b ls k)))
    (blend_allowed m n ks ls hm hn (All-tail IsNotNegative a ks h) (All-tail IsNotNegative b ls k))

scaled_sum : (s r n p q a b : ℤ) → s *ℤ p ≡ a → r *ℤ q ≡ b
    → s *ℤ r *ℤ (n *ℤ p +ℤ pos 1 *ℤ q) ≡ n *ℤ r *ℤ a +ℤ s *ℤ b
scaled_sum s r n p q a b e d = ring_in_from (s ∷ r ∷ n ∷ p ∷ q ∷ a ∷ b ∷ [])
    (λ s r n p q a b. s ⊗ r ⊗ (n ⊗ p ⊕ num 1 ⊗ q)) (λ s r n p q a b. n ⊗ r ⊗ a ⊕ s ⊗ b)
    (λ s r n p q a b. (n ⊗ r, s ⊗ p, a) ∷ (s, r ⊗ q, b) ∷ []) (e, (d, tt)) tt

-- a point of a hull, moved towards another of its points, stays in it
pub nudge_in_hull : (cs : List Fraction) (n : ℕ) (p q : Fraction) → InHull cs p → InHull cs q
    → InHull cs (nudge n p q)
unfolding nudge
nudge_in_hull cs n p q h k = record {
  weights = blend (pos n *ℤ k.scale) h.scale h.weights k.weights;
  one_each =
      length-blend (pos n *ℤ k.scale) h.scale h.weights k.weights (length cs) h.one_each k.one_each;
  allowed = blend_allowed (pos n *ℤ k.scale) h.scale h.weights k.weights (mul-nonneg_ℤ {a = pos n}
      {b = k.scale} (index_not_negative n) (weak k.positive)) (weak h.positive) h.allowed k.allowed;
  scale = h.scale *ℤ k.scale;
  positive = mul-pos_ℤ h.positive k.positive;
  x = scaled_sum h.scale k.scale (pos n) p.x q.x _ _ h.x k.x ∙ sym (blend_sum (λ c. c.x)
      (pos n *ℤ k.scale) h.scale h.weights k.weights cs h.one_each k.one_each);
  y = scaled_sum h.scale k.scale (pos n) p.y q.y _ _ h.y k.y ∙ sym (blend_sum (λ c. c.y)
      (pos n *ℤ k.scale) h.scale h.weights k.weights cs h.one_each k.one_each);
  w = scaled_sum h.scale k.scale (pos n) p.w q.w _ _ h.w k.w ∙ sym (blend_sum (λ c. c.w)
      (pos n *ℤ k.scale) h.scale h.weights k.weights cs h.one_each k.one_each);
}

-- a point of a closed triangle of three points of the list
three_sum : (k l m a b c : ℤ) (s n p : ℤ) → n *ℤ p ≡ k *ℤ a +ℤ l *ℤ b +ℤ m *ℤ c
    → s ≡ k *ℤ a +ℤ pos 1 *ℤ (l *ℤ b +ℤ m *ℤ c) → n *ℤ p ≡ s
three_sum k l m a b c s n p e d = omega (arith, ints)

-- a point of a closed triangle of three points of a list is in its hull
pub triangle_in_hull : (cs : List Fraction) (i j k : ℕ) (d a b c p : Fraction) → i < length cs
    → j < length cs → k < length cs → get_or cs i d ≡ a → get_or cs j d ≡ b → get_or cs k d ≡ c
    → ThreeWeights IsNotNegative a b c p → InHull cs p
triangle_in_hull cs i j k d a b c p hi hj hk ei ej ek t = record {
  weights = blend t.k (pos 1) (spike cs i) rest;
  one_each = length-blend t.k (pos 1) (spike cs i) rest (length cs) (length-spike cs i) rest_length;
  allowed = blend_allowed t.k (pos 1) (spike cs i) rest t.k_allowed (record { le = tt })
      (spike_allowed cs i) (blend_allowed t.l t.m (spike cs j) (spike cs k) t.l_allowed t.m_allowed
      (spike_allowed cs j) (spike_allowed cs k));
  scale = t.n;
  positive = t.positive;
  x = three_sum t.k t.l t.m a.x b.x c.x _ t.n p.x t.x (sum (λ c. c.x));
  y = three_sum t.k t.l t.m a.y b.y c.y _ t.n p.y t.y (sum (λ c. c.y));
  w = three_sum t.k t.l t.m a.w b.w c.w _ t.n p.w t.w (sum (λ c. c.w));
}
  where
    rest : List ℤ
    rest = blend t.l t.m (spike cs j) (spike cs k)

    rest_length : length rest ≡ length cs
    rest_length = length-blend t.l t.m (spike cs j) (spike cs k) (length cs) (length-spike cs j)
        (length-spike cs k)

    sum : (f : Fraction → ℤ) → weighted_sum f (blend t.k (pos 1) (spike cs i) rest) cs
        ≡ t.k *ℤ f a +ℤ pos 1 *ℤ (t.l *ℤ f b +ℤ t.m *ℤ f c)
    sum f = blend_sum f t.k (pos 1) (spike cs i) rest cs (length-spike cs i) rest_length
        ∙ (λ n. t.k *ℤ (spike_sum f cs i d hi ∙ ap f ei) n +ℤ pos 1 *ℤ (blend_sum f t.l t.m
        (spike cs j) (spike cs k) cs (length-spike cs j) (length-spike cs k) n))
        ∙ (λ n. t.k *ℤ f a +ℤ pos 1 *ℤ (t.l *ℤ (spike_sum f cs j d hj ∙ ap f ej) n +ℤ t.m
        *ℤ (spike_sum f cs k d hk ∙ ap f ek) n))

-- ---- the hull of some of the points
-- each point of one list is somewhere in another
abbrev pub AreSomewhere : Fraction → List Fraction → List Fraction → Type 0
AreSomewhere d cs es = (i : ℕ) → i < length cs
    → (n : ℕ) × (n < length es) × (get_or es n d ≡ get_or cs i d)

module _ (d : Fraction) (es : List Fraction) where
  abbrev gathered : (ks : List ℤ) (cs : List Fraction) → AreSomewhere d cs es → List ℤ
  gathered [] cs at = zeros es
  gathered (k ∷ ks) [] at = zeros es
  gathered (k ∷ ks) (c ∷ cs) at = blend k (pos 1) (spike es (at 0 (omega arith)).0)
      (gathered ks cs (λ i h. at (suc i) (omega arith)))

  length-gathered : (ks : List ℤ) (cs : List Fraction) (at : AreSomewhere d cs es)
      → length (gathered ks cs at) ≡ length es
  length-gathered [] cs at = length-zeros es
  length-gathered (k ∷ ks) [] at = length-zeros es
  length-gathered (k ∷ ks) (c ∷ cs) at = length-blend k (pos 1) _ _ (length es)
      (length-spike es (at 0 (omega arith)).0)
      (length-gathered ks cs (λ i h. at (suc i) (omega arith)))

  gathered_allowed : (ks : List ℤ) (cs : List Fraction) (at : AreSomewhere d cs es)
      → All IsNotNegative ks → All IsNotNegative (gathered ks cs at)
  gathered_allowed [] cs at w = zeros_allowed es
  gathered_allowed (k ∷ ks) [] at w = zeros_allowed es
  gathered_allowed (k ∷ ks) (c ∷ cs) at w = blend_allowed k (pos 1) _ _
      (All-head IsNotNegative k ks w) (record { le = tt }) (spike_allowed es (at 0 (omega arith)).0)
      (gathered_allowed ks cs (λ i h. at (suc i) (omega arith)) (All-tail IsNotNegative k ks w))

  gathered_sum : (f : Fraction → ℤ) (ks : List ℤ) (cs : List Fraction)
      (at : AreSomewhere d cs es) → weighted_sum f (gathered ks cs at) es ≡ weighted_sum f ks cs
  gathered_sum f [] [] at = zeros_sum f es
  gathered_sum f [] (c ∷ cs) at = zeros_sum f es
  gathered_sum f (k ∷ ks) [] at = zeros_sum f es
  gathered_sum f (k ∷ ks) (c ∷ cs) at =
      blend_sum f k (pos 1) _ _ es (length-spike es (at 0 (omega arith)).0)
      (length-gathered ks cs (λ i h. at (suc i) (omega arith)))
      ∙ next _ _ (f c) _ (spike_sum f es (at 0 (omega arith)).0 d (at 0 (omega arith)).1
      ∙ ap f (at 0 (omega arith)).2) (gathered_sum f ks cs (λ i h. at (suc i) (omega arith)))
    where
      next : (a s b r : ℤ) → a ≡ b → s ≡ r → k *ℤ a +ℤ pos 1 *ℤ s ≡ k *ℤ b +ℤ r
      next a s b r e h = let g : k *ℤ a ≡ k *ℤ b = ap (λ z. k *ℤ z) e in omega (arith, ints)

  -- where each point of a list is one of another, its hull is part of the other's
  pub part_in_hull : (cs : List Fraction) → AreSomewhere d cs es → (p : Fraction) → InHull cs p
      → InHull es p
  part_in_hull cs at p h = record {
    weights = gathered h.weights cs at;
    one_each = length-gathered h.weights cs at;
    allowed = gathered_allowed h.weights cs at h.allowed;
    scale = h.scale;
    positive = h.positive;
    x = h.x ∙ sym (gathered_sum (λ c. c.x) h.weights cs at);
    y = h.y ∙ sym (gathered_sum (λ c. c.y) h.weights cs at);
    w = h.w ∙ sym (gathered_sum (λ c. c.w) h.weights cs at);
  }

-- ---- linear forms of the coordinates
-- f is a sum of multiples of the coordinates
pub record IsForm (f : Fraction → ℤ) : Type 0 where
  pub a : ℤ
  pub b : ℤ
  pub c : ℤ
  pub parts : (q : Fraction) → f q ≡ a *ℤ q.x +ℤ b *ℤ q.y +ℤ c *ℤ q.w

-- the bracket with two points is a form
pub bracket_form : (u v : Fraction) → IsForm (bracket u v)
unfolding bracket
bracket_form u v = record {
  a = u.y *ℤ v.w -ℤ u.w *ℤ v.y;
  b = u.w *ℤ v.x -ℤ u.x *ℤ v.w;
  c = u.x *ℤ v.y -ℤ u.y *ℤ v.x;
  parts = λ q. ring_over fraction [] (u ∷ v ∷ q ∷ []) (λ u v q. bracketᵖ u v q)
      (λ u v q. (u.y ⊗ v.w ⊖ u.w ⊗ v.y) ⊗ q.x ⊕ (u.w ⊗ v.x ⊖ u.x ⊗ v.w) ⊗ q.y
      ⊕ (u.x ⊗ v.y ⊖ u.y ⊗ v.x) ⊗ q.w) tt;
}

-- a sum of multiples of two forms is a form
pub sum_form : (f g : Fraction → ℤ) (k l : ℤ) → IsForm f → IsForm g
    → IsForm (λ q. f q *ℤ k +ℤ g q *ℤ l)
sum_form f g k l m n = record {
  a = m.a *ℤ k +ℤ n.a *ℤ l;
  b = m.b *ℤ k +ℤ n.b *ℤ l;
  c = m.c *ℤ k +ℤ n.c *ℤ l;
  parts = λ q. together m.a m.b m.c n.a n.b n.c q.x q.y q.w (f q) (g q) (m.parts q) (n.parts q);
}
  where
    together : (a b c d e h x y w s r : ℤ) → s ≡ a *ℤ x +ℤ b *ℤ y +ℤ c *ℤ w
        → r ≡ d *ℤ x +ℤ e *ℤ y +ℤ h *ℤ w → s *ℤ k +ℤ r *ℤ l
        ≡ (a *ℤ k +ℤ d *ℤ l) *ℤ x +ℤ (b *ℤ k +ℤ e *ℤ l) *ℤ y +ℤ (c *ℤ k +ℤ h *ℤ l) *ℤ w
    together a b c d e h x y w s r i j = ring_in_from
        (k ∷ l ∷ a ∷ b ∷ c ∷ d ∷ e ∷ h ∷ x ∷ y ∷ w ∷ s ∷ r ∷ [])
        (λ k l a b c d e h x y w s r. s ⊗ k ⊕ r ⊗ l)
        (λ k l a b c d e h x y w s r. (a ⊗ k ⊕ d ⊗ l) ⊗ x ⊕ (b ⊗ k ⊕ e ⊗ l) ⊗ y
        ⊕ (c ⊗ k ⊕ h ⊗ l) ⊗ w)
        (λ k l a b c d e h x y w s r. (k, s, a ⊗ x ⊕ b ⊗ y ⊕ c ⊗ w)
        ∷ (l, r, d ⊗ x ⊕ e ⊗ y ⊕ h ⊗ w) ∷ []) (i, (j, tt)) tt

-- a form of a nudged point
pub form-nudge : (f : Fraction → ℤ) → IsForm f → (n : ℕ) (p q : Fraction)
    → f (nudge n p q) ≡ pos n *ℤ f p +ℤ f q
unfolding nudge
form-nudge f m n p q = parted m.a m.b m.c (pos n) p.x p.y p.w q.x q.y q.w _ _ _
    (m.parts (nudge n p q)) (m.parts p) (m.parts q)
  where
    parted : (a b c n x y w x' y' w' r s t : ℤ)
        → r ≡ a *ℤ (n *ℤ x +ℤ pos 1 *ℤ x') +ℤ b *ℤ (n *ℤ y +ℤ pos 1 *ℤ y')
        +ℤ c *ℤ (n *ℤ w +ℤ pos 1 *ℤ w') → s ≡ a *ℤ x +ℤ b *ℤ y +ℤ c *ℤ w
        → t ≡ a *ℤ x' +ℤ b *ℤ y' +ℤ c *ℤ w' → r ≡ n *ℤ s +ℤ t
    parted a b c n x y w x' y' w' r s t e d h = ring_in_from
        (a ∷ b ∷ c ∷ n ∷ x ∷ y ∷ w ∷ x' ∷ y' ∷ w' ∷ r ∷ s ∷ t ∷ [])
        (λ a b c n x y w x' y' w' r s t. r) (λ a b c n x y w x' y' w' r s t. n ⊗ s ⊕ t)
        (λ a b c n x y w x' y' w' r s t. (
          num 1,
          r,
          a ⊗ (n ⊗ x ⊕ num 1 ⊗ x')
              ⊕ b ⊗ (n ⊗ y ⊕ num 1 ⊗ y') ⊕ c ⊗ (n ⊗ w ⊕ num 1 ⊗ w'),
        )
        ∷ (⊝ n, s, a ⊗ x ⊕ b ⊗ y ⊕ c ⊗ w) ∷ (⊝ (num 1), t, a ⊗ x' ⊕ b ⊗ y' ⊕ c ⊗ w') ∷ [])
        (e, (d, (h, tt))) tt

summed : (f : Fraction → ℤ) (m : IsForm f) (ks : List ℤ) (cs : List Fraction)
    → weighted_sum f ks cs ≡ m.a *ℤ weighted_sum (λ q. q.x) ks cs
    +ℤ m.b *ℤ weighted_sum (λ q. q.y) ks cs +ℤ m.c *ℤ weighted_sum (λ q. q.w) ks cs
summed f m [] [] = omega (arith, ints)
summed f m [] (q ∷ cs) = omega (arith, ints)
summed f m (k ∷ ks) [] = omega (arith, ints)
summed f m (k ∷ ks) (q ∷ cs) =
    next m.a m.b m.c k q.x q.y q.w (f q) _ _ _ _ (m.parts q) (summed f m ks cs)
  where
    next : (a b c k x y w r s u v z : ℤ) → r ≡ a *ℤ x +ℤ b *ℤ y +ℤ c *ℤ w
        → s ≡ a *ℤ u +ℤ b *ℤ v +ℤ c *ℤ z → k *ℤ r +ℤ s
        ≡ a *ℤ (k *ℤ x +ℤ u) +ℤ b *ℤ (k *ℤ y +ℤ v) +ℤ c *ℤ (k *ℤ w +ℤ z)
    next a b c k x y w r s u v z d e = ring_in_from
        (a ∷ b ∷ c ∷ k ∷ x ∷ y ∷ w ∷ r ∷ s ∷ u ∷ v ∷ z ∷ [])
        (λ a b c k x y w r s u v z. k ⊗ r ⊕ s)
        (λ a b c k x y w r s u v z. a ⊗ (k ⊗ x ⊕ u) ⊕ b ⊗ (k ⊗ y ⊕ v) ⊕ c ⊗ (k ⊗ w ⊕ z))
        (λ a b c k x y w r s u v z. (k, r, a ⊗ x ⊕ b ⊗ y ⊕ c ⊗ w)
        ∷ (num 1, s, a ⊗ u ⊕ b ⊗ v ⊕ c ⊗ z) ∷ []) (d, (e, tt)) tt

-- a form of a mean is the mean of the form
of_mean : (cs : List Fraction) (f : Fraction → ℤ) → IsForm f → (p : Fraction) (h : InHull cs p)
    → h.scale *ℤ f p ≡ weighted_sum f h.weights cs
of_mean cs f m p h = together m.a m.b m.c h.scale p.x p.y p.w _ _ _ _ (m.parts p) h.x h.y h.w
    ∙ sym (summed f m h.weights cs)
  where
    together : (a b c n x y w s r q t : ℤ) → t ≡ a *ℤ x +ℤ b *ℤ y +ℤ c *ℤ w → n *ℤ x ≡ s
        → n *ℤ y ≡ r → n *ℤ w ≡ q → n *ℤ t ≡ a *ℤ s +ℤ b *ℤ r +ℤ c *ℤ q
    together a b c n x y w s r q t e i j k = ring_in_from
        (a ∷ b ∷ c ∷ n ∷ x ∷ y ∷ w ∷ s ∷ r ∷ q ∷ t ∷ [])
        (λ a b c n x y w s r q t. n ⊗ t) (λ a b c n x y w s r q t. a ⊗ s ⊕ b ⊗ r ⊕ c ⊗ q)
        (λ a b c n x y w s r q t. (n, t, a ⊗ x ⊕ b ⊗ y ⊕ c ⊗ w) ∷ (a, n ⊗ x, s) ∷ (b, n ⊗ y, r)
        ∷ (c, n ⊗ w, q) ∷ []) (e, (i, (j, (k, tt)))) tt

none_summed : (f : Fraction → ℤ) (d : Fraction) (ks : List ℤ) (cs : List Fraction)
    → ((i : ℕ) → i < length cs → f (get_or cs i d) ≡ pos 0) → weighted_sum f ks cs ≡ pos 0
none_summed f d [] [] none = refl
none_summed f d [] (q ∷ cs) none = refl
none_summed f d (k ∷ ks) [] none = refl
none_summed f d (k ∷ ks) (q ∷ cs) none = let e = zero-mul_ℤ k (none 0 (omega arith)) in
    let r = none_summed f d ks cs (λ i h. none (suc i) (omega arith)) in omega (arith, ints)

least_summed : (f : Fraction → ℤ) (d : Fraction) (ks : List ℤ) (cs : List Fraction)
    → All IsNotNegative ks → ((i : ℕ) → i < length cs → pos 0 ≤ℤ f (get_or cs i d))
    → pos 0 ≤ℤ weighted_sum f ks cs
least_summed f d [] [] w least = record { le = tt }
least_summed f d [] (q ∷ cs) w least = record { le = tt }
least_summed f d (k ∷ ks) [] w least = record { le = tt }
least_summed f d (k ∷ ks) (q ∷ cs) w least = sum_not_negative_of
    (mul-nonneg_ℤ {a = k} {b = f q} (All-head IsNotNegative k ks w) (least 0 (omega arith)))
    (least_summed f d ks cs (All-tail IsNotNegative k ks w) (λ i h. least (suc i) (omega arith)))

-- where a form is 0 at each point of a list, it is at each point of its hull
pub none_in_hull : (cs : List Fraction) (d : Fraction) (f : Fraction → ℤ) → IsForm f
    → ((i : ℕ) → i < length cs → f (get_or cs i d) ≡ pos 0) → (p : Fraction) → InHull cs p
    → f p ≡ pos 0
none_in_hull cs d f m none p h = zero_of_mul-zero_ℤ {k = h.scale} {x = f p}
    (pos-ne-zero_ℤ h.positive) (of_mean cs f m p h ∙ none_summed f d h.weights cs none)

-- where a form is below 0 at no point of a list, it is at none of its hull
pub least_in_hull : (cs : List Fraction) (d : Fraction) (f : Fraction → ℤ) → IsForm f
    → ((i : ℕ) → i < length cs → pos 0 ≤ℤ f (get_or cs i d)) → (p : Fraction) → InHull cs p
    → pos 0 ≤ℤ f p
least_in_hull cs d f m least p h = nonneg_of_mul-nonneg_ℤ {k = h.scale} {x = f p} h.positive
    (subst (λ z. pos 0 ≤ℤ z) (sym (of_mean cs f m p h))
    (least_summed f d h.weights cs h.allowed least))
