-- Closed circles and closed rectangles have the segment of each two of their points.
-- Notions: IsConvex; above_line, below_line, region_convex.
use Rattle.std.proofs.Common.{◌≡◌, [], ◌∷◌, arith, sym, subst}
use Rattle.std.specs.Prelude.{ℤ, pos, ◌<ℤ◌, ◌≤ℤ◌, ◌+ℤ◌, ◌-ℤ◌, ◌*ℤ◌}
use Rattle.std.proofs.lemmas.Int.{ints}
use Rattle.plane.specs.{Fraction, gap, InClosedCircle, InClosedRectangle, IsNotNegative, OnSegment}
use Rattle.plane.specs.{Point, rise, run, whole}
use Rattle.plane.proofs.{◌⊕◌, ◌⊖◌, ◌⊗◌, at_most_by_difference, difference_not_negative_from}
use Rattle.plane.proofs.{mul-nonneg_ℤ, mul-pos_ℤ, nonneg_of_mul-nonneg_ℤ, num, ring_in}
use Rattle.plane.proofs.{ring_in_from, square-nonneg_ℤ, sum_not_negative_of, two_weights}
use Rattle.plane.proofs.{TwoWeights, ⊝}
use Rattle.plane_theorems.specs.{circle, InRegion, rectangle, Region}
use Rattle.plane_theorems.proofs.Delaunay.Points.Numbers.{sum_least}

-- a shape has the segment of each two of its points
abbrev pub IsConvex : (Fraction → Type 0) → Type 0
IsConvex Shape = (p q r : Fraction) → Shape p → Shape q → OnSegment p q r → Shape r

-- ---- a number times the weight, less a coordinate: linear
from_weights : (n k l r a b w v u c : ℤ) → n *ℤ r ≡ k *ℤ a +ℤ l *ℤ b → n *ℤ w ≡ k *ℤ v +ℤ l *ℤ u
    → n *ℤ (r -ℤ c *ℤ w) ≡ k *ℤ (a -ℤ c *ℤ v) +ℤ l *ℤ (b -ℤ c *ℤ u)
from_weights n k l r a b w v u c e d = ring_in_from (n ∷ k ∷ l ∷ r ∷ a ∷ b ∷ w ∷ v ∷ u ∷ c ∷ [])
    (λ n k l r a b w v u c. n ⊗ (r ⊖ c ⊗ w))
    (λ n k l r a b w v u c. k ⊗ (a ⊖ c ⊗ v) ⊕ l ⊗ (b ⊖ c ⊗ u))
    (λ n k l r a b w v u c. (num 1, n ⊗ r, k ⊗ a ⊕ l ⊗ b) ∷ (⊝ c, n ⊗ w, k ⊗ v ⊕ l ⊗ u) ∷ [])
    (e, (d, tt)) tt

-- at least c times the weight
pub above_line : (n k l r a b w v u c : ℤ) → pos 0 <ℤ n → pos 0 ≤ℤ k → pos 0 ≤ℤ l → n *ℤ r
    ≡ k *ℤ a +ℤ l *ℤ b → n *ℤ w ≡ k *ℤ v +ℤ l *ℤ u → (c *ℤ v) ≤ℤ a → (c *ℤ u) ≤ℤ b → (c *ℤ w) ≤ℤ r
above_line n k l r a b w v u c hn hk hl e d h i = at_most_by_difference r (c *ℤ w) (sum_least n k l
    (r -ℤ c *ℤ w) (a -ℤ c *ℤ v) (b -ℤ c *ℤ u) hn (from_weights n k l r a b w v u c e d) hk
    (difference_not_negative_from a (c *ℤ v) h) hl (difference_not_negative_from b (c *ℤ u) i))

-- at most c times the weight
from_weights_back : (n k l r a b w v u c : ℤ) → n *ℤ r ≡ k *ℤ a +ℤ l *ℤ b
    → n *ℤ w ≡ k *ℤ v +ℤ l *ℤ u → n *ℤ (c *ℤ w -ℤ r) ≡ k *ℤ (c *ℤ v -ℤ a) +ℤ l *ℤ (c *ℤ u -ℤ b)
from_weights_back n k l r a b w v u c e d =
    ring_in_from (n ∷ k ∷ l ∷ r ∷ a ∷ b ∷ w ∷ v ∷ u ∷ c ∷ [])
    (λ n k l r a b w v u c. n ⊗ (c ⊗ w ⊖ r))
    (λ n k l r a b w v u c. k ⊗ (c ⊗ v ⊖ a) ⊕ l ⊗ (c ⊗ u ⊖ b))
    (λ n k l r a b w v u c. (num 0 ⊖ num 1, n ⊗ r, k ⊗ a ⊕ l ⊗ b) ∷ (c, n ⊗ w, k ⊗ v ⊕ l ⊗ u) ∷ [])
    (e, (d, tt)) tt

-- a mean of two that are at most c times their weights is at most c times its own
pub below_line : (n k l r a b w v u c : ℤ) → pos 0 <ℤ n → pos 0 ≤ℤ k → pos 0 ≤ℤ l → n *ℤ r
    ≡ k *ℤ a +ℤ l *ℤ b → n *ℤ w ≡ k *ℤ v +ℤ l *ℤ u → a ≤ℤ (c *ℤ v) → b ≤ℤ (c *ℤ u) → r ≤ℤ (c *ℤ w)
below_line n k l r a b w v u c hn hk hl e d h i = at_most_by_difference (c *ℤ w) r (sum_least n k l
    (c *ℤ w -ℤ r) (c *ℤ v -ℤ a) (c *ℤ u -ℤ b) hn (from_weights_back n k l r a b w v u c e d) hk
    (difference_not_negative_from (c *ℤ v) a h) hl (difference_not_negative_from (c *ℤ u) b i))

rectangle_convex : (lower upper : Point) → IsConvex (InClosedRectangle lower upper)
rectangle_convex lower upper p q r hp hq m = go (two_weights IsNotNegative p q r m)
  where
    go : TwoWeights IsNotNegative p q r → InClosedRectangle lower upper r
    go s = record {
      left = above_line s.n s.k s.l r.x p.x q.x r.w p.w q.w lower.x s.positive s.k_allowed
          s.l_allowed s.x s.w hp.left hq.left;
      right = below_line s.n s.k s.l r.x p.x q.x r.w p.w q.w upper.x s.positive s.k_allowed
          s.l_allowed s.x s.w hp.right hq.right;
      below = above_line s.n s.k s.l r.y p.y q.y r.w p.w q.w lower.y s.positive s.k_allowed
          s.l_allowed s.y s.w hp.below hq.below;
      above = below_line s.n s.k s.l r.y p.y q.y r.w p.w q.w upper.y s.positive s.k_allowed
          s.l_allowed s.y s.w hp.above hq.above;
    }

-- ---- circles, by the ways x y and x' y' from the centre to two points of the weights v and u
product_sum : (v u x y x' y' : ℤ) → pos 2 *ℤ (v *ℤ u *ℤ (x *ℤ x' +ℤ y *ℤ y'))
    +ℤ ((u *ℤ x -ℤ v *ℤ x') *ℤ (u *ℤ x -ℤ v *ℤ x') +ℤ (u *ℤ y -ℤ v *ℤ y') *ℤ (u *ℤ y -ℤ v *ℤ y'))
    ≡ u *ℤ u *ℤ (x *ℤ x +ℤ y *ℤ y) +ℤ v *ℤ v *ℤ (x' *ℤ x' +ℤ y' *ℤ y')
product_sum v u x y x' y' = ring_in (v ∷ u ∷ x ∷ y ∷ x' ∷ y' ∷ [])
    (λ v u x y x' y'. num 2 ⊗ (v ⊗ u ⊗ (x ⊗ x' ⊕ y ⊗ y'))
    ⊕ ((u ⊗ x ⊖ v ⊗ x') ⊗ (u ⊗ x ⊖ v ⊗ x') ⊕ (u ⊗ y ⊖ v ⊗ y') ⊗ (u ⊗ y ⊖ v ⊗ y')))
    (λ v u x y x' y'. u ⊗ u ⊗ (x ⊗ x ⊕ y ⊗ y) ⊕ v ⊗ v ⊗ (x' ⊗ x' ⊕ y' ⊗ y')) tt

-- r v u is at least the ways' product
product_room : (v u r d s t o : ℤ) → pos 2 *ℤ (v *ℤ u *ℤ d) +ℤ o ≡ u *ℤ u *ℤ s +ℤ v *ℤ v *ℤ t
    → pos 2 *ℤ (v *ℤ u *ℤ (r *ℤ (v *ℤ u) -ℤ d))
    ≡ u *ℤ u *ℤ (r *ℤ (v *ℤ v) -ℤ s) +ℤ v *ℤ v *ℤ (r *ℤ (u *ℤ u) -ℤ t) +ℤ o
product_room v u r d s t o e = ring_in_from (v ∷ u ∷ r ∷ d ∷ s ∷ t ∷ o ∷ [])
    (λ v u r d s t o. num 2 ⊗ (v ⊗ u ⊗ (r ⊗ (v ⊗ u) ⊖ d)))
    (λ v u r d s t o. u ⊗ u ⊗ (r ⊗ (v ⊗ v) ⊖ s) ⊕ v ⊗ v ⊗ (r ⊗ (u ⊗ u) ⊖ t) ⊕ o)
    (λ v u r d s t o. (num 0 ⊖ num 1, num 2 ⊗ (v ⊗ u ⊗ d) ⊕ o, u ⊗ u ⊗ s ⊕ v ⊗ v ⊗ t) ∷ [])
    (e, tt) tt

halved : (z : ℤ) → pos 0 ≤ℤ (pos 2 *ℤ z) → pos 0 ≤ℤ z
halved z h = omega (arith, ints)

product_least : (v u r x y x' y' : ℤ) → pos 0 <ℤ v → pos 0 <ℤ u
    → (x *ℤ x +ℤ y *ℤ y) ≤ℤ (r *ℤ (v *ℤ v)) → (x' *ℤ x' +ℤ y' *ℤ y') ≤ℤ (r *ℤ (u *ℤ u))
    → pos 0 ≤ℤ (r *ℤ (v *ℤ u) -ℤ (x *ℤ x' +ℤ y *ℤ y'))
product_least v u r x y x' y' hv hu h i = nonneg_of_mul-nonneg_ℤ {k = v *ℤ u}
    {x = r *ℤ (v *ℤ u) -ℤ (x *ℤ x' +ℤ y *ℤ y')} (mul-pos_ℤ {a = v} {b = u} hv hu)
    (halved _ (subst (λ z. pos 0 ≤ℤ z) (sym (product_room v u r (x *ℤ x' +ℤ y *ℤ y')
    (x *ℤ x +ℤ y *ℤ y) (x' *ℤ x' +ℤ y' *ℤ y') across (product_sum v u x y x' y')))
    (sum_not_negative_of (sum_not_negative_of (mul-nonneg_ℤ {a = u *ℤ u} {b = r *ℤ (v *ℤ v)
    -ℤ (x *ℤ x +ℤ y *ℤ y)} (square-nonneg_ℤ u) (difference_not_negative_from _ _ h))
    (mul-nonneg_ℤ {a = v *ℤ v} {b = r *ℤ (u *ℤ u) -ℤ (x' *ℤ x' +ℤ y' *ℤ y')} (square-nonneg_ℤ v)
    (difference_not_negative_from _ _ i)))
    (sum_not_negative_of (square-nonneg_ℤ (u *ℤ x -ℤ v *ℤ x'))
    (square-nonneg_ℤ (u *ℤ y -ℤ v *ℤ y'))))))
  where
    across : ℤ
    across =
        (u *ℤ x -ℤ v *ℤ x') *ℤ (u *ℤ x -ℤ v *ℤ x') +ℤ (u *ℤ y -ℤ v *ℤ y') *ℤ (u *ℤ y -ℤ v *ℤ y')

-- the room of the mean, by those of the two points and of their product
mean_room : (n k l r w v u X Y x y x' y' : ℤ) → n *ℤ X ≡ k *ℤ x +ℤ l *ℤ x' → n *ℤ Y ≡ k *ℤ y +ℤ l
    *ℤ y' → n *ℤ w ≡ k *ℤ v +ℤ l *ℤ u → n *ℤ n *ℤ (r *ℤ (w *ℤ w) -ℤ (X *ℤ X +ℤ Y *ℤ Y)) ≡ k *ℤ k
    *ℤ (r *ℤ (v *ℤ v) -ℤ (x *ℤ x +ℤ y *ℤ y)) +ℤ l *ℤ l *ℤ (r *ℤ (u *ℤ u) -ℤ (x' *ℤ x' +ℤ y' *ℤ y'))
    +ℤ pos 2 *ℤ (k *ℤ l *ℤ (r *ℤ (v *ℤ u) -ℤ (x *ℤ x' +ℤ y *ℤ y')))
mean_room n k l r w v u X Y x y x' y' e d c =
    ring_in_from (n ∷ k ∷ l ∷ r ∷ w ∷ v ∷ u ∷ X ∷ Y ∷ x ∷ y ∷ x' ∷ y' ∷ [])
    (λ n k l r w v u X Y x y x' y'. n ⊗ n ⊗ (r ⊗ (w ⊗ w) ⊖ (X ⊗ X ⊕ Y ⊗ Y)))
    (λ n k l r w v u X Y x y x' y'. k ⊗ k ⊗ (r ⊗ (v ⊗ v) ⊖ (x ⊗ x ⊕ y ⊗ y)) ⊕ l ⊗ l
    ⊗ (r ⊗ (u ⊗ u) ⊖ (x' ⊗ x' ⊕ y' ⊗ y')) ⊕ num 2 ⊗ (k ⊗ l ⊗ (r ⊗ (v ⊗ u) ⊖ (x ⊗ x' ⊕ y ⊗ y'))))
    (λ n k l r w v u X Y x y x' y'. (⊝ (n ⊗ X ⊕ k ⊗ x ⊕ l ⊗ x'), n ⊗ X, k ⊗ x ⊕ l ⊗ x')
    ∷ (⊝ (n ⊗ Y ⊕ k ⊗ y ⊕ l ⊗ y'), n ⊗ Y, k ⊗ y ⊕ l ⊗ y')
    ∷ (r ⊗ (n ⊗ w ⊕ k ⊗ v ⊕ l ⊗ u), n ⊗ w, k ⊗ v ⊕ l ⊗ u) ∷ [])
    (e, (d, (c, tt))) tt

-- the way from a whole point
way_from : (n k l r a b w v u c : ℤ) → n *ℤ r ≡ k *ℤ a +ℤ l *ℤ b → n *ℤ w ≡ k *ℤ v +ℤ l *ℤ u
    → n *ℤ (r *ℤ pos 1 -ℤ c *ℤ w) ≡ k *ℤ (a *ℤ pos 1 -ℤ c *ℤ v) +ℤ l *ℤ (b *ℤ pos 1 -ℤ c *ℤ u)
way_from n k l r a b w v u c e d = ring_in_from (n ∷ k ∷ l ∷ r ∷ a ∷ b ∷ w ∷ v ∷ u ∷ c ∷ [])
    (λ n k l r a b w v u c. n ⊗ (r ⊗ num 1 ⊖ c ⊗ w))
    (λ n k l r a b w v u c. k ⊗ (a ⊗ num 1 ⊖ c ⊗ v) ⊕ l ⊗ (b ⊗ num 1 ⊖ c ⊗ u))
    (λ n k l r a b w v u c. (num 1, n ⊗ r, k ⊗ a ⊕ l ⊗ b) ∷ (⊝ c, n ⊗ w, k ⊗ v ⊕ l ⊗ u) ∷ [])
    (e, (d, tt)) tt

circle_convex : (centre : Point) (radius_2 : ℤ) → IsConvex (InClosedCircle centre radius_2)
circle_convex centre radius_2 p q r hp hq m = go (two_weights IsNotNegative p q r m)
  where
    c : Fraction
    c = whole centre

    go : TwoWeights IsNotNegative p q r → InClosedCircle centre radius_2 r
    go s = record {
      near = at_most_by_difference (radius_2 *ℤ (r.w *ℤ r.w)) (gap c r) (nonneg_of_mul-nonneg_ℤ {k =
          s.n *ℤ s.n} {x = radius_2 *ℤ (r.w *ℤ r.w) -ℤ gap c r} (mul-pos_ℤ s.positive s.positive)
          (subst (λ z. pos 0 ≤ℤ z) (sym (mean_room s.n s.k s.l radius_2 r.w p.w q.w (run c r)
          (rise c r) (run c p) (rise c p) (run c q) (rise c q)
          (way_from s.n s.k s.l r.x p.x q.x r.w p.w q.w centre.x s.x s.w)
          (way_from s.n s.k s.l r.y p.y q.y r.w p.w q.w centre.y s.y s.w) s.w))
          (sum_not_negative_of (sum_not_negative_of
          (mul-nonneg_ℤ {a = s.k *ℤ s.k} {b = radius_2 *ℤ (p.w *ℤ p.w) -ℤ gap c p}
          (square-nonneg_ℤ s.k) (difference_not_negative_from _ _ hp.near))
          (mul-nonneg_ℤ {a = s.l *ℤ s.l} {b = radius_2 *ℤ (q.w *ℤ q.w) -ℤ gap c q}
          (square-nonneg_ℤ s.l) (difference_not_negative_from _ _ hq.near)))
          (mul-nonneg_ℤ {a = pos 2} {b = s.k *ℤ s.l *ℤ (radius_2 *ℤ (p.w *ℤ q.w)
          -ℤ (run c p *ℤ run c q +ℤ rise c p *ℤ rise c q))} (record { le = tt })
          (mul-nonneg_ℤ {a = s.k *ℤ s.l} {b = radius_2 *ℤ (p.w *ℤ q.w) -ℤ (run c p *ℤ run c q
          +ℤ rise c p *ℤ rise c q)} (mul-nonneg_ℤ {a = s.k} {b = s.l} s.k_allowed s.l_allowed)
          (product_least p.w q.w radius_2 (run c p) (rise c p) (run c q)
          (rise c q) p.positive q.positive hp.near hq.near))))));
    }

-- closed circles and closed rectangles have the segment of each two of their points
pub region_convex : (region : Region) → IsConvex (InRegion region)
region_convex (circle centre radius_2) = circle_convex centre radius_2
region_convex (rectangle lower upper) = rectangle_convex lower upper
