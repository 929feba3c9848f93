-- The squared distance to a rectangle is that to the nearest of its points.
-- Notions: IsNearestIn; nearest_in_range, nearest_value, nearest_distance, nearest_inside.
use Rattle.std.proofs.Common.{◌≡◌, [], ◌∷◌, refl, sym, subst, arith}
use mathlib.Core.Logic.{◌↔◌, inl, inr}
use mathlib.Core.Bool.{Bool, true, false, cond}
use Rattle.std.specs.Prelude.{ℤ, pos, ◌+ℤ◌, ◌-ℤ◌, ◌*ℤ◌, ◌<ℤ◌, ◌≤ℤ◌, IsTrue, int_lt}
use Rattle.std.proofs.lemmas.Int.{ints}
use Rattle.plane.specs.{Fraction, gap, InClosedRectangle, InRange, IsCoordinate, Point, whole}
use Rattle.plane.proofs.{◌⊕◌, ◌⊖◌, ◌⊗◌, lt_or_ge_ℤ, mul-le-mul_ℤ, mul-nonneg_ℤ, num, ring_in}
use Rattle.plane.proofs.{Signs.positive_is_not_negative, square-nonneg_ℤ, square-pos_ℤ}
use Rattle.{delaunay_shapes.specs.is_reversed, plane.proofs.IntegerLaws.add-mul_ℤ}
use Rattle.delaunay_shapes.specs.Distance.{clamped, farthest, IsLeastDistance, rectangle_distance}
use Rattle.{delaunay_shapes.proofs.Decided.decides_lt, delaunay_shapes.specs.Tests.IsReversed}
use Rattle.delaunay_shapes.proofs.Rectangles.{decides_reversed, sorted_x, sorted_y}

-- n is the number from low to high that is nearest to a
data Nearest (low high a n : ℤ) : Type 0 where
  raised : a <ℤ low → n ≡ low → Nearest low high a n
  lowered : high <ℤ a → n ≡ high → Nearest low high a n
  kept : low ≤ℤ a → a ≤ℤ high → n ≡ a → Nearest low high a n

nearest : (low high a n : ℤ) → n ≡ clamped low high a → Nearest low high a n
nearest low high a n e =
    split (int_lt a low) (int_lt high a) (decides_lt a low) (decides_lt high a) e
  where
    split : (b c : Bool) → (IsTrue b ↔ (a <ℤ low)) → (IsTrue c ↔ (high <ℤ a))
        → n ≡ cond b low (cond c high a) → Nearest low high a n
    split true c h i e = raised (h.0 refl) e
    split false true h i e = lowered (i.0 refl) e
    split false false h i e = elim (lt_or_ge_ℤ a low) [
      | inl s ↦ absurd (cc (h.1 s))
      | inr s ↦ elim (lt_or_ge_ℤ high a) [ inl t ↦ absurd (cc (i.1 t)) | inr t ↦ kept s t e ]
    ]

from_low : {low high a n : ℤ} → low ≤ℤ high → Nearest low high a n → (low *ℤ pos 1) ≤ℤ n
from_low h (raised i e) = omega (arith, ints)
from_low h (lowered i e) = omega (arith, ints)
from_low h (kept i j e) = omega (arith, ints)

to_high : {low high a n : ℤ} → low ≤ℤ high → Nearest low high a n → n ≤ℤ (high *ℤ pos 1)
to_high h (raised i e) = omega (arith, ints)
to_high h (lowered i e) = omega (arith, ints)
to_high h (kept i j e) = omega (arith, ints)

in_range : {low high a n : ℤ} → IsCoordinate low → IsCoordinate high → IsCoordinate a
    → Nearest low high a n → IsCoordinate n
in_range h i j (raised s e) = subst IsCoordinate (sym e) h
in_range h i j (lowered s e) = subst IsCoordinate (sym e) i
in_range h i j (kept s t e) = subst IsCoordinate (sym e) j

-- squares of numbers that are not negative grow with them
square_grows : (u v : ℤ) → pos 0 ≤ℤ u → u ≤ℤ v → (u *ℤ u) ≤ℤ (v *ℤ v)
square_grows u v h i =
    let v_least : pos 0 ≤ℤ v = omega (arith, ints) in
    let first = mul-le-mul_ℤ {k = u} {x = u} {y = v} h i in
    let second = mul-le-mul_ℤ {k = v} {x = u} {y = v} v_least i in
    join (u *ℤ u) (u *ℤ v) (v *ℤ u) (v *ℤ v) first second
    (ring_in (u ∷ v ∷ []) (λ u v. u ⊗ v) (λ u v. v ⊗ u) tt)
  where
    join : (a b c d : ℤ) → a ≤ℤ b → c ≤ℤ d → b ≡ c → a ≤ℤ d
    join a b c d h i e = omega (arith, ints)

-- no number from low to high is nearer than the nearest, in one coordinate
axis_least : {low high a n : ℤ} → Nearest low high a n → (x w : ℤ) → pos 0 <ℤ w → (low *ℤ w) ≤ℤ x
    → x ≤ℤ (high *ℤ w) → ((n *ℤ pos 1 -ℤ a *ℤ pos 1) *ℤ (n *ℤ pos 1 -ℤ a *ℤ pos 1) *ℤ (w *ℤ w))
    ≤ℤ ((x *ℤ pos 1 -ℤ a *ℤ w) *ℤ (x *ℤ pos 1 -ℤ a *ℤ w))
axis_least {low} {high} {a} {n} (raised h e) x w p i j =
    subst (λ z. z ≤ℤ ((x *ℤ pos 1 -ℤ a *ℤ w) *ℤ (x *ℤ pos 1 -ℤ a *ℤ w))) (scaled n a w)
    (square_grows ((n -ℤ a) *ℤ w) (x *ℤ pos 1 -ℤ a *ℤ w) (mul-nonneg_ℤ (above h e)
    (positive_is_not_negative w p)) (way n a x w (subst (λ z. (z *ℤ w) ≤ℤ x) (sym e) i)))
  where
    above : a <ℤ low → n ≡ low → pos 0 ≤ℤ (n -ℤ a)
    above h e = omega (arith, ints)

    less : (b c x : ℤ) → b ≤ℤ x → (b -ℤ c) ≤ℤ (x *ℤ pos 1 -ℤ c)
    less b c x h = omega (arith, ints)

    way : (n a x w : ℤ) → (n *ℤ w) ≤ℤ x → ((n -ℤ a) *ℤ w) ≤ℤ (x *ℤ pos 1 -ℤ a *ℤ w)
    way n a x w i = subst (λ z. z ≤ℤ (x *ℤ pos 1 -ℤ a *ℤ w)) (ring_in (n ∷ a ∷ w ∷ [])
        (λ n a w. n ⊗ w ⊖ a ⊗ w) (λ n a w. (n ⊖ a) ⊗ w) tt) (less (n *ℤ w) (a *ℤ w) x i)

    scaled : (n a w : ℤ) → ((n -ℤ a) *ℤ w) *ℤ ((n -ℤ a) *ℤ w)
        ≡ (n *ℤ pos 1 -ℤ a *ℤ pos 1) *ℤ (n *ℤ pos 1 -ℤ a *ℤ pos 1) *ℤ (w *ℤ w)
    scaled n a w = ring_in (n ∷ a ∷ w ∷ []) (λ n a w. ((n ⊖ a) ⊗ w) ⊗ ((n ⊖ a) ⊗ w))
        (λ n a w. (n ⊗ num 1 ⊖ a ⊗ num 1) ⊗ (n ⊗ num 1 ⊖ a ⊗ num 1) ⊗ (w ⊗ w)) tt
axis_least {low} {high} {a} {n} (lowered h e) x w p i j =
    subst (λ z. z ≤ℤ ((x *ℤ pos 1 -ℤ a *ℤ w) *ℤ (x *ℤ pos 1 -ℤ a *ℤ w))) (scaled n a w)
    (subst (λ z. (((a -ℤ n) *ℤ w) *ℤ ((a -ℤ n) *ℤ w)) ≤ℤ z) (turned x a w)
    (square_grows ((a -ℤ n) *ℤ w) (a *ℤ w -ℤ x) (mul-nonneg_ℤ (above h e)
    (positive_is_not_negative w p)) (way n a x w (subst (λ z. x ≤ℤ (z *ℤ w)) (sym e) j))))
  where
    above : high <ℤ a → n ≡ high → pos 0 ≤ℤ (a -ℤ n)
    above h e = omega (arith, ints)

    less : (b c x : ℤ) → x ≤ℤ b → (c -ℤ b) ≤ℤ (c -ℤ x)
    less b c x h = omega (arith, ints)

    way : (n a x w : ℤ) → x ≤ℤ (n *ℤ w) → ((a -ℤ n) *ℤ w) ≤ℤ (a *ℤ w -ℤ x)
    way n a x w i = subst (λ z. z ≤ℤ (a *ℤ w -ℤ x)) (ring_in (n ∷ a ∷ w ∷ [])
        (λ n a w. a ⊗ w ⊖ n ⊗ w) (λ n a w. (a ⊖ n) ⊗ w) tt) (less (n *ℤ w) (a *ℤ w) x i)

    turned : (x a w : ℤ)
        → (a *ℤ w -ℤ x) *ℤ (a *ℤ w -ℤ x) ≡ (x *ℤ pos 1 -ℤ a *ℤ w) *ℤ (x *ℤ pos 1 -ℤ a *ℤ w)
    turned x a w = ring_in (x ∷ a ∷ w ∷ []) (λ x a w. (a ⊗ w ⊖ x) ⊗ (a ⊗ w ⊖ x))
        (λ x a w. (x ⊗ num 1 ⊖ a ⊗ w) ⊗ (x ⊗ num 1 ⊖ a ⊗ w)) tt

    scaled : (n a w : ℤ) → ((a -ℤ n) *ℤ w) *ℤ ((a -ℤ n) *ℤ w)
        ≡ (n *ℤ pos 1 -ℤ a *ℤ pos 1) *ℤ (n *ℤ pos 1 -ℤ a *ℤ pos 1) *ℤ (w *ℤ w)
    scaled n a w = ring_in (n ∷ a ∷ w ∷ []) (λ n a w. ((a ⊖ n) ⊗ w) ⊗ ((a ⊖ n) ⊗ w))
        (λ n a w. (n ⊗ num 1 ⊖ a ⊗ num 1) ⊗ (n ⊗ num 1 ⊖ a ⊗ num 1) ⊗ (w ⊗ w)) tt
axis_least {low} {high} {a} {n} (kept h k e) x w p i j =
    subst (λ z. z ≤ℤ ((x *ℤ pos 1 -ℤ a *ℤ w) *ℤ (x *ℤ pos 1 -ℤ a *ℤ w))) (none n a w e)
    (square-nonneg_ℤ (x *ℤ pos 1 -ℤ a *ℤ w))
  where
    none : (n a w : ℤ) → n ≡ a
        → pos 0 ≡ (n *ℤ pos 1 -ℤ a *ℤ pos 1) *ℤ (n *ℤ pos 1 -ℤ a *ℤ pos 1) *ℤ (w *ℤ w)
    none n a w e = rw e (ring_in (a ∷ w ∷ []) (λ a w. num 0)
        (λ a w. (a ⊗ num 1 ⊖ a ⊗ num 1) ⊗ (a ⊗ num 1 ⊖ a ⊗ num 1) ⊗ (w ⊗ w)) tt)

-- the point of a rectangle, not a reversed one, that is nearest to p in both coordinates
pub record IsNearestIn (l u p n : Point) : Type 0 where
  pub sorted : ¬ IsReversed l u
  pub x : n.x ≡ clamped l.x u.x p.x
  pub y : n.y ≡ clamped l.y u.y p.y

nearest_x : {l u p n : Point} → IsNearestIn l u p n → Nearest l.x u.x p.x n.x
nearest_x {l} {u} {p} {n} s = nearest l.x u.x p.x n.x s.x

nearest_y : {l u p n : Point} → IsNearestIn l u p n → Nearest l.y u.y p.y n.y
nearest_y {l} {u} {p} {n} s = nearest l.y u.y p.y n.y s.y

-- the point of a rectangle that is nearest to p is in range, where its corners and p are
pub nearest_in_range : {l u p n : Point} → InRange l → InRange u → InRange p
    → IsNearestIn l u p n → InRange n
nearest_in_range h i j s =
    record { x = in_range h.x i.x j.x (nearest_x s); y = in_range h.y i.y j.y (nearest_y s) }

-- its squared distance is the distance to the rectangle
pub nearest_value : {l u p n : Point} → IsNearestIn l u p n
    → gap (whole p) (whole n) ≡ rectangle_distance l u p
nearest_value {l} {u} {p} {n} s = value (is_reversed l u) (decides_reversed l u)
  where
    value : (b : Bool) → (IsTrue b ↔ IsReversed l u) → gap (whole p) (whole n) ≡ cond b farthest
        (gap (whole p) (whole (record { x = clamped l.x u.x p.x; y = clamped l.y u.y p.y })))
    value true h = absurd (s.sorted (h.0 refl))
    value false h = rw (s.x, s.y) refl

nearest_least : {l u p n : Point} → IsNearestIn l u p n → (r : Fraction) → InClosedRectangle l u r
    → (gap (whole p) (whole n) *ℤ (r.w *ℤ r.w)) ≤ℤ gap (whole p) r
nearest_least {l} {u} {p} {n} s r h =
    subst (λ z. z ≤ℤ gap (whole p) r) (sym (add-mul_ℤ _ _ (r.w *ℤ r.w)))
    (sum_le (axis_least (nearest_x s) r.x r.w r.positive h.left h.right)
    (axis_least (nearest_y s) r.y r.w r.positive h.below h.above))
  where
    sum_le : {a b c d : ℤ} → a ≤ℤ b → c ≤ℤ d → (a +ℤ c) ≤ℤ (b +ℤ d)
    sum_le h i = omega (arith, ints)

-- the squared distance to the nearest point of a rectangle is the least to any of its points
pub nearest_distance : {l u p n : Point} (d : ℤ) → IsNearestIn l u p n → d ≡ gap (whole p) (whole n)
    → IsLeastDistance (InClosedRectangle l u) p d
nearest_distance {l} {u} {p} {n} d s e = record {
  nearest = whole n;
  in_shape = record {
    left = from_low (sorted_x l u s.sorted) (nearest_x s);
    right = to_high (sorted_x l u s.sorted) (nearest_x s);
    below = from_low (sorted_y l u s.sorted) (nearest_y s);
    above = to_high (sorted_y l u s.sorted) (nearest_y s);
  };
  far = once e;
  least = λ r h. subst (λ z. (z *ℤ (r.w *ℤ r.w)) ≤ℤ gap (whole p) r) (sym e) (nearest_least s r h);
}
  where
    once : {d g : ℤ} → d ≡ g → g ≡ d *ℤ (pos 1 *ℤ pos 1)
    once e = omega (arith, ints)

-- a number whose nearest from low to high is none away is from low to high
none_away : {low high a n : ℤ} → Nearest low high a n
    → ((n *ℤ pos 1 -ℤ a *ℤ pos 1) *ℤ (n *ℤ pos 1 -ℤ a *ℤ pos 1)) ≤ℤ pos 0
    → ((low *ℤ pos 1) ≤ℤ a) × (a ≤ℤ (high *ℤ pos 1))
none_away {low} {high} {a} {n} (raised h e) i = absurd (never _ (square-pos_ℤ (apart h e)) i)
  where
    apart : a <ℤ low → n ≡ low → ¬ (n *ℤ pos 1 -ℤ a *ℤ pos 1 ≡ pos 0)
    apart h e z = omega (arith, ints)

    never : (z : ℤ) → pos 0 <ℤ z → z ≤ℤ pos 0 → ⊥
    never z h i = omega (arith, ints)
none_away {low} {high} {a} {n} (lowered h e) i = absurd (never _ (square-pos_ℤ (apart h e)) i)
  where
    apart : high <ℤ a → n ≡ high → ¬ (n *ℤ pos 1 -ℤ a *ℤ pos 1 ≡ pos 0)
    apart h e z = omega (arith, ints)

    never : (z : ℤ) → pos 0 <ℤ z → z ≤ℤ pos 0 → ⊥
    never z h i = omega (arith, ints)
none_away {low} {high} {a} {n} (kept h j e) i = (once h, twice j)
  where
    once : low ≤ℤ a → (low *ℤ pos 1) ≤ℤ a
    once h = omega (arith, ints)

    twice : a ≤ℤ high → a ≤ℤ (high *ℤ pos 1)
    twice h = omega (arith, ints)

-- a point is in the rectangle exactly where its distance is at most 0
pub nearest_inside : {l u p n : Point} (d : ℤ) → IsNearestIn l u p n → d ≡ gap (whole p) (whole n)
    → (d ≤ℤ pos 0) ↔ InClosedRectangle l u (whole p)
nearest_inside {l} {u} {p} {n} d s e = (
  (λ h. let parts = split (square-nonneg_ℤ (n.x *ℤ pos 1 -ℤ p.x *ℤ pos 1))
      (square-nonneg_ℤ (n.y *ℤ pos 1 -ℤ p.y *ℤ pos 1)) (subst (λ z. z ≤ℤ pos 0) e h) in
      let x = none_away (nearest_x s) parts.0 in
      let y = none_away (nearest_y s) parts.1 in
      record { left = x.0; right = x.1; below = y.0; above = y.1 }),
  (λ h. at_itself (subst (λ z. (gap (whole p) (whole n) *ℤ (pos 1 *ℤ pos 1)) ≤ℤ z) (itself p)
      (nearest_least s (whole p) h)) e),
)
  where
    split : {a b : ℤ} → pos 0 ≤ℤ a → pos 0 ≤ℤ b → (a +ℤ b) ≤ℤ pos 0 → (a ≤ℤ pos 0) × (b ≤ℤ pos 0)
    split h i j = (omega (arith, ints), omega (arith, ints))

    itself : (p : Point) → gap (whole p) (whole p) ≡ pos 0
    itself p = ring_in (p.x ∷ p.y ∷ []) (λ x y. (x ⊗ num 1 ⊖ x ⊗ num 1) ⊗ (x ⊗ num 1 ⊖ x ⊗ num 1)
        ⊕ (y ⊗ num 1 ⊖ y ⊗ num 1) ⊗ (y ⊗ num 1 ⊖ y ⊗ num 1)) (λ x y. num 0) tt

    at_itself : {g d : ℤ} → (g *ℤ (pos 1 *ℤ pos 1)) ≤ℤ pos 0 → d ≡ g → d ≤ℤ pos 0
    at_itself h e = omega (arith, ints)
