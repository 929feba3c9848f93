-- A disk by the way to its centre: a side that it stays within, and one that it passes.
-- Lemmas: reach_of, told_of_side, side_passed, side_cleared, passes_left, passes_right,
-- passes_bottom, passes_top, holds_disk, lower_known, upper_known, left_passed, right_passed,
-- bottom_passed, told_by_top.
use Rattle.std.proofs.Common.{◌≡◌, ◌⊎◌, ◌∙◌, [], ◌∷◌, ap, sym, subst, arith, inl, inr}
use mathlib.Core.Path.{refl, subst₂}
use Rattle.std.specs.Prelude.{ℤ, pos, ◌+ℤ◌, ◌-ℤ◌, ◌*ℤ◌, ◌≤ℤ◌, ◌<ℤ◌, ◌↔◌}
use Rattle.std.specs.Prelude.{Bool, true, false, IsTrue, Option, Some, None, IsSomeAnd}
use Rattle.std.proofs.lemmas.Int.{ints}
use Rattle.plane.specs.{AreEquallyFar, Fraction, gap, IsCentre, IsNearer, Point, rise, run, turn_at}
use Rattle.plane.proofs.{◌⊕◌, ◌⊖◌, ◌⊗◌, at_most_if_not_less, lt_or_ge_ℤ, mul-le-mul_ℤ, mul-lt-mul_ℤ}
use Rattle.plane.proofs.{mul-nonneg_ℤ, mul-pos_ℤ, num, Poly, ring_in, same_have_no_difference}
use Rattle.plane.proofs.{Areas.side_by_area, square-nonneg_ℤ, zero-mul_ℤ}
use Rattle.plane.proofs.Centre.{gaps, lifted, over, overᵖ}
use Rattle.exact_predicates.specs.{Sides, TellsDisk}
use Rattle.{exact_predicates.specs.Angles.dot_at, plane.specs.TurnsLeft, plane.specs.whole}
use Rattle.exact_predicates.specs.Disks.{HoldsDisk, IsClear, level, PassesBottom, PassesLeft}
use Rattle.exact_predicates.specs.Disks.{PassesRight, PassesSome, PassesTop, TellsClear, upright}

-- a way to a side, by what was kept of both its parts
pub reach_of : (a a' i i' w : ℤ) → a' ≡ a → i' ≡ i → a' +ℤ i' *ℤ w ≡ a +ℤ i *ℤ w
reach_of a a' i i' w e d = ap (λ z. z +ℤ i' *ℤ w) e ∙ ap (λ z. a +ℤ z *ℤ w) d

-- what is said of a way to a side, of the side itself
pub told_of_side : (x y : ℤ) (reach : ℤ → ℤ) (side : Option ℤ) (at r : ℤ) (t : Bool)
    → side ≡ Some at → r ≡ reach at → IsTrue t ↔ IsClear x y r → TellsClear x y reach side t
told_of_side x y reach side at r t e same told = subst (λ o. TellsClear x y reach o t) (sym e)
    (subst (λ z. IsTrue t ↔ IsClear x y z) same told)

-- a side that is not cleared is there, and is not clear
pub side_passed : (x y : ℤ) (reach : ℤ → ℤ) (side : Option ℤ) (t : Bool)
    → TellsClear x y reach side t → t ≡ false → IsSomeAnd side (λ n. ¬ IsClear x y (reach n))
side_passed x y reach None t told e = grind (arith, e, told)
side_passed x y reach (Some n) t told e = λ k. grind (arith, e, told.1 k)

-- a side that is there and cleared is clear
pub side_cleared : (x y : ℤ) (reach : ℤ → ℤ) (side : Option ℤ) (t : Bool)
    → TellsClear x y reach side t → IsTrue t → (n : ℤ) → side ≡ Some n → IsClear x y (reach n)
side_cleared x y reach side t told h n e =
    (subst (λ o. TellsClear x y reach o t) e told).0 h

-- ---- the centre
-- twice the area times the way from u to the centre of the circle through u, v and p, twice
abbrev pub vector_x : Point → Point → Point → ℤ
vector_x u v p = (p.y -ℤ u.y) *ℤ dot_at u v v -ℤ (v.y -ℤ u.y) *ℤ dot_at u p p

abbrev pub vector_y : Point → Point → Point → ℤ
vector_y u v p = (v.x -ℤ u.x) *ℤ dot_at u p p -ℤ (p.x -ℤ u.x) *ℤ dot_at u v v

abbrev pub scale : Point → Point → Point → ℤ
scale u v p = pos 2 *ℤ turn_at u v p

abbrev squareᵖ : Poly → Poly → Poly
squareᵖ x y = x ⊗ x ⊕ y ⊗ y

abbrev scaleᵖ : Poly → Poly → Poly → Poly → Poly → Poly → Poly
scaleᵖ a b c d e f = num 2 ⊗ ((c ⊖ a) ⊗ (f ⊖ b) ⊖ (d ⊖ b) ⊗ (e ⊖ a))

abbrev placeᵖ_x : Poly → Poly → Poly → Poly → Poly → Poly → Poly
placeᵖ_x a b c d e f = a ⊗ scaleᵖ a b c d e f
    ⊕ ((f ⊖ b) ⊗ squareᵖ (c ⊖ a) (d ⊖ b) ⊖ (d ⊖ b) ⊗ squareᵖ (e ⊖ a) (f ⊖ b))

abbrev placeᵖ_y : Poly → Poly → Poly → Poly → Poly → Poly → Poly
placeᵖ_y a b c d e f = b ⊗ scaleᵖ a b c d e f
    ⊕ ((c ⊖ a) ⊗ squareᵖ (e ⊖ a) (f ⊖ b) ⊖ (e ⊖ a) ⊗ squareᵖ (c ⊖ a) (d ⊖ b))

-- the centre is on the line of points that are equally far from u and v
first_line : (u v p : Point) → over u.x v.x *ℤ (u.x *ℤ scale u v p +ℤ vector_x u v p)
    +ℤ over u.y v.y *ℤ (u.y *ℤ scale u v p +ℤ vector_y u v p) ≡ lifted u v *ℤ scale u v p
first_line u v p = ring_in (u.x ∷ u.y ∷ v.x ∷ v.y ∷ p.x ∷ p.y ∷ [])
    (λ a b c d e f. overᵖ a c ⊗ placeᵖ_x a b c d e f ⊕ overᵖ b d ⊗ placeᵖ_y a b c d e f)
    (λ a b c d e f. (c ⊗ c ⊕ d ⊗ d ⊖ (a ⊗ a ⊕ b ⊗ b)) ⊗ scaleᵖ a b c d e f) tt

-- and on that of v and p
second_line : (u v p : Point) → over v.x p.x *ℤ (u.x *ℤ scale u v p +ℤ vector_x u v p)
    +ℤ over v.y p.y *ℤ (u.y *ℤ scale u v p +ℤ vector_y u v p) ≡ lifted v p *ℤ scale u v p
second_line u v p = ring_in (u.x ∷ u.y ∷ v.x ∷ v.y ∷ p.x ∷ p.y ∷ [])
    (λ a b c d e f. overᵖ c e ⊗ placeᵖ_x a b c d e f ⊕ overᵖ d f ⊗ placeᵖ_y a b c d e f)
    (λ a b c d e f. (e ⊗ e ⊕ f ⊗ f ⊖ (c ⊗ c ⊕ d ⊗ d)) ⊗ scaleᵖ a b c d e f) tt

none_apart : (a b d : ℤ) → a -ℤ b ≡ d → d ≡ pos 0 → a ≡ b
none_apart a b d e h = omega (arith, ints)

far_if_line : (z : Fraction) (u p : Point) → over u.x p.x *ℤ z.x +ℤ over u.y p.y *ℤ z.y
    ≡ lifted u p *ℤ z.w → AreEquallyFar z (whole u) (whole p)
far_if_line z u p e =
    let a = gap z (whole u) *ℤ (pos 1 *ℤ pos 1) in
    let b = gap z (whole p) *ℤ (pos 1 *ℤ pos 1) in
    let l = over u.x p.x *ℤ z.x +ℤ over u.y p.y *ℤ z.y in
    let r = lifted u p *ℤ z.w in
    record {
      far = none_apart a b (z.w *ℤ (l -ℤ r)) (gaps z u p)
          (zero-mul_ℤ z.w (same_have_no_difference l r e));
    }

-- the point at a way from u
abbrev pub at_vector : Point → (x y w : ℤ) → pos 0 <ℤ w → Fraction
at_vector u x y w h = record { x = u.x *ℤ w +ℤ x; y = u.y *ℤ w +ℤ y; w = w; positive = h }

-- ---- sides
decided : (x y r : ℤ) → ¬ IsClear x y r → (r <ℤ pos 0) ⊎ ((r *ℤ r) <ℤ (x *ℤ x +ℤ y *ℤ y))
decided x y r h = elim (lt_or_ge_ℤ r (pos 0)) [
  | inl below ↦ inl below
  | inr above ↦ elim (lt_or_ge_ℤ (r *ℤ r) (x *ℤ x +ℤ y *ℤ y)) [
    | inl short ↦ inr short
    | inr long ↦ absurd (h (above, long))
  ]
]

-- beyond a side that is clear nothing is as near as the circle
out_of_reach : (a b s g : ℤ) → pos 0 ≤ℤ a → pos 0 <ℤ b
    → ((a +ℤ b) *ℤ (a +ℤ b) +ℤ s *ℤ s) ≤ℤ g → g ≤ℤ (a *ℤ a) → ⊥
out_of_reach a b s g h k l m =
    let e : (a +ℤ b) *ℤ (a +ℤ b) ≡ a *ℤ a +ℤ (b *ℤ b +ℤ (a *ℤ b +ℤ a *ℤ b)) =
    ring_in (a ∷ b ∷ []) (λ a b. (a ⊕ b) ⊗ (a ⊕ b)) (λ a b. a ⊗ a ⊕ (b ⊗ b ⊕ (a ⊗ b ⊕ a ⊗ b))) tt
    in contradicted ((a +ℤ b) *ℤ (a +ℤ b)) (a *ℤ a) (b *ℤ b) (a *ℤ b) (s *ℤ s) g e
    (mul-pos_ℤ {a = b} {b = b} k k) (mul-nonneg_ℤ {a = a} {b = b} h (not_negative b k))
    (square-nonneg_ℤ s) l m
  where
    not_negative : (z : ℤ) → pos 0 <ℤ z → pos 0 ≤ℤ z
    not_negative z h = omega (arith, ints)

    contradicted : (t aa bb ab ss g : ℤ) → t ≡ aa +ℤ (bb +ℤ (ab +ℤ ab)) → pos 0 <ℤ bb → pos 0 ≤ℤ ab
        → pos 0 ≤ℤ ss → (t +ℤ ss) ≤ℤ g → g ≤ℤ aa → ⊥
    contradicted t aa bb ab ss g e h k l m n = omega (arith, ints)

less_of : (a b r : ℤ) → r ≡ a -ℤ b → r <ℤ pos 0 → a <ℤ b
less_of a b r e h = omega (arith, ints)

positive_vector : (a b : ℤ) → a <ℤ b → pos 0 <ℤ (b -ℤ a)
positive_vector a b h = omega (arith, ints)

not_negative : (z : ℤ) → pos 0 <ℤ z → pos 0 ≤ℤ z
not_negative z h = omega (arith, ints)

squared_product : (a b : ℤ) → (a *ℤ a) *ℤ (b *ℤ b) ≡ (a *ℤ b) *ℤ (a *ℤ b)
squared_product a b =
    ring_in (a ∷ b ∷ []) (λ a b. (a ⊗ a) ⊗ (b ⊗ b)) (λ a b. (a ⊗ b) ⊗ (a ⊗ b)) tt

-- the squared radius
radius : (u : Point) (x y w : ℤ) (h : pos 0 <ℤ w) → gap (at_vector u x y w h) (whole u) *ℤ (w *ℤ w)
    ≡ (w *ℤ w) *ℤ (x *ℤ x +ℤ y *ℤ y)
radius u x y w h = ring_in (u.x ∷ u.y ∷ x ∷ y ∷ w ∷ [])
    (λ a b x y w. squareᵖ (a ⊗ w ⊖ (a ⊗ w ⊕ x) ⊗ num 1) (b ⊗ w ⊖ (b ⊗ w ⊕ y) ⊗ num 1) ⊗ (w ⊗ w))
    (λ a b x y w. (w ⊗ w) ⊗ (x ⊗ x ⊕ y ⊗ y)) tt

radius_of : (u : Point) (x y w k : ℤ) (h : pos 0 <ℤ w)
    → gap (at_vector u x y w h) (whole u) *ℤ (k *ℤ k) ≡ (k *ℤ k) *ℤ (x *ℤ x +ℤ y *ℤ y)
radius_of u x y w k h = ring_in (u.x ∷ u.y ∷ x ∷ y ∷ w ∷ k ∷ [])
    (λ a b x y w k. squareᵖ (a ⊗ w ⊖ (a ⊗ w ⊕ x) ⊗ num 1) (b ⊗ w ⊖ (b ⊗ w ⊕ y) ⊗ num 1) ⊗ (k ⊗ k))
    (λ a b x y w k. (k ⊗ k) ⊗ (x ⊗ x ⊕ y ⊗ y)) tt

-- what is not farther than the circle
as_near : (u : Point) (x y w : ℤ) (h : pos 0 <ℤ w) (q : Fraction)
    → ¬ IsNearer (at_vector u x y w h) (whole u) q
    → (gap (at_vector u x y w h) q *ℤ (pos 1 *ℤ pos 1)) ≤ℤ ((q.w *ℤ q.w) *ℤ (x *ℤ x +ℤ y *ℤ y))
as_near u x y w h q far = subst (λ z. (gap (at_vector u x y w h) q *ℤ (pos 1 *ℤ pos 1)) ≤ℤ z)
    (radius_of u x y w q.w h) (at_most_if_not_less (gap (at_vector u x y w h) (whole u) *ℤ
    (q.w *ℤ q.w))
    (gap (at_vector u x y w h) q *ℤ (pos 1 *ℤ pos 1)) (λ k. far (record { nearer = k })))

-- ---- the side left
abbrev pub reach_left : Point → (x y w n : ℤ) → ℤ
reach_left u x y w n = x +ℤ (u.x -ℤ n) *ℤ w

left_far : (u : Point) (x y w n : ℤ) → reach_left u x y w n ≡ (u.x *ℤ w +ℤ x) -ℤ n *ℤ w
left_far u x y w n = ring_in (u.x ∷ u.y ∷ x ∷ y ∷ w ∷ n ∷ [])
    (λ a b x y w n. x ⊕ (a ⊖ n) ⊗ w) (λ a b x y w n. (a ⊗ w ⊕ x) ⊖ n ⊗ w) tt

left_foot : (u : Point) (x y w n : ℤ) (h : pos 0 <ℤ w)
    → gap (at_vector u x y w h) (upright (at_vector u x y w h) n) *ℤ (pos 1 *ℤ pos 1)
    ≡ (w *ℤ w) *ℤ (reach_left u x y w n *ℤ reach_left u x y w n)
left_foot u x y w n h = ring_in (u.x ∷ u.y ∷ x ∷ y ∷ w ∷ n ∷ [])
    (λ a b x y w n. squareᵖ ((n ⊗ w) ⊗ w ⊖ (a ⊗ w ⊕ x) ⊗ w) ((b ⊗ w ⊕ y) ⊗ w ⊖ (b ⊗ w ⊕ y) ⊗ w) ⊗ (num 1 ⊗ num 1))
    (λ a b x y w n. (w ⊗ w) ⊗ ((x ⊕ (a ⊖ n) ⊗ w) ⊗ (x ⊕ (a ⊖ n) ⊗ w))) tt

pub passes_left : (u : Point) (x y w n : ℤ) (h : pos 0 <ℤ w)
    → ¬ IsClear x y (reach_left u x y w n) → PassesLeft (at_vector u x y w h) u n
passes_left u x y w n h not_clear = let r = reach_left u x y w n in
    elim (decided x y r not_clear) [
      | inl below ↦ inl (less_of (u.x *ℤ w +ℤ x) (n *ℤ w) r (left_far u x y w n) below)
      | inr short ↦ inr (record {
        nearer = subst₂ (λ (s t : ℤ). s <ℤ t) (sym (left_foot u x y w n h))
            (sym (radius u x y w h))
            (mul-lt-mul_ℤ {k = w *ℤ w} (mul-pos_ℤ {a = w} {b = w} h h) short);
      })
    ]

left_gap : (u : Point) (x y w n : ℤ) (h : pos 0 <ℤ w) (q : Fraction)
    → gap (at_vector u x y w h) q *ℤ (pos 1 *ℤ pos 1)
    ≡ (q.w *ℤ reach_left u x y w n +ℤ w *ℤ (n *ℤ q.w -ℤ q.x))
    *ℤ (q.w *ℤ reach_left u x y w n +ℤ w *ℤ (n *ℤ q.w -ℤ q.x))
    +ℤ rise (at_vector u x y w h) q *ℤ rise (at_vector u x y w h) q
left_gap u x y w n h q = ring_in (u.x ∷ u.y ∷ x ∷ y ∷ w ∷ n ∷ q.x ∷ q.y ∷ q.w ∷ [])
    (λ a b x y w n k l m. squareᵖ (k ⊗ w ⊖ (a ⊗ w ⊕ x) ⊗ m) (l ⊗ w ⊖ (b ⊗ w ⊕ y) ⊗ m) ⊗ (num 1 ⊗ num 1))
    (λ a b x y w n k l m. (m ⊗ (x ⊕ (a ⊖ n) ⊗ w) ⊕ w ⊗ (n ⊗ m ⊖ k)) ⊗ (m ⊗ (x ⊕ (a ⊖ n) ⊗ w) ⊕ w ⊗ (n ⊗ m ⊖ k))
    ⊕ (l ⊗ w ⊖ (b ⊗ w ⊕ y) ⊗ m) ⊗ (l ⊗ w ⊖ (b ⊗ w ⊕ y) ⊗ m)) tt

within_left : (u : Point) (x y w n : ℤ) (h : pos 0 <ℤ w)
    → IsClear x y (reach_left u x y w n) → (q : Fraction)
    → ¬ IsNearer (at_vector u x y w h) (whole u) q → (n *ℤ q.w) ≤ℤ q.x
within_left u x y w n h clear q far = let r = reach_left u x y w n in
    elim (lt_or_ge_ℤ (q.x) (n *ℤ q.w)) [
      | inl beyond ↦ absurd (out_of_reach (q.w *ℤ r) (w *ℤ (n *ℤ q.w -ℤ q.x))
          (rise (at_vector u x y w h) q) ((q.w *ℤ q.w) *ℤ (x *ℤ x +ℤ y *ℤ y))
          (mul-nonneg_ℤ {a = q.w} {b = r} (not_negative q.w q.positive) clear.0)
          (mul-pos_ℤ {a = w} {b = n *ℤ q.w -ℤ q.x} h (positive_vector (q.x) (n *ℤ q.w) beyond))
          (subst (λ z. z ≤ℤ ((q.w *ℤ q.w) *ℤ (x *ℤ x +ℤ y *ℤ y))) (left_gap u x y w n h q)
          (as_near u x y w h q far))
          (subst (λ z. ((q.w *ℤ q.w) *ℤ (x *ℤ x +ℤ y *ℤ y)) ≤ℤ z) (squared_product q.w r)
          (mul-le-mul_ℤ {k = q.w *ℤ q.w} (square-nonneg_ℤ q.w) clear.1)))
      | inr inside ↦ inside
    ]

-- ---- the side right
abbrev pub reach_right : Point → (x y w n : ℤ) → ℤ
reach_right u x y w n = (pos 0 -ℤ x) +ℤ (n -ℤ u.x) *ℤ w

right_far : (u : Point) (x y w n : ℤ) → reach_right u x y w n ≡ n *ℤ w -ℤ (u.x *ℤ w +ℤ x)
right_far u x y w n = ring_in (u.x ∷ u.y ∷ x ∷ y ∷ w ∷ n ∷ [])
    (λ a b x y w n. (num 0 ⊖ x) ⊕ (n ⊖ a) ⊗ w) (λ a b x y w n. n ⊗ w ⊖ (a ⊗ w ⊕ x)) tt

right_foot : (u : Point) (x y w n : ℤ) (h : pos 0 <ℤ w)
    → gap (at_vector u x y w h) (upright (at_vector u x y w h) n) *ℤ (pos 1 *ℤ pos 1)
    ≡ (w *ℤ w) *ℤ (reach_right u x y w n *ℤ reach_right u x y w n)
right_foot u x y w n h = ring_in (u.x ∷ u.y ∷ x ∷ y ∷ w ∷ n ∷ [])
    (λ a b x y w n. squareᵖ ((n ⊗ w) ⊗ w ⊖ (a ⊗ w ⊕ x) ⊗ w) ((b ⊗ w ⊕ y) ⊗ w ⊖ (b ⊗ w ⊕ y) ⊗ w) ⊗ (num 1 ⊗ num 1))
    (λ a b x y w n. (w ⊗ w) ⊗ (((num 0 ⊖ x) ⊕ (n ⊖ a) ⊗ w) ⊗ ((num 0 ⊖ x) ⊕ (n ⊖ a) ⊗ w))) tt

pub passes_right : (u : Point) (x y w n : ℤ) (h : pos 0 <ℤ w)
    → ¬ IsClear x y (reach_right u x y w n) → PassesRight (at_vector u x y w h) u n
passes_right u x y w n h not_clear = let r = reach_right u x y w n in
    elim (decided x y r not_clear) [
      | inl below ↦ inl (less_of (n *ℤ w) (u.x *ℤ w +ℤ x) r (right_far u x y w n) below)
      | inr short ↦ inr (record {
        nearer = subst₂ (λ (s t : ℤ). s <ℤ t) (sym (right_foot u x y w n h))
            (sym (radius u x y w h))
            (mul-lt-mul_ℤ {k = w *ℤ w} (mul-pos_ℤ {a = w} {b = w} h h) short);
      })
    ]

right_gap : (u : Point) (x y w n : ℤ) (h : pos 0 <ℤ w) (q : Fraction)
    → gap (at_vector u x y w h) q *ℤ (pos 1 *ℤ pos 1)
    ≡ (q.w *ℤ reach_right u x y w n +ℤ w *ℤ (q.x -ℤ n *ℤ q.w))
    *ℤ (q.w *ℤ reach_right u x y w n +ℤ w *ℤ (q.x -ℤ n *ℤ q.w))
    +ℤ rise (at_vector u x y w h) q *ℤ rise (at_vector u x y w h) q
right_gap u x y w n h q = ring_in (u.x ∷ u.y ∷ x ∷ y ∷ w ∷ n ∷ q.x ∷ q.y ∷ q.w ∷ [])
    (λ a b x y w n k l m. squareᵖ (k ⊗ w ⊖ (a ⊗ w ⊕ x) ⊗ m) (l ⊗ w ⊖ (b ⊗ w ⊕ y) ⊗ m) ⊗ (num 1 ⊗ num 1))
    (λ a b x y w n k l m. (m ⊗ ((num 0 ⊖ x) ⊕ (n ⊖ a) ⊗ w) ⊕ w ⊗ (k ⊖ n ⊗ m)) ⊗ (m ⊗ ((num 0 ⊖ x) ⊕ (n ⊖ a) ⊗ w) ⊕ w ⊗ (k ⊖ n ⊗ m))
    ⊕ (l ⊗ w ⊖ (b ⊗ w ⊕ y) ⊗ m) ⊗ (l ⊗ w ⊖ (b ⊗ w ⊕ y) ⊗ m)) tt

within_right : (u : Point) (x y w n : ℤ) (h : pos 0 <ℤ w)
    → IsClear x y (reach_right u x y w n) → (q : Fraction)
    → ¬ IsNearer (at_vector u x y w h) (whole u) q → q.x ≤ℤ (n *ℤ q.w)
within_right u x y w n h clear q far = let r = reach_right u x y w n in
    elim (lt_or_ge_ℤ (n *ℤ q.w) (q.x)) [
      | inl beyond ↦ absurd (out_of_reach (q.w *ℤ r) (w *ℤ (q.x -ℤ n *ℤ q.w))
          (rise (at_vector u x y w h) q) ((q.w *ℤ q.w) *ℤ (x *ℤ x +ℤ y *ℤ y))
          (mul-nonneg_ℤ {a = q.w} {b = r} (not_negative q.w q.positive) clear.0)
          (mul-pos_ℤ {a = w} {b = q.x -ℤ n *ℤ q.w} h (positive_vector (n *ℤ q.w) (q.x) beyond))
          (subst (λ z. z ≤ℤ ((q.w *ℤ q.w) *ℤ (x *ℤ x +ℤ y *ℤ y))) (right_gap u x y w n h q)
          (as_near u x y w h q far))
          (subst (λ z. ((q.w *ℤ q.w) *ℤ (x *ℤ x +ℤ y *ℤ y)) ≤ℤ z) (squared_product q.w r)
          (mul-le-mul_ℤ {k = q.w *ℤ q.w} (square-nonneg_ℤ q.w) clear.1)))
      | inr inside ↦ inside
    ]

-- ---- the side bottom
abbrev pub reach_bottom : Point → (x y w n : ℤ) → ℤ
reach_bottom u x y w n = y +ℤ (u.y -ℤ n) *ℤ w

bottom_far : (u : Point) (x y w n : ℤ) → reach_bottom u x y w n ≡ (u.y *ℤ w +ℤ y) -ℤ n *ℤ w
bottom_far u x y w n = ring_in (u.x ∷ u.y ∷ x ∷ y ∷ w ∷ n ∷ [])
    (λ a b x y w n. y ⊕ (b ⊖ n) ⊗ w) (λ a b x y w n. (b ⊗ w ⊕ y) ⊖ n ⊗ w) tt

bottom_foot : (u : Point) (x y w n : ℤ) (h : pos 0 <ℤ w)
    → gap (at_vector u x y w h) (level (at_vector u x y w h) n) *ℤ (pos 1 *ℤ pos 1)
    ≡ (w *ℤ w) *ℤ (reach_bottom u x y w n *ℤ reach_bottom u x y w n)
bottom_foot u x y w n h = ring_in (u.x ∷ u.y ∷ x ∷ y ∷ w ∷ n ∷ [])
    (λ a b x y w n. squareᵖ ((a ⊗ w ⊕ x) ⊗ w ⊖ (a ⊗ w ⊕ x) ⊗ w) ((n ⊗ w) ⊗ w ⊖ (b ⊗ w ⊕ y) ⊗ w) ⊗ (num 1 ⊗ num 1))
    (λ a b x y w n. (w ⊗ w) ⊗ ((y ⊕ (b ⊖ n) ⊗ w) ⊗ (y ⊕ (b ⊖ n) ⊗ w))) tt

pub passes_bottom : (u : Point) (x y w n : ℤ) (h : pos 0 <ℤ w)
    → ¬ IsClear x y (reach_bottom u x y w n) → PassesBottom (at_vector u x y w h) u n
passes_bottom u x y w n h not_clear = let r = reach_bottom u x y w n in
    elim (decided x y r not_clear) [
      | inl below ↦ inl (less_of (u.y *ℤ w +ℤ y) (n *ℤ w) r (bottom_far u x y w n) below)
      | inr short ↦ inr (record {
        nearer = subst₂ (λ (s t : ℤ). s <ℤ t) (sym (bottom_foot u x y w n h))
            (sym (radius u x y w h))
            (mul-lt-mul_ℤ {k = w *ℤ w} (mul-pos_ℤ {a = w} {b = w} h h) short);
      })
    ]

bottom_gap : (u : Point) (x y w n : ℤ) (h : pos 0 <ℤ w) (q : Fraction)
    → gap (at_vector u x y w h) q *ℤ (pos 1 *ℤ pos 1)
    ≡ (q.w *ℤ reach_bottom u x y w n +ℤ w *ℤ (n *ℤ q.w -ℤ q.y))
    *ℤ (q.w *ℤ reach_bottom u x y w n +ℤ w *ℤ (n *ℤ q.w -ℤ q.y))
    +ℤ run (at_vector u x y w h) q *ℤ run (at_vector u x y w h) q
bottom_gap u x y w n h q = ring_in (u.x ∷ u.y ∷ x ∷ y ∷ w ∷ n ∷ q.x ∷ q.y ∷ q.w ∷ [])
    (λ a b x y w n k l m. squareᵖ (k ⊗ w ⊖ (a ⊗ w ⊕ x) ⊗ m) (l ⊗ w ⊖ (b ⊗ w ⊕ y) ⊗ m) ⊗ (num 1 ⊗ num 1))
    (λ a b x y w n k l m. (m ⊗ (y ⊕ (b ⊖ n) ⊗ w) ⊕ w ⊗ (n ⊗ m ⊖ l)) ⊗ (m ⊗ (y ⊕ (b ⊖ n) ⊗ w) ⊕ w ⊗ (n ⊗ m ⊖ l))
    ⊕ (k ⊗ w ⊖ (a ⊗ w ⊕ x) ⊗ m) ⊗ (k ⊗ w ⊖ (a ⊗ w ⊕ x) ⊗ m)) tt

within_bottom : (u : Point) (x y w n : ℤ) (h : pos 0 <ℤ w)
    → IsClear x y (reach_bottom u x y w n) → (q : Fraction)
    → ¬ IsNearer (at_vector u x y w h) (whole u) q → (n *ℤ q.w) ≤ℤ q.y
within_bottom u x y w n h clear q far = let r = reach_bottom u x y w n in
    elim (lt_or_ge_ℤ (q.y) (n *ℤ q.w)) [
      | inl beyond ↦ absurd (out_of_reach (q.w *ℤ r) (w *ℤ (n *ℤ q.w -ℤ q.y))
          (run (at_vector u x y w h) q) ((q.w *ℤ q.w) *ℤ (x *ℤ x +ℤ y *ℤ y))
          (mul-nonneg_ℤ {a = q.w} {b = r} (not_negative q.w q.positive) clear.0)
          (mul-pos_ℤ {a = w} {b = n *ℤ q.w -ℤ q.y} h (positive_vector (q.y) (n *ℤ q.w) beyond))
          (subst (λ z. z ≤ℤ ((q.w *ℤ q.w) *ℤ (x *ℤ x +ℤ y *ℤ y))) (bottom_gap u x y w n h q)
          (as_near u x y w h q far))
          (subst (λ z. ((q.w *ℤ q.w) *ℤ (x *ℤ x +ℤ y *ℤ y)) ≤ℤ z) (squared_product q.w r)
          (mul-le-mul_ℤ {k = q.w *ℤ q.w} (square-nonneg_ℤ q.w) clear.1)))
      | inr inside ↦ inside
    ]

-- ---- the side top
abbrev pub reach_top : Point → (x y w n : ℤ) → ℤ
reach_top u x y w n = (pos 0 -ℤ y) +ℤ (n -ℤ u.y) *ℤ w

top_far : (u : Point) (x y w n : ℤ) → reach_top u x y w n ≡ n *ℤ w -ℤ (u.y *ℤ w +ℤ y)
top_far u x y w n = ring_in (u.x ∷ u.y ∷ x ∷ y ∷ w ∷ n ∷ [])
    (λ a b x y w n. (num 0 ⊖ y) ⊕ (n ⊖ b) ⊗ w) (λ a b x y w n. n ⊗ w ⊖ (b ⊗ w ⊕ y)) tt

top_foot : (u : Point) (x y w n : ℤ) (h : pos 0 <ℤ w)
    → gap (at_vector u x y w h) (level (at_vector u x y w h) n) *ℤ (pos 1 *ℤ pos 1)
    ≡ (w *ℤ w) *ℤ (reach_top u x y w n *ℤ reach_top u x y w n)
top_foot u x y w n h = ring_in (u.x ∷ u.y ∷ x ∷ y ∷ w ∷ n ∷ [])
    (λ a b x y w n. squareᵖ ((a ⊗ w ⊕ x) ⊗ w ⊖ (a ⊗ w ⊕ x) ⊗ w) ((n ⊗ w) ⊗ w ⊖ (b ⊗ w ⊕ y) ⊗ w) ⊗ (num 1 ⊗ num 1))
    (λ a b x y w n. (w ⊗ w) ⊗ (((num 0 ⊖ y) ⊕ (n ⊖ b) ⊗ w) ⊗ ((num 0 ⊖ y) ⊕ (n ⊖ b) ⊗ w))) tt

pub passes_top : (u : Point) (x y w n : ℤ) (h : pos 0 <ℤ w)
    → ¬ IsClear x y (reach_top u x y w n) → PassesTop (at_vector u x y w h) u n
passes_top u x y w n h not_clear = let r = reach_top u x y w n in
    elim (decided x y r not_clear) [
      | inl below ↦ inl (less_of (n *ℤ w) (u.y *ℤ w +ℤ y) r (top_far u x y w n) below)
      | inr short ↦ inr (record {
        nearer = subst₂ (λ (s t : ℤ). s <ℤ t) (sym (top_foot u x y w n h))
            (sym (radius u x y w h))
            (mul-lt-mul_ℤ {k = w *ℤ w} (mul-pos_ℤ {a = w} {b = w} h h) short);
      })
    ]

top_gap : (u : Point) (x y w n : ℤ) (h : pos 0 <ℤ w) (q : Fraction)
    → gap (at_vector u x y w h) q *ℤ (pos 1 *ℤ pos 1)
    ≡ (q.w *ℤ reach_top u x y w n +ℤ w *ℤ (q.y -ℤ n *ℤ q.w))
    *ℤ (q.w *ℤ reach_top u x y w n +ℤ w *ℤ (q.y -ℤ n *ℤ q.w))
    +ℤ run (at_vector u x y w h) q *ℤ run (at_vector u x y w h) q
top_gap u x y w n h q = ring_in (u.x ∷ u.y ∷ x ∷ y ∷ w ∷ n ∷ q.x ∷ q.y ∷ q.w ∷ [])
    (λ a b x y w n k l m. squareᵖ (k ⊗ w ⊖ (a ⊗ w ⊕ x) ⊗ m) (l ⊗ w ⊖ (b ⊗ w ⊕ y) ⊗ m) ⊗ (num 1 ⊗ num 1))
    (λ a b x y w n k l m. (m ⊗ ((num 0 ⊖ y) ⊕ (n ⊖ b) ⊗ w) ⊕ w ⊗ (l ⊖ n ⊗ m)) ⊗ (m ⊗ ((num 0 ⊖ y) ⊕ (n ⊖ b) ⊗ w) ⊕ w ⊗ (l ⊖ n ⊗ m))
    ⊕ (k ⊗ w ⊖ (a ⊗ w ⊕ x) ⊗ m) ⊗ (k ⊗ w ⊖ (a ⊗ w ⊕ x) ⊗ m)) tt

within_top : (u : Point) (x y w n : ℤ) (h : pos 0 <ℤ w)
    → IsClear x y (reach_top u x y w n) → (q : Fraction)
    → ¬ IsNearer (at_vector u x y w h) (whole u) q → q.y ≤ℤ (n *ℤ q.w)
within_top u x y w n h clear q far = let r = reach_top u x y w n in
    elim (lt_or_ge_ℤ (n *ℤ q.w) (q.y)) [
      | inl beyond ↦ absurd (out_of_reach (q.w *ℤ r) (w *ℤ (q.y -ℤ n *ℤ q.w))
          (run (at_vector u x y w h) q) ((q.w *ℤ q.w) *ℤ (x *ℤ x +ℤ y *ℤ y))
          (mul-nonneg_ℤ {a = q.w} {b = r} (not_negative q.w q.positive) clear.0)
          (mul-pos_ℤ {a = w} {b = q.y -ℤ n *ℤ q.w} h (positive_vector (n *ℤ q.w) (q.y) beyond))
          (subst (λ z. z ≤ℤ ((q.w *ℤ q.w) *ℤ (x *ℤ x +ℤ y *ℤ y))) (top_gap u x y w n h q)
          (as_near u x y w h q far))
          (subst (λ z. ((q.w *ℤ q.w) *ℤ (x *ℤ x +ℤ y *ℤ y)) ≤ℤ z) (squared_product q.w r)
          (mul-le-mul_ℤ {k = q.w *ℤ q.w} (square-nonneg_ℤ q.w) clear.1)))
      | inr inside ↦ inside
    ]

-- ---- a whole disk
-- a disk that is clear of all sides is held
pub holds_disk : (s : Sides) (u : Point) (x y w : ℤ) (h : pos 0 <ℤ w)
    → ((n : ℤ) → s.left ≡ Some n → IsClear x y (reach_left u x y w n))
    → ((n : ℤ) → s.right ≡ Some n → IsClear x y (reach_right u x y w n))
    → ((n : ℤ) → s.bottom ≡ Some n → IsClear x y (reach_bottom u x y w n))
    → ((n : ℤ) → s.top ≡ Some n → IsClear x y (reach_top u x y w n))
    → HoldsDisk s (at_vector u x y w h) u
holds_disk s u x y w h left right bottom top q far = record {
  left = λ n e. within_left u x y w n h (left n e) q far;
  right = λ n e. within_right u x y w n h (right n e) q far;
  bottom = λ n e. within_bottom u x y w n h (bottom n e) q far;
  top = λ n e. within_top u x y w n h (top n e) q far;
}

some_and : {P Q : ℤ → Type 0} (side : Option ℤ) → ((n : ℤ) → P n → Q n) → IsSomeAnd side P
    → IsSomeAnd side Q
some_and None f h = h
some_and (Some n) f h = f n h

twice_positive : (z : ℤ) → pos 0 <ℤ z → pos 0 <ℤ (pos 2 *ℤ z)
twice_positive z h = omega (arith, ints)

-- what is said of a side by numbers that were kept, of the numbers themselves
pub lower_known : (x y along along' a a' w : ℤ) (side : Option ℤ) (t : Bool) → along' ≡ along
    → a' ≡ a → TellsClear x y (λ n. along' +ℤ (a' -ℤ n) *ℤ w) side t
    → TellsClear x y (λ n. along +ℤ (a -ℤ n) *ℤ w) side t
lower_known x y along along' a a' w side t e d told =
    subst₂ (λ (k l : ℤ). TellsClear x y (λ n. k +ℤ (l -ℤ n) *ℤ w) side t) e d told

pub upper_known : (x y along along' a a' w : ℤ) (side : Option ℤ) (t : Bool) → along' ≡ along
    → a' ≡ a → TellsClear x y (λ n. along' +ℤ (n -ℤ a') *ℤ w) side t
    → TellsClear x y (λ n. along +ℤ (n -ℤ a) *ℤ w) side t
upper_known x y along along' a a' w side t e d told =
    subst₂ (λ (k l : ℤ). TellsClear x y (λ n. k +ℤ (n -ℤ l) *ℤ w) side t) e d told

module _ (s : Sides) (u v p : Point) (turns : TurnsLeft (whole u) (whole v) (whole p))
    (x y w : ℤ) (is_x : x ≡ vector_x u v p) (is_y : y ≡ vector_y u v p) (is_w : w ≡ scale u v p)
  where
    positive : pos 0 <ℤ w
    positive = subst (λ z. pos 0 <ℤ z) (sym is_w)
        (twice_positive (turn_at u v p) ((side_by_area u v p).0.0 turns))

    is_centre : IsCentre (whole u) (whole v) (whole p) (at_vector u x y w positive)
    is_centre = record {
      first = far_if_line (at_vector u x y w positive) u v (rw (is_x, is_y, is_w) (first_line u v p));
      second = far_if_line (at_vector u x y w positive) v p
          (rw (is_x, is_y, is_w) (second_line u v p));
    }

    passed : PassesSome s (at_vector u x y w positive) u → TellsDisk s u v p false
    passed some = record {
      centre = at_vector u x y w positive;
      is_centre = is_centre;
      told = inr (refl, some);
    }

    pub left_passed : (t : Bool) → TellsClear x y (reach_left u x y w) s.left t → t ≡ false
        → TellsDisk s u v p false
    left_passed t told e = passed (inl (inl (some_and s.left
        (λ n h. passes_left u x y w n positive h) (side_passed x y (reach_left u x y w) s.left t told
        e))))

    pub right_passed : (t : Bool) → TellsClear x y (reach_right u x y w) s.right t → t ≡ false
        → TellsDisk s u v p false
    right_passed t told e = passed (inl (inr (some_and s.right
        (λ n h. passes_right u x y w n positive h) (side_passed x y (reach_right u x y w) s.right t
        told e))))

    pub bottom_passed : (t : Bool) → TellsClear x y (reach_bottom u x y w) s.bottom t → t ≡ false
        → TellsDisk s u v p false
    bottom_passed t told e = passed (inr (inl (some_and s.bottom
        (λ n h. passes_bottom u x y w n positive h) (side_passed x y (reach_bottom u x y w) s.bottom t
        told e))))

    top_passed : (t : Bool) → TellsClear x y (reach_top u x y w) s.top t → t ≡ false
        → TellsDisk s u v p false
    top_passed t told e = passed (inr (inr (some_and s.top
        (λ n h. passes_top u x y w n positive h) (side_passed x y (reach_top u x y w) s.top t told
        e))))

    -- all sides but the top one are clear, and that is told
    pub told_by_top : (l r b t : Bool) → TellsClear x y (reach_left u x y w) s.left l → IsTrue l
        → TellsClear x y (reach_right u x y w) s.right r → IsTrue r
        → TellsClear x y (reach_bottom u x y w) s.bottom b → IsTrue b
        → TellsClear x y (reach_top u x y w) s.top t → TellsDisk s u v p t
    told_by_top l r b false left is_left right is_right bottom is_bottom top =
        top_passed false top refl
    told_by_top l r b true left is_left right is_right bottom is_bottom top = record {
      centre = at_vector u x y w positive;
      is_centre = is_centre;
      told = inl (
        refl,
        holds_disk s u x y w positive
            (side_cleared x y (reach_left u x y w) s.left l left is_left)
            (side_cleared x y (reach_right u x y w) s.right r right is_right)
            (side_cleared x y (reach_bottom u x y w) s.bottom b bottom is_bottom)
            (side_cleared x y (reach_top u x y w) s.top true top refl),
      );
    }
