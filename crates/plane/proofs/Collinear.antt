-- Whole points on one line, by their place along it.
-- Lemmas: place_on, place_of_start, place-moved, passing_place, place_of_end, line_x, line_y,
-- within_by_places, same_by_places, same_ends, mean_place.
use Rattle.std.proofs.Common.{◌≡◌, ◌⊎◌, [], ◌∷◌, arith, ap, sym, ◌∙◌}
use mathlib.Core.Logic.{inl, inr}
use Rattle.std.specs.Prelude.{ℤ, pos, ◌+ℤ◌, ◌-ℤ◌, ◌*ℤ◌, ◌<ℤ◌, ◌≤ℤ◌}
use Rattle.std.proofs.lemmas.Int.{ints}
use Rattle.plane.specs.{Fraction, IsPositive, Point, whole, WithinSegment}
use Rattle.plane.proofs.Bracket.{bracket, bracketᵖ, lift, points, vec, Vec3}
use Rattle.plane.proofs.{BracketIdentities.form, BracketIdentities.four_terms, Nudges.moved}
use Rattle.plane.proofs.IntegerOrder.{lt_or_ge_ℤ, mul-nonneg_ℤ, mul-nonpos_of_nonneg_nonpos_ℤ}
use Rattle.plane.proofs.IntegerOrder.{mul-pos_ℤ, mul_cancel_ℤ, pos-ne-zero_ℤ, square-nonneg_ℤ}
use Rattle.plane.proofs.{IntegerOrder.square-pos_ℤ, IntegerOrder.trichotomy_ℤ, Steps.weak}
use Rattle.plane.proofs.Means.{mean_of_two, TwoWeights}
use Rattle.plane.proofs.Signs.{difference_is_positive, difference_not_negative, less_through}
use Rattle.plane.proofs.Signs.{negative_is_not_zero, positive_is_not_zero, same_after_shift}
use Rattle.plane.proofs.Solver.{◌⊕◌, ◌⊖◌, ◌⊗◌, num, ring_in, ring_in_from, ring_over}

-- the place of z on the way from u to v
unfoldable pub place_on : Point → Point → Vec3 → ℤ
place_on u v z = (v.x -ℤ u.x) *ℤ (z.x -ℤ z.w *ℤ u.x) +ℤ (v.y -ℤ u.y) *ℤ (z.y -ℤ z.w *ℤ u.y)

-- the place of u is 0
pub place_of_start : (u v : Point) → place_on u v (lift u) ≡ pos 0
unfolding place_on
place_of_start u v = ring_over points [] (u ∷ v ∷ [])
    (λ u v. (v.x ⊖ u.x) ⊗ (u.x ⊖ num 1 ⊗ u.x) ⊕ (v.y ⊖ u.y) ⊗ (u.y ⊖ num 1 ⊗ u.y)) (λ u v. num 0) tt

-- of a point moved a little
pub place-moved : (u v : Point) (n : ℤ) (q d : Vec3)
    → place_on u v (moved n q d) ≡ n *ℤ place_on u v q +ℤ place_on u v d
unfolding place_on
place-moved u v n q d = ring_in (u.x ∷ u.y ∷ v.x ∷ v.y ∷ n ∷ q.x ∷ q.y ∷ q.w ∷ d.x ∷ d.y ∷ d.w ∷ [])
    (λ ux uy vx vy n x y w x' y' w'. (vx ⊖ ux) ⊗ ((n ⊗ x ⊕ x') ⊖ (n ⊗ w ⊕ w') ⊗ ux) ⊕ (vy ⊖ uy)
    ⊗ ((n ⊗ y ⊕ y') ⊖ (n ⊗ w ⊕ w') ⊗ uy))
    (λ ux uy vx vy n x y w x' y' w'. n ⊗ ((vx ⊖ ux) ⊗ (x ⊖ w ⊗ ux) ⊕ (vy ⊖ uy) ⊗ (y ⊖ w ⊗ uy))
    ⊕ ((vx ⊖ ux) ⊗ (x' ⊖ w' ⊗ ux) ⊕ (vy ⊖ uy) ⊗ (y' ⊖ w' ⊗ uy))) tt

place_form : (u v : Point) (z : Vec3) → form (v.x -ℤ u.x) (v.y -ℤ u.y)
    (pos 0 -ℤ ((v.x -ℤ u.x) *ℤ u.x +ℤ (v.y -ℤ u.y) *ℤ u.y)) z ≡ place_on u v z
unfolding place_on
place_form u v z = ring_in (u.x ∷ u.y ∷ v.x ∷ v.y ∷ z.x ∷ z.y ∷ z.w ∷ [])
    (λ ux uy vx vy x y w. (vx ⊖ ux) ⊗ x ⊕ (vy ⊖ uy) ⊗ y
    ⊕ (num 0 ⊖ ((vx ⊖ ux) ⊗ ux ⊕ (vy ⊖ uy) ⊗ uy)) ⊗ w)
    (λ ux uy vx vy x y w. (vx ⊖ ux) ⊗ (x ⊖ w ⊗ ux) ⊕ (vy ⊖ uy) ⊗ (y ⊖ w ⊗ uy)) tt

-- where the line from q to x passes s t, by places
pub passing_place : (u v : Point) (x s t q : Vec3)
    → bracket x s t *ℤ place_on u v q -ℤ bracket x s q *ℤ place_on u v t +ℤ bracket x t q
    *ℤ place_on u v s -ℤ bracket s t q *ℤ place_on u v x ≡ pos 0
passing_place u v x s t q =
    (λ i. bracket x s t *ℤ sym (place_form u v q) i -ℤ bracket x s q *ℤ sym (place_form u v t) i
    +ℤ bracket x t q *ℤ sym (place_form u v s) i -ℤ bracket s t q *ℤ sym (place_form u v x) i)
    ∙ four_terms (v.x -ℤ u.x) (v.y -ℤ u.y)
    (pos 0 -ℤ ((v.x -ℤ u.x) *ℤ u.x +ℤ (v.y -ℤ u.y) *ℤ u.y)) x s t q

-- a point of the line is its place away from u
along_x : (u v : Point) (z : Vec3) → place_on u v (lift v) *ℤ (z.x -ℤ z.w *ℤ u.x)
    ≡ place_on u v z *ℤ (v.x -ℤ u.x) -ℤ (v.y -ℤ u.y) *ℤ bracket (lift u) (lift v) z
unfolding place_on bracket
along_x u v z = ring_in (u.x ∷ u.y ∷ v.x ∷ v.y ∷ z.x ∷ z.y ∷ z.w ∷ [])
    (λ ux uy vx vy x y w. ((vx ⊖ ux) ⊗ (vx ⊖ num 1 ⊗ ux) ⊕ (vy ⊖ uy) ⊗ (vy ⊖ num 1 ⊗ uy))
    ⊗ (x ⊖ w ⊗ ux))
    (λ ux uy vx vy x y w. ((vx ⊖ ux) ⊗ (x ⊖ w ⊗ ux) ⊕ (vy ⊖ uy) ⊗ (y ⊖ w ⊗ uy)) ⊗ (vx ⊖ ux)
    ⊖ (vy ⊖ uy) ⊗ bracketᵖ (record { x = ux; y = uy; w = num 1 })
    (record { x = vx; y = vy; w = num 1 }) (record { x = x; y = y; w = w })) tt

along_y : (u v : Point) (z : Vec3) → place_on u v (lift v) *ℤ (z.y -ℤ z.w *ℤ u.y)
    ≡ place_on u v z *ℤ (v.y -ℤ u.y) +ℤ (v.x -ℤ u.x) *ℤ bracket (lift u) (lift v) z
unfolding place_on bracket
along_y u v z = ring_in (u.x ∷ u.y ∷ v.x ∷ v.y ∷ z.x ∷ z.y ∷ z.w ∷ [])
    (λ ux uy vx vy x y w. ((vx ⊖ ux) ⊗ (vx ⊖ num 1 ⊗ ux) ⊕ (vy ⊖ uy) ⊗ (vy ⊖ num 1 ⊗ uy))
    ⊗ (y ⊖ w ⊗ uy))
    (λ ux uy vx vy x y w. ((vx ⊖ ux) ⊗ (x ⊖ w ⊗ ux) ⊕ (vy ⊖ uy) ⊗ (y ⊖ w ⊗ uy)) ⊗ (vy ⊖ uy)
    ⊕ (vx ⊖ ux) ⊗ bracketᵖ (record { x = ux; y = uy; w = num 1 })
    (record { x = vx; y = vy; w = num 1 }) (record { x = x; y = y; w = w })) tt

-- u and v differ: the place of v is positive
pub place_of_end : (u v : Point) → ¬ (u ≡ v) → pos 0 <ℤ place_on u v (lift v)
unfolding place_on
place_of_end u v n = go (trichotomy_ℤ (v.x -ℤ u.x)) (trichotomy_ℤ (v.y -ℤ u.y))
  where
    is_square : (a b c d : ℤ) → (a -ℤ b) *ℤ (a -ℤ pos 1 *ℤ b) +ℤ (c -ℤ d) *ℤ (c -ℤ pos 1 *ℤ d)
        ≡ (a -ℤ b) *ℤ (a -ℤ b) +ℤ (c -ℤ d) *ℤ (c -ℤ d)
    is_square a b c d = ring_in (a ∷ b ∷ c ∷ d ∷ []) (λ a b c d. (a ⊖ b) ⊗ (a ⊖ num 1 ⊗ b) ⊕ (c ⊖ d)
        ⊗ (c ⊖ num 1 ⊗ d)) (λ a b c d. (a ⊖ b) ⊗ (a ⊖ b) ⊕ (c ⊖ d) ⊗ (c ⊖ d)) tt

    first : (s a b : ℤ) → s ≡ a +ℤ b → pos 0 <ℤ a → pos 0 ≤ℤ b → pos 0 <ℤ s
    first s a b e h k = omega (arith, ints)

    second : (s a b : ℤ) → s ≡ a +ℤ b → pos 0 ≤ℤ a → pos 0 <ℤ b → pos 0 <ℤ s
    second s a b e h k = omega (arith, ints)

    equal : (a b : ℤ) → a -ℤ b ≡ pos 0 → b ≡ a
    equal a b e = omega (arith, ints)

    by_x : ¬ (v.x -ℤ u.x ≡ pos 0)
        → pos 0 <ℤ ((v.x -ℤ u.x) *ℤ (v.x -ℤ pos 1 *ℤ u.x) +ℤ (v.y -ℤ u.y) *ℤ (v.y -ℤ pos 1 *ℤ u.y))
    by_x k = first ((v.x -ℤ u.x) *ℤ (v.x -ℤ pos 1 *ℤ u.x) +ℤ (v.y -ℤ u.y) *ℤ (v.y -ℤ pos 1 *ℤ u.y))
        ((v.x -ℤ u.x) *ℤ (v.x -ℤ u.x)) ((v.y -ℤ u.y) *ℤ (v.y -ℤ u.y)) (is_square v.x u.x v.y u.y)
        (square-pos_ℤ k) (square-nonneg_ℤ (v.y -ℤ u.y))

    by_y : ¬ (v.y -ℤ u.y ≡ pos 0)
        → pos 0 <ℤ ((v.x -ℤ u.x) *ℤ (v.x -ℤ pos 1 *ℤ u.x) +ℤ (v.y -ℤ u.y) *ℤ (v.y -ℤ pos 1 *ℤ u.y))
    by_y k = second ((v.x -ℤ u.x) *ℤ (v.x -ℤ pos 1 *ℤ u.x) +ℤ (v.y -ℤ u.y) *ℤ (v.y -ℤ pos 1 *ℤ u.y))
        ((v.x -ℤ u.x) *ℤ (v.x -ℤ u.x)) ((v.y -ℤ u.y) *ℤ (v.y -ℤ u.y)) (is_square v.x u.x v.y u.y)
        (square-nonneg_ℤ (v.x -ℤ u.x)) (square-pos_ℤ k)

    go : ((v.x -ℤ u.x) <ℤ pos 0) ⊎ ((v.x -ℤ u.x ≡ pos 0) ⊎ (pos 0 <ℤ (v.x -ℤ u.x)))
        → ((v.y -ℤ u.y) <ℤ pos 0) ⊎ ((v.y -ℤ u.y ≡ pos 0) ⊎ (pos 0 <ℤ (v.y -ℤ u.y)))
        → pos 0 <ℤ ((v.x -ℤ u.x) *ℤ (v.x -ℤ pos 1 *ℤ u.x) +ℤ (v.y -ℤ u.y) *ℤ (v.y -ℤ pos 1 *ℤ u.y))
    go (inl h) k = by_x (negative_is_not_zero (v.x -ℤ u.x) h)
    go (inr (inr h)) k = by_x (positive_is_not_zero (v.x -ℤ u.x) h)
    go (inr (inl h)) (inl k) = by_y (negative_is_not_zero (v.y -ℤ u.y) k)
    go (inr (inl h)) (inr (inr k)) = by_y (positive_is_not_zero (v.y -ℤ u.y) k)
    go (inr (inl h)) (inr (inl k)) =
        absurd (n (λ i. record { x = equal v.x u.x h i; y = equal v.y u.y k i }))

on_line_part : (s t a d : ℤ) → s ≡ t -ℤ a *ℤ d → d ≡ pos 0 → s ≡ t
on_line_part s t a d e z = e ∙ (λ i. t -ℤ a *ℤ z i) ∙ zero t a
  where
    zero : (t a : ℤ) → t -ℤ a *ℤ pos 0 ≡ t
    zero t a = omega (arith, ints)

on_line_part' : (s t a d : ℤ) → s ≡ t +ℤ a *ℤ d → d ≡ pos 0 → s ≡ t
on_line_part' s t a d e z = e ∙ (λ i. t +ℤ a *ℤ z i) ∙ zero t a
  where
    zero : (t a : ℤ) → t +ℤ a *ℤ pos 0 ≡ t
    zero t a = omega (arith, ints)

between_part : (l g u zp pp qp z p q : ℤ) → pos 0 <ℤ l → l *ℤ (z -ℤ u) ≡ zp *ℤ g → l *ℤ (p -ℤ u)
    ≡ pp *ℤ g → l *ℤ (q -ℤ u) ≡ qp *ℤ g → (qp -ℤ pp) *ℤ z ≡ (qp -ℤ zp) *ℤ p +ℤ (zp -ℤ pp) *ℤ q
between_part l g u zp pp qp z p q h e d c = mul_cancel_ℤ (pos-ne-zero_ℤ h)
    (ring_in_from (l ∷ g ∷ u ∷ zp ∷ pp ∷ qp ∷ z ∷ p ∷ q ∷ []) (λ l g u zp pp qp z p q. l
    ⊗ ((qp ⊖ pp) ⊗ z)) (λ l g u zp pp qp z p q. l ⊗ ((qp ⊖ zp) ⊗ p ⊕ (zp ⊖ pp) ⊗ q))
    (λ l g u zp pp qp z p q. (qp ⊖ pp, l ⊗ (z ⊖ u), zp ⊗ g) ∷ (
      num 0 ⊖ (qp ⊖ zp),
      l ⊗ (p ⊖ u),
      pp ⊗ g,
    ) ∷ (num 0 ⊖ (zp ⊖ pp), l ⊗ (q ⊖ u), qp ⊗ g) ∷ []) (e, (d, (c, tt))) tt)

between_whole : (a b c : ℤ) → (c -ℤ a) *ℤ pos 1 ≡ (c -ℤ b) *ℤ pos 1 +ℤ (b -ℤ a) *ℤ pos 1
between_whole a b c = omega (arith, ints)

-- the same where the bracket is 0
pub line_x : (u v : Point) (z : Vec3) → bracket (lift u) (lift v) z ≡ pos 0
    → place_on u v (lift v) *ℤ (z.x -ℤ z.w *ℤ u.x) ≡ place_on u v z *ℤ (v.x -ℤ u.x)
line_x u v z e = on_line_part (place_on u v (lift v) *ℤ (z.x -ℤ z.w *ℤ u.x))
    (place_on u v z *ℤ (v.x -ℤ u.x)) (v.y -ℤ u.y) (bracket (lift u) (lift v) z) (along_x u v z) e

-- by the other coordinate
pub line_y : (u v : Point) (z : Vec3) → bracket (lift u) (lift v) z ≡ pos 0
    → place_on u v (lift v) *ℤ (z.y -ℤ z.w *ℤ u.y) ≡ place_on u v z *ℤ (v.y -ℤ u.y)
line_y u v z e = on_line_part' (place_on u v (lift v) *ℤ (z.y -ℤ z.w *ℤ u.y))
    (place_on u v z *ℤ (v.y -ℤ u.y)) (v.x -ℤ u.x) (bracket (lift u) (lift v) z) (along_y u v z) e

one_less : (l a b : ℤ) → l *ℤ (a -ℤ b) ≡ l *ℤ (a -ℤ pos 1 *ℤ b)
one_less l a b = ap (λ t. l *ℤ (a -ℤ t)) (one b)
  where
    one : (b : ℤ) → b ≡ pos 1 *ℤ b
    one b = omega (arith, ints)

module _ (u v : Point) (apart : ¬ (u ≡ v)) where
  is_along_x : (z : Point) → bracket (lift u) (lift v) (lift z) ≡ pos 0
      → place_on u v (lift v) *ℤ (z.x -ℤ u.x) ≡ place_on u v (lift z) *ℤ (v.x -ℤ u.x)
  is_along_x z e = one_less (place_on u v (lift v)) z.x u.x ∙ line_x u v (lift z) e

  is_along_y : (z : Point) → bracket (lift u) (lift v) (lift z) ≡ pos 0
      → place_on u v (lift v) *ℤ (z.y -ℤ u.y) ≡ place_on u v (lift z) *ℤ (v.y -ℤ u.y)
  is_along_y z e = one_less (place_on u v (lift v)) z.y u.y ∙ line_y u v (lift z) e

  -- a point of the line whose place is between those of two others is strictly between them
  pub within_by_places : (p z q : Point) → bracket (lift u) (lift v) (lift p) ≡ pos 0
      → bracket (lift u) (lift v) (lift z) ≡ pos 0 → bracket (lift u) (lift v) (lift q) ≡ pos 0
      → place_on u v (lift p) <ℤ place_on u v (lift z)
      → place_on u v (lift z) <ℤ place_on u v (lift q) → WithinSegment (whole p) (whole q) (whole z)
  within_by_places p z q on_p on_z on_q h k =
      let zp = place_on u v (lift z) in
      let pp = place_on u v (lift p) in
      let qp = place_on u v (lift q) in
      let l = place_on u v (lift v) in
      mean_of_two IsPositive (whole p) (whole q) (whole z) (record {
        k = qp -ℤ zp;
        l = zp -ℤ pp;
        n = qp -ℤ pp;
        k_allowed = difference_is_positive zp qp k;
        l_allowed = difference_is_positive pp zp h;
        positive = difference_is_positive pp qp (less_through pp zp qp h k);
        x = between_part l (v.x -ℤ u.x) u.x zp pp qp z.x p.x q.x (place_of_end u v apart)
            (is_along_x z on_z) (is_along_x p on_p) (is_along_x q on_q);
        y = between_part l (v.y -ℤ u.y) u.y zp pp qp z.y p.y q.y (place_of_end u v apart)
            (is_along_y z on_z) (is_along_y p on_p) (is_along_y q on_q);
        w = between_whole pp zp qp;
      })

  -- points of the line with one place are one
  pub same_by_places : (p q : Point) → bracket (lift u) (lift v) (lift p) ≡ pos 0
      → bracket (lift u) (lift v) (lift q) ≡ pos 0
      → place_on u v (lift p) ≡ place_on u v (lift q) → p ≡ q
  same_by_places p q on_p on_q e =
      let x = part (place_on u v (lift v)) p.x q.x u.x (place_of_end u v apart)
      (is_along_x p on_p ∙ ap (λ t. t *ℤ (v.x -ℤ u.x)) e ∙ sym (is_along_x q on_q)) in
      let y = part (place_on u v (lift v)) p.y q.y u.y (place_of_end u v apart)
      (is_along_y p on_p ∙ ap (λ t. t *ℤ (v.y -ℤ u.y)) e ∙ sym (is_along_y q on_q)) in
      λ i. record { x = x i; y = y i }
    where
      part : (l a b c : ℤ) → pos 0 <ℤ l → l *ℤ (a -ℤ c) ≡ l *ℤ (b -ℤ c) → a ≡ b
      part l a b c h e = same_after_shift a b c (mul_cancel_ℤ (pos-ne-zero_ℤ h) e)

-- ---- two segments of one line, each without an end strictly within the other, with a point
-- strictly within both: an average of the places s and t under weights b and a, and of 0 and l,
-- where l has the weight w
module _ (a b w l s t : ℤ) (a_positive : pos 0 <ℤ a) (b_positive : pos 0 <ℤ b)
    (w_positive : pos 0 <ℤ w) (l_positive : pos 0 <ℤ l) (average : a *ℤ t +ℤ b *ℤ s ≡ w *ℤ l)
    (weights : w <ℤ (a +ℤ b)) where
  not_low : s ≤ℤ pos 0 → t ≤ℤ pos 0 → ⊥
  not_low h k =
      clash (a *ℤ t) (b *ℤ s) (w *ℤ l) average (mul-nonpos_of_nonneg_nonpos_ℤ (weak a_positive) k)
      (mul-nonpos_of_nonneg_nonpos_ℤ (weak b_positive) h) (mul-pos_ℤ w_positive l_positive)
    where
      clash : (x y z : ℤ) → x +ℤ y ≡ z → x ≤ℤ pos 0 → y ≤ℤ pos 0 → pos 0 <ℤ z → ⊥
      clash x y z e h k n = omega (arith, ints)

  not_high : l ≤ℤ s → l ≤ℤ t → ⊥
  not_high h k = clash (a *ℤ (t -ℤ l)) (b *ℤ (s -ℤ l)) ((a +ℤ b -ℤ w) *ℤ l) sum
      (mul-nonneg_ℤ {a = a} {b = t -ℤ l} (weak a_positive) (difference_not_negative l t k))
      (mul-nonneg_ℤ {a = b} {b = s -ℤ l} (weak b_positive) (difference_not_negative l s h))
      (mul-pos_ℤ (difference_is_positive w (a +ℤ b) weights) l_positive)
    where
      sum : a *ℤ (t -ℤ l) +ℤ b *ℤ (s -ℤ l) ≡ pos 0 -ℤ (a +ℤ b -ℤ w) *ℤ l
      sum = ring_in_from (a ∷ b ∷ w ∷ l ∷ s ∷ t ∷ []) (λ a b w l s t. a ⊗ (t ⊖ l) ⊕ b ⊗ (s ⊖ l))
          (λ a b w l s t. num 0 ⊖ (a ⊕ b ⊖ w) ⊗ l)
          (λ a b w l s t. (num 1, a ⊗ t ⊕ b ⊗ s, w ⊗ l) ∷ []) (average, tt) tt

      clash : (x y z : ℤ) → x +ℤ y ≡ pos 0 -ℤ z → pos 0 ≤ℤ x → pos 0 ≤ℤ y → pos 0 <ℤ z → ⊥
      clash x y z e h k n = omega (arith, ints)

  -- two numbers that average in between, with no end strictly between others, are 0 and l in one
  -- order
  pub same_ends : (pos 0 <ℤ s → s <ℤ l → ⊥) → (pos 0 <ℤ t → t <ℤ l → ⊥)
      → (s <ℤ pos 0 → pos 0 <ℤ t → ⊥) → (t <ℤ pos 0 → pos 0 <ℤ s → ⊥) → (s <ℤ l → l <ℤ t → ⊥)
      → (t <ℤ l → l <ℤ s → ⊥) → ((s ≡ pos 0) × (t ≡ l)) ⊎ ((s ≡ l) × (t ≡ pos 0))
  same_ends s_out t_out start_out start_out' end_out end_out' =
      go (outside s s_out) (outside t t_out)
    where
      outside : (z : ℤ) → (pos 0 <ℤ z → z <ℤ l → ⊥) → (z ≤ℤ pos 0) ⊎ (l ≤ℤ z)
      outside z h = by (lt_or_ge_ℤ (pos 0) z) (lt_or_ge_ℤ z l)
        where
          by : (pos 0 <ℤ z) ⊎ (z ≤ℤ pos 0) → (z <ℤ l) ⊎ (l ≤ℤ z) → (z ≤ℤ pos 0) ⊎ (l ≤ℤ z)
          by (inr k) q = inl k
          by (inl k) (inr q) = inr q
          by (inl k) (inl q) = absurd (h k q)

      at_zero : (z w : ℤ) → z ≤ℤ pos 0 → l ≤ℤ w → (z <ℤ pos 0 → pos 0 <ℤ w → ⊥) → z ≡ pos 0
      at_zero z w h k n = by (trichotomy_ℤ z)
        where
          above : l ≤ℤ w → pos 0 <ℤ w
          above k = omega (arith, ints)

          clash : pos 0 <ℤ z → z ≤ℤ pos 0 → ⊥
          clash p q = omega (arith, ints)

          by : (z <ℤ pos 0) ⊎ ((z ≡ pos 0) ⊎ (pos 0 <ℤ z)) → z ≡ pos 0
          by (inl p) = absurd (n p (above k))
          by (inr (inl p)) = p
          by (inr (inr p)) = absurd (clash p h)

      at_end : (z w : ℤ) → z ≤ℤ pos 0 → l ≤ℤ w → (z <ℤ l → l <ℤ w → ⊥) → w ≡ l
      at_end z w h k n = by (lt_or_ge_ℤ l w)
        where
          below : z ≤ℤ pos 0 → z <ℤ l
          below k = omega (arith, ints)

          level : l ≤ℤ w → w ≤ℤ l → w ≡ l
          level p q = omega (arith, ints)

          by : (l <ℤ w) ⊎ (w ≤ℤ l) → w ≡ l
          by (inl p) = absurd (n (below h) p)
          by (inr p) = level k p

      go : (s ≤ℤ pos 0) ⊎ (l ≤ℤ s) → (t ≤ℤ pos 0) ⊎ (l ≤ℤ t)
          → ((s ≡ pos 0) × (t ≡ l)) ⊎ ((s ≡ l) × (t ≡ pos 0))
      go (inl h) (inl k) = absurd (not_low h k)
      go (inr h) (inr k) = absurd (not_high h k)
      go (inl h) (inr k) = inl (at_zero s t h k start_out, at_end s t h k end_out)
      go (inr h) (inl k) = inr (at_end t s k h end_out', at_zero t s k h start_out')

-- ---- the place of a mean
-- the place of a weighted mean is the mean of the places
pub mean_place : (A : ℤ → Type 0) (u v : Point) (a b y : Fraction) (t : TwoWeights A a b y)
    → t.n *ℤ place_on u v (vec y) ≡ t.k *ℤ place_on u v (vec a) +ℤ t.l *ℤ place_on u v (vec b)
unfolding place_on
mean_place A u v a b y t = ring_in_from (u.x ∷ u.y ∷ v.x ∷ v.y ∷ a.x ∷ a.y ∷ a.w ∷ b.x ∷ b.y ∷ b.w
    ∷ y.x ∷ y.y ∷ y.w ∷ t.n ∷ t.k ∷ t.l ∷ [])
    (λ ux uy vx vy ax ay aw bx by bw yx yy yw n k l. n
    ⊗ ((vx ⊖ ux) ⊗ (yx ⊖ yw ⊗ ux) ⊕ (vy ⊖ uy) ⊗ (yy ⊖ yw ⊗ uy)))
    (λ ux uy vx vy ax ay aw bx by bw yx yy yw n k l. k ⊗ ((vx ⊖ ux) ⊗ (ax ⊖ aw ⊗ ux) ⊕ (vy ⊖ uy)
    ⊗ (ay ⊖ aw ⊗ uy)) ⊕ l ⊗ ((vx ⊖ ux) ⊗ (bx ⊖ bw ⊗ ux) ⊕ (vy ⊖ uy) ⊗ (by ⊖ bw ⊗ uy)))
    (λ ux uy vx vy ax ay aw bx by bw yx yy yw n k l. (vx ⊖ ux, n ⊗ yx, k ⊗ ax ⊕ l ⊗ bx)
    ∷ (vy ⊖ uy, n ⊗ yy, k ⊗ ay ⊕ l ⊗ by) ∷ (
      num 0 ⊖ (vx ⊖ ux) ⊗ ux ⊖ (vy ⊖ uy) ⊗ uy,
      n ⊗ yw,
      k ⊗ aw ⊕ l ⊗ bw,
    ) ∷ []) (t.x, (t.y, (t.w, tt))) tt
