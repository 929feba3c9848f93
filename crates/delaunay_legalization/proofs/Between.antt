-- A point on the line of two others is strictly within their segment where it is in their box and
-- apart from both.
-- Lemmas: within_of_box, box_of_within.
use Rattle.std.proofs.Common.{◌≡◌, ◌⊎◌, [], ◌∷◌, sym, subst, arith}
use mathlib.Core.Logic.{inl, inr}
use Rattle.std.specs.Prelude.{ℤ, pos, ◌+ℤ◌, ◌-ℤ◌, ◌*ℤ◌, ◌<ℤ◌, ◌≤ℤ◌}
use Rattle.std.proofs.lemmas.Int.{ints}
use Rattle.plane.specs.{IsPositive, Point, whole, WithinSegment}
use Rattle.plane.proofs.{◌⊕◌, ◌⊖◌, ◌⊗◌, at_most_by_difference, bracket, bracket-last, bracket-outer}
use Rattle.plane.proofs.{less_if_not_same, lift, lt_or_ge_ℤ, mul-nonneg_of_nonpos_ℤ, mul-nonneg_ℤ}
use Rattle.plane.proofs.{mul-nonpos_of_nonneg_nonpos_ℤ, num, place_of_start, place_on, ring_in}
use Rattle.plane.proofs.{ring_in_from, same_by_places, sum_not_negative, two_weights, weak}
use Rattle.plane.proofs.{within_by_places}
use Rattle.plane.proofs.{IntegerOrder.nonneg_from_ℤ, Signs.difference_not_positive}
use Rattle.delaunay_legalization.specs.Between.{IsFrom, IsInBox}

-- the part of a place that one coordinate has is not negative, nor more than that of the end
part_low : (u v p : ℤ) → IsFrom u v p → pos 0 ≤ℤ ((v -ℤ u) *ℤ (p -ℤ pos 1 *ℤ u))
part_low u v p (inl h) = mul-nonneg_ℤ {a = v -ℤ u} {b = p -ℤ pos 1 *ℤ u} (let k = h.0 in
    let l = h.1 in omega (arith, ints)) (let k = h.0 in omega (arith, ints))
part_low u v p (inr h) = mul-nonneg_of_nonpos_ℤ {a = v -ℤ u} {b = p -ℤ pos 1 *ℤ u} (let k = h.0 in
    let l = h.1 in omega (arith, ints)) (let k = h.1 in omega (arith, ints))

part_high : (u v p : ℤ) → IsFrom u v p → pos 0 ≤ℤ ((v -ℤ u) *ℤ (v -ℤ p))
part_high u v p (inl h) = mul-nonneg_ℤ {a = v -ℤ u} {b = v -ℤ p} (let k = h.0 in let l = h.1 in
    omega (arith, ints)) (let k = h.1 in omega (arith, ints))
part_high u v p (inr h) = mul-nonneg_of_nonpos_ℤ {a = v -ℤ u} {b = v -ℤ p} (let k = h.0 in
    let l = h.1 in omega (arith, ints)) (let k = h.0 in omega (arith, ints))

place_low : (u v p : Point) → IsInBox u v p → pos 0 ≤ℤ place_on u v (lift p)
unfolding place_on
place_low u v p b = sum_not_negative ((v.x -ℤ u.x) *ℤ (p.x -ℤ pos 1 *ℤ u.x))
    ((v.y -ℤ u.y) *ℤ (p.y -ℤ pos 1 *ℤ u.y)) (part_low u.x v.x p.x b.x) (part_low u.y v.y p.y b.y)

rest_of_place : (ux uy vx vy px py : ℤ)
    → ((vx -ℤ ux) *ℤ (vx -ℤ pos 1 *ℤ ux) +ℤ (vy -ℤ uy) *ℤ (vy -ℤ pos 1 *ℤ uy))
    -ℤ ((vx -ℤ ux) *ℤ (px -ℤ pos 1 *ℤ ux) +ℤ (vy -ℤ uy) *ℤ (py -ℤ pos 1 *ℤ uy))
    ≡ (vx -ℤ ux) *ℤ (vx -ℤ px) +ℤ (vy -ℤ uy) *ℤ (vy -ℤ py)
rest_of_place ux uy vx vy px py = ring_in (ux ∷ uy ∷ vx ∷ vy ∷ px ∷ py ∷ [])
    (λ ux uy vx vy px py. ((vx ⊖ ux) ⊗ (vx ⊖ num 1 ⊗ ux) ⊕ (vy ⊖ uy) ⊗ (vy ⊖ num 1 ⊗ uy))
    ⊖ ((vx ⊖ ux) ⊗ (px ⊖ num 1 ⊗ ux) ⊕ (vy ⊖ uy) ⊗ (py ⊖ num 1 ⊗ uy)))
    (λ ux uy vx vy px py. (vx ⊖ ux) ⊗ (vx ⊖ px) ⊕ (vy ⊖ uy) ⊗ (vy ⊖ py)) tt

below_by_rest : (a b r s : ℤ) → a -ℤ b ≡ r +ℤ s → pos 0 ≤ℤ r → pos 0 ≤ℤ s → b ≤ℤ a
below_by_rest a b r s e h k = omega (arith, ints)

place_high : (u v p : Point) → IsInBox u v p → place_on u v (lift p) ≤ℤ place_on u v (lift v)
unfolding place_on
place_high u v p b = below_by_rest (place_on u v (lift v)) (place_on u v (lift p))
    ((v.x -ℤ u.x) *ℤ (v.x -ℤ p.x)) ((v.y -ℤ u.y) *ℤ (v.y -ℤ p.y))
    (rest_of_place u.x u.y v.x v.y p.x p.y) (part_high u.x v.x p.x b.x) (part_high u.y v.y p.y b.y)

-- a point on the line of two others, in their box and at neither, is strictly between them
pub within_of_box : (u v p : Point) → ¬ (u ≡ v) → ¬ (p ≡ u) → ¬ (p ≡ v)
    → bracket (lift u) (lift v) (lift p) ≡ pos 0 → IsInBox u v p
    → WithinSegment (whole u) (whole v) (whole p)
within_of_box u v p apart from_u from_v flat b =
    let on_u = bracket-outer (lift u) (lift v) in
    let on_v = bracket-last (lift u) (lift v) in
    within_by_places u v apart u p v on_u flat on_v
    (less_if_not_same (place_on u v (lift u)) (place_on u v (lift p))
    (subst (λ z. z ≤ℤ place_on u v (lift p)) (sym (place_of_start u v)) (place_low u v p b))
    (λ e. from_u (sym (same_by_places u v apart u p on_u flat e))))
    (less_if_not_same (place_on u v (lift p)) (place_on u v (lift v)) (place_high u v p b)
    (λ e. from_v (same_by_places u v apart p v flat on_v e)))

-- a weighted average is between its parts
average_from : (k l n a b c : ℤ) → pos 0 <ℤ k → pos 0 <ℤ l → pos 0 <ℤ n → n *ℤ c ≡ k *ℤ a +ℤ l *ℤ b
    → n *ℤ pos 1 ≡ k *ℤ pos 1 +ℤ l *ℤ pos 1 → IsFrom a b c
average_from k l n a b c hk hl hn e w = go (lt_or_ge_ℤ a b)
  where
    first : n *ℤ (c -ℤ a) ≡ l *ℤ (b -ℤ a)
    first = ring_in_from (k ∷ l ∷ n ∷ a ∷ b ∷ c ∷ []) (λ k l n a b c. n ⊗ (c ⊖ a))
        (λ k l n a b c. l ⊗ (b ⊖ a))
        (λ k l n a b c. (num 1, n ⊗ c, k ⊗ a ⊕ l ⊗ b)
        ∷ (num 0 ⊖ a, n ⊗ num 1, k ⊗ num 1 ⊕ l ⊗ num 1) ∷ []) (e, (w, tt)) tt

    second : n *ℤ (b -ℤ c) ≡ k *ℤ (b -ℤ a)
    second = ring_in_from (k ∷ l ∷ n ∷ a ∷ b ∷ c ∷ []) (λ k l n a b c. n ⊗ (b ⊖ c))
        (λ k l n a b c. k ⊗ (b ⊖ a))
        (λ k l n a b c. (num 0 ⊖ num 1, n ⊗ c, k ⊗ a ⊕ l ⊗ b)
        ∷ (b, n ⊗ num 1, k ⊗ num 1 ⊕ l ⊗ num 1) ∷ []) (e, (w, tt)) tt

    back : (m x y z : ℤ) → m *ℤ (x -ℤ y) ≡ z → m *ℤ (y -ℤ x) ≡ pos 0 -ℤ z
    back m x y z e = ring_in_from (m ∷ x ∷ y ∷ z ∷ []) (λ m x y z. m ⊗ (y ⊖ x))
        (λ m x y z. num 0 ⊖ z) (λ m x y z. (num 0 ⊖ num 1, m ⊗ (x ⊖ y), z) ∷ []) (e, tt) tt

    rises : (x y : ℤ) → y <ℤ x → pos 0 ≤ℤ (x -ℤ y)
    rises x y h = omega (arith, ints)

    negated : (z : ℤ) → z ≤ℤ pos 0 → pos 0 ≤ℤ (pos 0 -ℤ z)
    negated z h = omega (arith, ints)

    go : (a <ℤ b) ⊎ (b ≤ℤ a) → IsFrom a b c
    go (inl h) = inl (
      at_most_by_difference c a
          (nonneg_from_ℤ first hn (mul-nonneg_ℤ {a = l} {b = b -ℤ a} (weak hl) (rises b a h))),
      at_most_by_difference b c
          (nonneg_from_ℤ second hn (mul-nonneg_ℤ {a = k} {b = b -ℤ a} (weak hk) (rises b a h))),
    )
    go (inr h) = inr (
      at_most_by_difference c b (nonneg_from_ℤ (back n b c (k *ℤ (b -ℤ a)) second) hn (negated (k
          *ℤ (b -ℤ a)) (mul-nonpos_of_nonneg_nonpos_ℤ (weak hk) (difference_not_positive b a h)))),
      at_most_by_difference a c (nonneg_from_ℤ (back n c a (l *ℤ (b -ℤ a)) first) hn (negated (l
          *ℤ (b -ℤ a)) (mul-nonpos_of_nonneg_nonpos_ℤ (weak hl) (difference_not_positive b a h)))),
    )

-- a point strictly between two others is in their box
pub box_of_within : (u v p : Point) → WithinSegment (whole u) (whole v) (whole p) → IsInBox u v p
box_of_within u v p h =
    let t = two_weights IsPositive (whole u) (whole v) (whole p) h in
    record {
      x = average_from t.k t.l t.n u.x v.x p.x t.k_allowed t.l_allowed t.positive t.x t.w;
      y = average_from t.k t.l t.n u.y v.y p.y t.k_allowed t.l_allowed t.positive t.y t.w;
    }
