-- The path from the end of the first subconstraint is shorter.
-- Lemmas: path_shortens.
use Rattle.std.proofs.Common.{◌≡◌, ◌⊎◌, [], ◌∷◌, sym, ap, ◌∙◌, subst, arith}
use mathlib.Core.Logic.{inl, inr}
use Rattle.std.specs.Prelude.{ℤ, pos, ◌+ℤ◌, ◌-ℤ◌, ◌*ℤ◌, ◌<ℤ◌}
use Rattle.std.proofs.lemmas.Int.{ints}
use Rattle.plane.specs.{IsPositive, IsSame, place, Point, squared_vector, whole, WithinSegment}
use Rattle.plane.proofs.{◌⊕◌, ◌⊖◌, ◌⊗◌, less_by_difference, lower_magnitude, mul-pos_ℤ, num}
use Rattle.plane.proofs.{points as points_shape, pos_of_mul-pos_ℤ, ring_in_from, ring_over}
use Rattle.plane.proofs.{sum_is_positive, two_weights}
use Rattle.plane_theorems.specs.{point_of, Segments.Constraints.PathShortens}
use Rattle.plane_theorems.proofs.Edits.Legalization.Legal.{squared_way_nonneg}
use Rattle.plane_theorems.proofs.Edits.Legalization.NewPoint.{way_positive}
use Rattle.plane_theorems.proofs.Segments.Constraints.Subconstraints.{on_parts}
use Rattle.plane_theorems.proofs.Segments.Crossing.EitherWay.{one_point}
use Rattle.plane_theorems.proofs.Segments.Crossing.Falling.{same_values}

scaled : (n k l i j w : ℤ) → n *ℤ w ≡ k *ℤ i +ℤ l *ℤ j → n *ℤ pos 1 ≡ k *ℤ pos 1 +ℤ l *ℤ pos 1
    → n *ℤ (j -ℤ w) ≡ k *ℤ (j -ℤ i)
scaled n k l i j w e d = ring_in_from (n ∷ k ∷ l ∷ i ∷ j ∷ w ∷ []) (λ n k l i j w. n ⊗ (j ⊖ w))
    (λ n k l i j w. k ⊗ (j ⊖ i))
    (λ n k l i j w. (num 0 ⊖ num 1, n ⊗ w, k ⊗ i ⊕ l ⊗ j) ∷ (j, n ⊗ num 1, k ⊗ num 1 ⊕ l ⊗ num 1)
    ∷ []) (e, (d, tt)) tt

difference : (n k s t : ℤ) → (n *ℤ n) *ℤ s ≡ (k *ℤ k) *ℤ t
    → (n *ℤ n) *ℤ (t -ℤ s) ≡ ((n -ℤ k) *ℤ (n +ℤ k)) *ℤ t
difference n k s t e = ring_in_from (n ∷ k ∷ s ∷ t ∷ []) (λ n k s t. (n ⊗ n) ⊗ (t ⊖ s))
    (λ n k s t. ((n ⊖ k) ⊗ (n ⊕ k)) ⊗ t)
    (λ n k s t. (num 0 ⊖ num 1, (n ⊗ n) ⊗ s, (k ⊗ k) ⊗ t) ∷ []) (e, tt) tt

way_none : (p : Point) → squared_vector p p ≡ pos 0
way_none p = ring_over points_shape [] (p ∷ [])
    (λ p. (p.x ⊖ p.x) ⊗ (p.x ⊖ p.x) ⊕ (p.y ⊖ p.y) ⊗ (p.y ⊖ p.y)) (λ p. num 0) tt

-- from a point strictly within it is nearer to the end
within_nearer : (i j w : Point) → ¬ (i ≡ j) → WithinSegment (whole i) (whole j) (whole w)
    → squared_vector w j <ℤ squared_vector i j
within_nearer i j w apart h =
    let t = two_weights IsPositive (whole i) (whole j) (whole w) h in
    let e = same_values t.n t.k (j.x -ℤ w.x) (j.y -ℤ w.y) (j.x -ℤ i.x) (j.y -ℤ i.y)
    (scaled t.n t.k t.l i.x j.x w.x t.x t.w) (scaled t.n t.k t.l i.y j.y w.y t.y t.w) in
    less_by_difference (squared_vector w j) (squared_vector i j)
    (pos_of_mul-pos_ℤ (mul-pos_ℤ t.positive t.positive)
    (subst (λ z. pos 0 <ℤ z) (sym (difference t.n t.k (squared_vector w j) (squared_vector i j) e))
    (mul-pos_ℤ (mul-pos_ℤ (falls t.n t.k t.l t.w t.l_allowed)
    (sum_is_positive t.n t.k t.positive t.k_allowed)) (way_positive i j apart))))
  where
    falls : (n k l : ℤ) → n *ℤ pos 1 ≡ k *ℤ pos 1 +ℤ l *ℤ pos 1 → pos 0 <ℤ l → pos 0 <ℤ (n -ℤ k)
    falls n k l e h = omega (arith, ints)

-- the path from the end of its first subconstraint is shorter
pub path_shortens : PathShortens
path_shortens points i j w distinct hi hj ij n =
    lower_magnitude (squared_vector (point_of points w) (point_of points j))
    (squared_vector (point_of points i) (point_of points j)) (squared_way_nonneg (point_of points w)
    (point_of points j)) (go (on_parts (place points i) (place points j) (place points w) n.second))
  where
    apart : ¬ (point_of points i ≡ point_of points j)
    apart e = distinct i j hi hj ij (ap whole e)

    go : IsSame (place points w) (place points i) ⊎ (IsSame (place points w) (place points j)
        ⊎ WithinSegment (place points i) (place points j) (place points w))
        → squared_vector (point_of points w) (point_of points j)
        <ℤ squared_vector (point_of points i) (point_of points j)
    go (inl s) = absurd (distinct w i n.second_index hi (λ e. n.apart (sym e))
        (ap whole (one_point (point_of points w) (point_of points i) s)))
    go (inr (inl s)) = subst (λ z. z <ℤ squared_vector (point_of points i) (point_of points j))
        (sym (ap (λ (q : Point). squared_vector q (point_of points j))
        (one_point (point_of points w) (point_of points j) s) ∙ way_none (point_of points j)))
        (way_positive (point_of points i) (point_of points j) apart)
    go (inr (inr h)) =
        within_nearer (point_of points i) (point_of points j) (point_of points w) apart h
