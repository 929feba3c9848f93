-- What a constraint at a side of a triple hides of the triple's disk.
-- Lemmas: beyond_side_is_hidden.
use Rattle.std.proofs.Common.{◌≡◌, [], ◌∷◌, ℕ, List, arith, sym, ◌∙◌, ap, subst}
use mathlib.Core.Logic.{◌⊎◌, inl, inr}
use lib.IntN.{neg_ℤ}
use Rattle.std.specs.Prelude.{ℤ, pos, ◌<ℤ◌, ◌≤ℤ◌, ◌+ℤ◌, ◌-ℤ◌, ◌*ℤ◌}
use Rattle.std.proofs.lemmas.Int.{ints}
use Rattle.plane.specs.{Fraction, IsNotNegative, IsSeen, Point, squared_vector, Triangulation}
use Rattle.{plane.specs.vertex, plane_theorems.proofs.Delaunay.Tilings.Ground.inside_of}
use Rattle.plane.proofs.{◌⊕◌, ◌⊖◌, ◌⊗◌, both_signs, bracket-swap, bracket-turn, bracketᵖ, incircle}
use Rattle.plane.proofs.{left_not_zero, lift as at, liftᵖ as atᵖ, mean_of_two, mul-neg_of_pos_neg_ℤ}
use Rattle.plane.proofs.{mul-nonneg_ℤ, mul-pos_ℤ, neg_of_mul-neg_ℤ, negated_left, negated_right}
use Rattle.plane.proofs.{num, points, pos_of_mul-pos_ℤ, right_not_zero, ring_in_from}
use Rattle.plane.proofs.{square-nonneg_ℤ, squares_vanish, sum_not_negative, vec, Vec3, weak}
use Rattle.plane.proofs.{zero-mul_ℤ, zero_or_left, zero_weak_left, ⊝}
use Rattle.plane.proofs.Circles.{incircle-from_first, incircle-opposite, incircle-turn}
use Rattle.plane_theorems.specs.{IsPartOfPlane, Parts.Hidden.BeyondSideIsHidden}
use Rattle.plane_theorems.proofs.{Delaunay.Circles.EmptyCircles.spot, Delaunay.Points.Nudges.InOpen}
use Rattle.plane_theorems.proofs.Delaunay.Circles.Lift.{inside_is_lift, lift, on_is_lift}
use Rattle.plane_theorems.proofs.Delaunay.Points.Bracket.{above_if_left, bracket, bracket-second}
use Rattle.plane_theorems.proofs.Delaunay.Points.Bracket.{bracket-swapped, bracket-turned, cramer}
use Rattle.plane_theorems.proofs.Delaunay.Tilings.Generic.{both_left, both_right, IsOpen, on_line}
use Rattle.plane_theorems.proofs.Delaunay.Tilings.Generic.{open_if_free, past_left, past_right}
use Rattle.plane.proofs.Bracket as B

-- ---- numbers
sum_positive : (s e a b : ℤ) → s ≡ e +ℤ (a +ℤ b) → pos 0 ≤ℤ e → pos 0 <ℤ a → pos 0 ≤ℤ b → pos 0 <ℤ s
sum_positive s e a b h k l m = omega (arith, ints)

sum_negative : (s a b c : ℤ) → s ≡ a +ℤ b +ℤ c → a ≡ pos 0 → b <ℤ pos 0 → c <ℤ pos 0 → s <ℤ pos 0
sum_negative s a b c h k l m = omega (arith, ints)

sum_above : (s a b c : ℤ) → s ≡ a +ℤ b +ℤ c → pos 0 <ℤ a → b ≡ pos 0 → pos 0 <ℤ c → pos 0 <ℤ s
sum_above s a b c h k l m = omega (arith, ints)

-- ---- four points, of which the last is in the disk of the others or on its circle
-- where a triple turns left its first two points are apart
way_positive : (a b c : Point) → pos 0 <ℤ B.bracket (at a) (at b) (at c)
    → pos 0 <ℤ squared_vector a b
unfolding B.bracket
way_positive a b c h = go (zero_or_left (sum_not_negative ((b.x -ℤ a.x) *ℤ (b.x -ℤ a.x))
    ((b.y -ℤ a.y) *ℤ (b.y -ℤ a.y)) (square-nonneg_ℤ _) (square-nonneg_ℤ _)))
  where
    flat : (b.x -ℤ a.x ≡ pos 0) → (b.y -ℤ a.y ≡ pos 0) → B.bracket (at a) (at b) (at c) ≡ pos 0
    flat e d = ring_in_from (a.x ∷ a.y ∷ b.x ∷ b.y ∷ c.x ∷ c.y ∷ [])
        (λ ax ay bx by cx cy. bracketᵖ (record { x = ax; y = ay; w = num 1 })
        (record { x = bx; y = by; w = num 1 }) (record { x = cx; y = cy; w = num 1 }))
        (λ ax ay bx by cx cy. num 0)
        (λ ax ay bx by cx cy. (cy ⊖ ay, bx ⊖ ax, num 0) ∷ (ax ⊖ cx, by ⊖ ay, num 0) ∷ [])
        (e, (d, tt)) tt

    go : (squared_vector a b ≡ pos 0) ⊎ (pos 0 <ℤ squared_vector a b) → pos 0 <ℤ squared_vector a b
    go (inl e) = let z = squares_vanish (b.x -ℤ a.x) (b.y -ℤ a.y) e in
        absurd (left_not_zero h (flat z.0 z.1))
    go (inr p) = p

-- the test, from a
from_first : (a b c d : Point) → squared_vector a c *ℤ B.bracket (at a) (at b) (at d)
    ≡ incircle (at a) (at b) (at c) (at d) +ℤ (squared_vector a b *ℤ B.bracket (at a) (at c) (at d)
    +ℤ squared_vector a d *ℤ B.bracket (at a) (at b) (at c))
from_first a b c d =
    let swapped = bracket-turn _ _ _ ∙ bracket-swap _ _ _ ∙ ap neg_ℤ (sym (bracket-turn _ _ _)) in
    ring_in_from (squared_vector a c ∷ B.bracket (at a) (at b) (at d) ∷ incircle _ _ _ _
    ∷ squared_vector a b ∷ B.bracket (at a) (at c) (at d) ∷ B.bracket (at a) (at d) (at c)
    ∷ squared_vector a d ∷ B.bracket (at a) (at b) (at c) ∷ [])
    (λ ac abd o ab acd adc ad abc. ac ⊗ abd)
    (λ ac abd o ab acd adc ad abc. o ⊕ (ab ⊗ acd ⊕ ad ⊗ abc))
    (λ ac abd o ab acd adc ad abc. (⊝ (num 1), o, adc ⊗ ab ⊕ abd ⊗ ac ⊖ abc ⊗ ad)
    ∷ (⊝ ab, adc, ⊝ acd) ∷ []) (incircle-from_first a b c d, (swapped, tt)) tt

-- two triples at the side a c: where d is not outside of the circle of a, b and c, the way round
-- all four turns left at a
convex_at_first : (a b c d : Point) → pos 0 <ℤ B.bracket (at a) (at b) (at c)
    → pos 0 <ℤ B.bracket (at a) (at c) (at d) → pos 0 ≤ℤ incircle (at a) (at b) (at c) (at d)
    → pos 0 <ℤ B.bracket (at a) (at b) (at d)
convex_at_first a b c d abc acd e = pos_of_mul-pos_ℤ (way_positive a c d acd)
    (sum_positive _ (incircle (at a) (at b) (at c) (at d)) _ _ (from_first a b c d) e
    (mul-pos_ℤ (way_positive a b c abc) acd) (mul-nonneg_ℤ (sum_not_negative _ _
    (square-nonneg_ℤ (d.x -ℤ a.x)) (square-nonneg_ℤ (d.y -ℤ a.y))) (weak abc)))

-- and at c
convex_at_third : (a b c d : Point) → pos 0 <ℤ B.bracket (at a) (at b) (at c)
    → pos 0 <ℤ B.bracket (at a) (at c) (at d) → pos 0 ≤ℤ incircle (at a) (at b) (at c) (at d)
    → pos 0 <ℤ B.bracket (at b) (at c) (at d)
convex_at_third a b c d abc acd e = subst (λ z. pos 0 <ℤ z) (sym (bracket-turn _ _ _))
    (convex_at_first c d a b (rw bracket-turn at acd)
    (subst (λ z. pos 0 <ℤ z) (bracket-turn _ _ _ ∙ bracket-turn _ _ _) abc)
    (subst (λ z. pos 0 ≤ℤ z) (incircle-opposite _ _ _ _) e))

-- ---- a triple u v w, a point x inside, and p beyond the side u v
-- a segment through which the way passes strictly within hides p
hidden : (a b p x : Fraction) → bracket a b p <ℤ pos 0 → pos 0 <ℤ bracket a b x
    → bracket x p a <ℤ pos 0 → pos 0 <ℤ bracket x p b → ¬ IsOpen a b p x
hidden a b p x right left pa pb (on_line h) = right_not_zero right h
hidden a b p x right left pa pb (both_left h k) = both_signs h right
hidden a b p x right left pa pb (both_right h k) = both_signs left k
hidden a b p x right left pa pb (past_left h k) = both_signs h pa
hidden a b p x right left pa pb (past_right h k) = both_signs pb k

module _ (u v w p x : Fraction) (turns : pos 0 <ℤ bracket u v w) (inside : InOpen u v w x)
    (right : bracket u v p <ℤ pos 0) where
  -- the way from x to p leaves the first end on its right
  past_first : pos 0 <ℤ bracket u p w → bracket x p u <ℤ pos 0
  past_first convex = subst (λ z. z <ℤ pos 0) (bracket-turned x p u)
      (neg_of_mul-neg_ℤ {k = bracket u v w} {x = bracket p u x} turns
      (sum_negative _ (bracket v w x *ℤ bracket p u u) (bracket w u x *ℤ bracket p u v)
      (bracket u v x *ℤ bracket p u w) (cramer u v w x p u)
      (zero-mul_ℤ (bracket v w x) (bracket-second p u))
      (mul-neg_of_pos_neg_ℤ inside.third
      (subst (λ z. z <ℤ pos 0) (bracket-turned p u v) right))
      (mul-neg_of_pos_neg_ℤ inside.first (negated_right (bracket-swapped u p w) convex))))

  -- and the second on its left
  past_second : pos 0 <ℤ bracket p v w → pos 0 <ℤ bracket x p v
  past_second convex = subst (λ z. pos 0 <ℤ z) (bracket-turned x p v)
      (pos_of_mul-pos_ℤ {k = bracket u v w} {x = bracket p v x} turns
      (sum_above _ (bracket v w x *ℤ bracket p v u) (bracket w u x *ℤ bracket p v v)
      (bracket u v x *ℤ bracket p v w) (cramer u v w x p v)
      (mul-pos_ℤ inside.second (negated_left
      (bracket-swapped v p u ∙ ap neg_ℤ (bracket-turned u v p)) right))
      (zero-mul_ℤ (bracket w u x) (bracket-second p v))
      (mul-pos_ℤ inside.first convex)))

-- what is seen past all constraints of the whole is seen past those of a part
seen_back : (s t : Triangulation) (d c : List (ℕ × ℕ)) → IsPartOfPlane s d t c
    → (u v w p : Fraction) → IsSeen t c u v w p → IsSeen s d u v w p
seen_back s t d c there u v w p e = record {
  from = e.from;
  inside = e.inside;
  free = λ i j h y k l. let m = there.covered i j h y l in e.free m.0 m.1 m.2 y k m.3;
}

-- what the disk of a triple has beyond a side that is a constraint is not seen from inside
pub beyond_side_is_hidden : BeyondSideIsHidden
unfolding bracket lift
beyond_side_is_hidden s t d c there i j k n turns joined beyond within seen =
    hidden u v p x right inside.first (past_first u v w p x upright inside right at_first)
    (past_second u v w p x upright inside right at_second) seen_past
  where
    u : Fraction
    u = vertex s i

    v : Fraction
    v = vertex s j

    w : Fraction
    w = vertex s k

    p : Fraction
    p = vertex t n

    back : IsSeen s d u v w p
    back = seen_back s t d c there u v w p seen

    x : Fraction
    x = back.from

    upright : pos 0 <ℤ bracket u v w
    upright = above_if_left u v w turns

    inside : InOpen u v w x
    inside = inside_of u v w x turns back.inside

    behind : pos 0 <ℤ bracket v u p
    behind = above_if_left v u p beyond

    right : bracket u v p <ℤ pos 0
    right = negated_right (bracket-swapped v u p) behind

    seen_past : IsOpen u v p x
    seen_past = open_if_free u v p x (λ y a b. back.free i j joined y
        (mean_of_two IsNotNegative x p y a) (mean_of_two IsNotNegative u v y b))

    above : pos 0 ≤ℤ lift u v w p
    above = elim within [
      | inl h ↦ weak ((inside_is_lift (spot s i) (spot s j) (spot s k) (spot t n) turns).0 h)
      | inr h ↦ zero_weak_left
          ((on_is_lift (spot s i) (spot s j) (spot s k) (spot t n) turns).0 h)
    ]

    -- round the four points, from the first end on
    opposite : pos 0 ≤ℤ incircle (at (spot s i)) (at (spot t n)) (at (spot s j)) (at (spot s k))
    opposite = subst (λ z. pos 0 ≤ℤ z)
        (sym (incircle-turn (at (spot s i)) (at (spot s j)) (at (spot s k)) (at (spot t n)))
        ∙ incircle-opposite (at (spot s j)) (at (spot s k)) (at (spot s i)) (at (spot t n))) above

    round : pos 0 <ℤ B.bracket (at (spot s i)) (at (spot t n)) (at (spot s j))
    round = subst (λ z. pos 0 <ℤ z) (sym (bracket-turned v u p)) behind

    at_first : pos 0 <ℤ bracket u p w
    at_first = convex_at_first (spot s i) (spot t n) (spot s j) (spot s k) round upright opposite

    at_second : pos 0 <ℤ bracket p v w
    at_second = convex_at_third (spot s i) (spot t n) (spot s j) (spot s k) round upright opposite
