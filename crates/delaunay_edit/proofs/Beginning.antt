-- Which edges a segment crosses before one of its vertices: those that its beginning, up to there,
-- crosses.
-- Lemmas: crossed_one_way, part_meets, whole_meets, met_before.
use Rattle.std.proofs.Common.{◌≡◌, ◌⊎◌, ℕ, sym, subst, inl, inr, arith}
use lib.IntN.{neg_ℤ, *ℤ_comm}
use Rattle.std.specs.Prelude.{ℤ, pos, ◌+ℤ◌, ◌*ℤ◌, ◌≤ℤ◌, ◌<ℤ◌}
use Rattle.std.proofs.lemmas.Int.{ints}
use Rattle.plane.specs.{across, at_vertex, Fraction, IsBefore, IsNotNegative, IsPositive, IsSame}
use Rattle.plane.specs.{Meets, OnSegment, Triangulation, vertex, WithinSegment}
use Rattle.plane.proofs.{both_signs, bracket_of_two, drop_zero, lt_or_ge_ℤ, mul-neg_of_pos_neg_ℤ}
use Rattle.plane.proofs.{mul-nonneg_ℤ, mul-nonpos_of_nonneg_nonpos_ℤ, mul-pos_ℤ, neg_of_mul-neg_ℤ}
use Rattle.plane.proofs.{pos_of_mul-pos_ℤ, same-sym, two_weights, TwoWeights, vec, weak, zero-mul_ℤ}
use Rattle.plane_theorems.proofs.{bracket, bracket-second, bracket-swapped, on_parts}
use Rattle.plane_theorems.proofs.Delaunay.Points.Bracket.{bracket-turned}
use Rattle.plane_theorems.proofs.Segments.Items.Begins.{above-same, after_crossing, before_crossing}
use Rattle.plane_theorems.proofs.Segments.Items.Begins.{met_if, Signs, signs_of}

-- ---- a point of the segment that is not its start
-- the weights of such a point: that of the end is above 0
record FromEnd (p q w : Fraction) : Type 0 where
  weights : TwoWeights IsNotNegative p q w
  some : pos 0 <ℤ weights.l

from_end : (p q w : Fraction) → OnSegment p q w → ¬ IsSame w p → FromEnd p q w
from_end p q w on away = go (on_parts p q w on)
  where
    at_end : (a b x y : ℤ) (z : ℤ) → x *ℤ b ≡ y *ℤ a → b *ℤ x ≡ pos 0 *ℤ z +ℤ a *ℤ y
    at_end a b x y z e = let c = *ℤ_comm b x in let d = *ℤ_comm a y in omega (arith, ints)

    go : IsSame w p ⊎ (IsSame w q ⊎ WithinSegment p q w) → FromEnd p q w
    go (inl e) = absurd (away e)
    go (inr (inl e)) = record {
      weights = record {
        k = pos 0;
        l = w.w;
        n = q.w;
        k_allowed = omega (arith, ints);
        l_allowed = weak w.positive;
        positive = q.positive;
        x = at_end w.w q.w w.x q.x p.x e.x;
        y = at_end w.w q.w w.y q.y p.y e.y;
        w = at_end w.w q.w w.w q.w p.w (*ℤ_comm w.w q.w);
      };
      some = w.positive;
    }
    go (inr (inr h)) = let t = two_weights IsPositive p q w h in record {
      weights = record {
        k = t.k;
        l = t.l;
        n = t.n;
        k_allowed = weak t.k_allowed;
        l_allowed = weak t.l_allowed;
        positive = t.positive;
        x = t.x;
        y = t.y;
        w = t.w;
      };
      some = t.l_allowed;
    }

module _ (p q w : Fraction) (f : FromEnd p q w) where
  -- the bracket of a line and w, by those of the ends
  by_ends : (a b : Fraction) → f.weights.n *ℤ bracket a b w
      ≡ f.weights.k *ℤ bracket a b p +ℤ f.weights.l *ℤ bracket a b q
  unfolding bracket
  by_ends a b = bracket_of_two IsNotNegative (vec a) (vec b) p q w f.weights

  -- a point is on the same side of the beginning as of the whole
  same_side : (a : Fraction) → f.weights.n *ℤ bracket p w a ≡ f.weights.l *ℤ bracket p q a
  same_side a = subst (λ (z : ℤ × ℤ). f.weights.n *ℤ z.0 ≡ f.weights.l *ℤ z.1)
      (λ o. (sym (bracket-turned a p w) o, sym (bracket-turned a p q) o))
      (drop_zero _ _ _ (by_ends a p) (zero-mul_ℤ f.weights.k (bracket-second a p)))

  left_too : (a : Fraction) → pos 0 <ℤ bracket p q a → pos 0 <ℤ bracket p w a
  left_too a h = pos_of_mul-pos_ℤ f.weights.positive
      (subst (λ z. pos 0 <ℤ z) (sym (same_side a)) (mul-pos_ℤ f.some h))

  right_too : (a : Fraction) → bracket p q a <ℤ pos 0 → bracket p w a <ℤ pos 0
  right_too a h = neg_of_mul-neg_ℤ f.weights.positive
      (subst (λ z. z <ℤ pos 0) (sym (same_side a)) (mul-neg_of_pos_neg_ℤ f.some h))

  left_of_whole : (a : Fraction) → pos 0 <ℤ bracket p w a → pos 0 <ℤ bracket p q a
  left_of_whole a h = pos_of_mul-pos_ℤ f.some
      (subst (λ z. pos 0 <ℤ z) (same_side a) (mul-pos_ℤ f.weights.positive h))

  right_of_whole : (a : Fraction) → bracket p w a <ℤ pos 0 → bracket p q a <ℤ pos 0
  right_of_whole a h = neg_of_mul-neg_ℤ f.some
      (subst (λ z. z <ℤ pos 0) (same_side a) (mul-neg_of_pos_neg_ℤ f.weights.positive h))

  -- an edge with the start on its right, or on it, and w on its left, or on it, has the end there
  end_too : (a b : Fraction) → bracket a b p ≤ℤ pos 0 → pos 0 ≤ℤ bracket a b w
      → pos 0 ≤ℤ bracket a b q
  end_too a b h k = elim (lt_or_ge_ℤ (bracket a b q) (pos 0)) [
    | inl less ↦ absurd (clash _ _ _ (by_ends a b) (mul-nonneg_ℤ (weak f.weights.positive) k)
        (mul-nonpos_of_nonneg_nonpos_ℤ f.weights.k_allowed h) (mul-neg_of_pos_neg_ℤ f.some less))
    | inr more ↦ more
  ]
    where
      clash : (s x y : ℤ) → s ≡ x +ℤ y → pos 0 ≤ℤ s → x ≤ℤ pos 0 → y <ℤ pos 0 → ⊥
      clash s x y e h k l = omega (arith, ints)

  -- an edge that the beginning crosses is crossed by the whole
  whole_signs : (a b : Fraction) → Signs p w a b → Signs p q a b
  whole_signs a b s = record {
    left = left_of_whole a s.left;
    right = right_of_whole b s.right;
    start = s.start;
    end = end_too a b s.start s.end;
  }

  -- and one that the whole crosses by the beginning, if it has w on its left
  part_signs : (a b : Fraction) → Signs p q a b → pos 0 <ℤ bracket a b w → Signs p w a b
  part_signs a b s h = record {
    left = left_too a s.left;
    right = right_too b s.right;
    start = s.start;
    end = weak h;
  }

-- ---- the edges of a triangulation
module _ (t : Triangulation) (p q : Fraction) (apart : ¬ IsSame p q) (a b : ℕ)
    (ends : ¬ IsSame (vertex t a) (vertex t b)) where
  -- no edge is crossed both ways
  pub crossed_one_way : Meets t p q (across a b) → ¬ Meets t p q (across b a)
  crossed_one_way m n = both_signs (signs_of t p q apart a b ends m).left
      (signs_of t p q apart b a (λ e. ends (same-sym _ _ e)) n).right

  module _ (v : ℕ) (on : OnSegment p q (vertex t v)) (away : ¬ IsSame (vertex t v) p) where
    from : FromEnd p q (vertex t v)
    from = from_end p q (vertex t v) on away

    begins_apart : ¬ IsSame p (vertex t v)
    begins_apart e = away (same-sym _ _ e)

    -- an edge that is crossed before vertex v is crossed by the beginning up to v
    pub part_meets : Meets t p q (across a b) → IsBefore t p q (across a b) (at_vertex v)
        → Meets t p (vertex t v) (across a b)
    part_meets m o =
        let s = signs_of t p q apart a b ends m in
        met_if t p (vertex t v) begins_apart a b m.0
        (part_signs p q (vertex t v) from (vertex t a) (vertex t b) s
        (above-same (vertex t a) (vertex t b) o.second (vertex t v) o.second_begins.of_item
        (after_crossing t p q apart a b s (at_vertex v) o)))

    -- what the beginning crosses the whole crosses
    pub whole_meets : Meets t p (vertex t v) (across a b) → Meets t p q (across a b)
    whole_meets m = met_if t p q apart a b m.0 (whole_signs p q (vertex t v) from (vertex t a)
        (vertex t b) (signs_of t p (vertex t v) begins_apart a b ends m))

    -- and not after v
    pub met_before : Meets t p (vertex t v) (across a b)
        → ¬ IsBefore t p q (at_vertex v) (across a b)
    met_before m o =
        let s = signs_of t p (vertex t v) begins_apart a b ends m in
        clash _ _ (bracket-swapped (vertex t a) (vertex t b) (vertex t v)) s.end
        (above-same (vertex t b) (vertex t a) o.first (vertex t v) o.first_begins.of_item
        (before_crossing t p q apart a b (whole_signs p q (vertex t v) from (vertex t a)
        (vertex t b) s) (at_vertex v) o))
      where
        clash : (x y : ℤ) → y ≡ neg_ℤ x → pos 0 ≤ℤ x → pos 0 <ℤ y → ⊥
        clash x y e h k = omega (arith, ints)
