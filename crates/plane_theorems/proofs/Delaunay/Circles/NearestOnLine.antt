-- Of two vertices and a point within their segment: how far they are from a third point. On one
-- line a vertex to which no neighbour is nearer than it is nearest of all.
-- Lemmas: nearest_on_line.
use Rattle.std.proofs.Common.{◌≡◌, ℕ, zero, suc, ◌<◌, [], ◌∷◌, arith, sym, subst}
use lib.IntN.{nat_abs}
use mathlib.Core.Logic.{◌⊎◌, inl, inr}
use Rattle.std.specs.Prelude.{ℤ, pos, ◌<ℤ◌, ◌≤ℤ◌, ◌+ℤ◌, ◌-ℤ◌, ◌*ℤ◌}
use Rattle.std.proofs.lemmas.Int.{ints}
use Rattle.std.proofs.Math.Nat.{lt-suc_self}
use Rattle.plane.specs.{Fraction, gap, IsEdge, IsNearer, IsNearest, IsPositive, IsSame, IsVertex}
use Rattle.plane.specs.{JoinsLine, Point, rise, run, Triangulation, vertex, whole}
use Rattle.plane.proofs.{◌⊕◌, ◌⊖◌, ◌⊗◌, above, below, gap_not_negative, less_with_ones}
use Rattle.plane.proofs.{less_without_ones, magnitude_below, mul-nonneg_ℤ, mul-pos_ℤ, none, num}
use Rattle.plane.proofs.{pos_of_mul-pos_ℤ, positive_plus_not_negative, ring_in_from, same-sym}
use Rattle.plane.proofs.{same_not_nearer, Sign, sign, square-nonneg_ℤ, square-pos_ℤ}
use Rattle.plane.proofs.{sum_not_negative_of, two_weights, TwoWeights, weak, ⊝}
use Rattle.plane.proofs.{Segments.same_is_no_vector, Signs.not_negative_plus_positive}

-- ---- one coordinate
-- where k is the mean of v and w under the weights a and b, of the sum n
mean_square : (n a b k v w : ℤ) → n *ℤ k ≡ a *ℤ v +ℤ b *ℤ w → n ≡ a +ℤ b → n *ℤ n
    *ℤ (v *ℤ v -ℤ k *ℤ k) ≡ n *ℤ b *ℤ (v *ℤ v -ℤ w *ℤ w) +ℤ a *ℤ b *ℤ ((w -ℤ v) *ℤ (w -ℤ v))
mean_square n a b k v w e d = ring_in_from (n ∷ a ∷ b ∷ k ∷ v ∷ w ∷ [])
    (λ n a b k v w. n ⊗ n ⊗ (v ⊗ v ⊖ k ⊗ k))
    (λ n a b k v w. n ⊗ b ⊗ (v ⊗ v ⊖ w ⊗ w) ⊕ a ⊗ b ⊗ ((w ⊖ v) ⊗ (w ⊖ v)))
    (λ n a b k v w. (⊝ (n ⊗ k ⊕ a ⊗ v ⊕ b ⊗ w), n ⊗ k, a ⊗ v ⊕ b ⊗ w)
    ∷ ((n ⊕ a ⊕ b) ⊗ v ⊗ v ⊖ b ⊗ (v ⊗ v ⊖ w ⊗ w), n, a ⊕ b) ∷ [])
    (e, (d, tt)) tt

-- the same seen from a point c / m
mean_way : (n a b k v w c m : ℤ) → n *ℤ k ≡ a *ℤ v +ℤ b *ℤ w → n *ℤ pos 1 ≡ a *ℤ pos 1 +ℤ b *ℤ pos 1
    → n *ℤ (k *ℤ m -ℤ c *ℤ pos 1) ≡ a *ℤ (v *ℤ m -ℤ c *ℤ pos 1) +ℤ b *ℤ (w *ℤ m -ℤ c *ℤ pos 1)
mean_way n a b k v w c m e d = ring_in_from (n ∷ a ∷ b ∷ k ∷ v ∷ w ∷ c ∷ m ∷ [])
    (λ n a b k v w c m. n ⊗ (k ⊗ m ⊖ c ⊗ num 1))
    (λ n a b k v w c m. a ⊗ (v ⊗ m ⊖ c ⊗ num 1) ⊕ b ⊗ (w ⊗ m ⊖ c ⊗ num 1))
    (λ n a b k v w c m. (m, n ⊗ k, a ⊗ v ⊕ b ⊗ w) ∷ (⊝ c, n ⊗ num 1, a ⊗ num 1 ⊕ b ⊗ num 1) ∷ [])
    (e, (d, tt)) tt

part_way : (n a b k v w : ℤ) → n *ℤ k ≡ a *ℤ v +ℤ b *ℤ w → n *ℤ pos 1 ≡ a *ℤ pos 1 +ℤ b *ℤ pos 1
    → n *ℤ n *ℤ ((k *ℤ pos 1 -ℤ v *ℤ pos 1) *ℤ (k *ℤ pos 1 -ℤ v *ℤ pos 1))
    ≡ b *ℤ b *ℤ ((w *ℤ pos 1 -ℤ v *ℤ pos 1) *ℤ (w *ℤ pos 1 -ℤ v *ℤ pos 1))
part_way n a b k v w e d = ring_in_from (n ∷ a ∷ b ∷ k ∷ v ∷ w ∷ [])
    (λ n a b k v w. n ⊗ n ⊗ ((k ⊗ num 1 ⊖ v ⊗ num 1) ⊗ (k ⊗ num 1 ⊖ v ⊗ num 1)))
    (λ n a b k v w. b ⊗ b ⊗ ((w ⊗ num 1 ⊖ v ⊗ num 1) ⊗ (w ⊗ num 1 ⊖ v ⊗ num 1)))
    (λ n a b k v w. (n ⊗ (k ⊖ v) ⊕ b ⊗ (w ⊖ v), n ⊗ k, a ⊗ v ⊕ b ⊗ w)
    ∷ (⊝ v ⊗ (n ⊗ (k ⊖ v) ⊕ b ⊗ (w ⊖ v)), n ⊗ num 1, a ⊗ num 1 ⊕ b ⊗ num 1) ∷ [])
    (e, (d, tt)) tt

-- ---- both coordinates
two_squares : (nn nb ab x₁ x₂ x₃ d₁ y₁ y₂ y₃ d₂ : ℤ) → nn *ℤ (x₁ -ℤ x₂)
    ≡ nb *ℤ (x₁ -ℤ x₃) +ℤ ab *ℤ d₁ → nn *ℤ (y₁ -ℤ y₂) ≡ nb *ℤ (y₁ -ℤ y₃) +ℤ ab *ℤ d₂
    → nn *ℤ ((x₁ +ℤ y₁) -ℤ (x₂ +ℤ y₂)) ≡ nb *ℤ ((x₁ +ℤ y₁) -ℤ (x₃ +ℤ y₃)) +ℤ ab *ℤ (d₁ +ℤ d₂)
two_squares nn nb ab x₁ x₂ x₃ d₁ y₁ y₂ y₃ d₂ e d =
    ring_in_from (nn ∷ nb ∷ ab ∷ x₁ ∷ x₂ ∷ x₃ ∷ y₁ ∷ y₂ ∷ y₃ ∷ d₁ ∷ d₂ ∷ [])
    (λ nn nb ab x₁ x₂ x₃ y₁ y₂ y₃ d₁ d₂. nn ⊗ ((x₁ ⊕ y₁) ⊖ (x₂ ⊕ y₂)))
    (λ nn nb ab x₁ x₂ x₃ y₁ y₂ y₃ d₁ d₂. nb ⊗ ((x₁ ⊕ y₁) ⊖ (x₃ ⊕ y₃)) ⊕ ab ⊗ (d₁ ⊕ d₂))
    (λ nn nb ab x₁ x₂ x₃ y₁ y₂ y₃ d₁ d₂. (num 1, nn ⊗ (x₁ ⊖ x₂), nb ⊗ (x₁ ⊖ x₃) ⊕ ab ⊗ d₁)
    ∷ (num 1, nn ⊗ (y₁ ⊖ y₂), nb ⊗ (y₁ ⊖ y₃) ⊕ ab ⊗ d₂) ∷ [])
    (e, (d, tt)) tt

two_parts : (nn bb x y u v : ℤ) → nn *ℤ x ≡ bb *ℤ u → nn *ℤ y ≡ bb *ℤ v
    → nn *ℤ (x +ℤ y) ≡ bb *ℤ (u +ℤ v)
two_parts nn bb x y u v e d = ring_in_from (nn ∷ bb ∷ x ∷ y ∷ u ∷ v ∷ [])
    (λ nn bb x y u v. nn ⊗ (x ⊕ y)) (λ nn bb x y u v. bb ⊗ (u ⊕ v))
    (λ nn bb x y u v. (num 1, nn ⊗ x, bb ⊗ u) ∷ (num 1, nn ⊗ y, bb ⊗ v) ∷ []) (e, (d, tt)) tt

below_from : (nn nb ab x k w d : ℤ) → nn *ℤ (x -ℤ k) ≡ nb *ℤ (x -ℤ w) +ℤ ab *ℤ d → pos 0 <ℤ nn
    → pos 0 <ℤ nb → pos 0 ≤ℤ ab → pos 0 ≤ℤ d → w <ℤ x → k <ℤ x
below_from nn nb ab x k w d e hn hb ha hd h =
    less (pos_of_mul-pos_ℤ {k = nn} {x = x -ℤ k} hn above_none)
  where
    difference : pos 0 <ℤ (x -ℤ w)
    difference = omega (arith, ints)

    above_none : pos 0 <ℤ (nn *ℤ (x -ℤ k))
    above_none = let p = mul-pos_ℤ {a = nb} {b = x -ℤ w} hb difference in
        let q = mul-nonneg_ℤ {a = ab} {b = d} ha hd in omega (arith, ints)

    less : pos 0 <ℤ (x -ℤ k) → k <ℤ x
    less i = omega (arith, ints)

squares_apart : (n a b g h : ℤ) → n ≡ a +ℤ b → n *ℤ n *ℤ g ≡ b *ℤ b *ℤ h
    → n *ℤ n *ℤ (h -ℤ g) ≡ a *ℤ ((n +ℤ b) *ℤ h)
squares_apart n a b g h d e = ring_in_from (n ∷ a ∷ b ∷ g ∷ h ∷ []) (λ n a b g h. n ⊗ n ⊗ (h ⊖ g))
    (λ n a b g h. a ⊗ ((n ⊕ b) ⊗ h))
    (λ n a b g h. ((n ⊕ b) ⊗ h, n, a ⊕ b) ∷ (num 0 ⊖ num 1, n ⊗ n ⊗ g, b ⊗ b ⊗ h) ∷ [])
    (d, (e, tt)) tt

smaller_from : (n a b g h : ℤ) → n ≡ a +ℤ b → n *ℤ n *ℤ g ≡ b *ℤ b *ℤ h → pos 0 <ℤ n → pos 0 <ℤ a
    → pos 0 <ℤ b → pos 0 <ℤ h → g <ℤ h
smaller_from n a b g h d e hn ha hb hh = less (pos_of_mul-pos_ℤ {k = n *ℤ n} {x = h -ℤ g}
    (mul-pos_ℤ {a = n} {b = n} hn hn) (subst (λ z. pos 0 <ℤ z) (sym (squares_apart n a b g h d e))
    (mul-pos_ℤ {a = a} {b = (n +ℤ b) *ℤ h} ha (mul-pos_ℤ {a = n +ℤ b} {b = h} sum hh))))
  where
    sum : pos 0 <ℤ (n +ℤ b)
    sum = omega (arith, ints)

    less : pos 0 <ℤ (h -ℤ g) → g <ℤ h
    less i = omega (arith, ints)

-- ---- of two points and one strictly within their segment
plain_sum : (n a b : ℤ) → n *ℤ pos 1 ≡ a *ℤ pos 1 +ℤ b *ℤ pos 1 → n ≡ a +ℤ b
plain_sum n a b e = omega (arith, ints)

abbrev square : ℤ → ℤ
square z = z *ℤ z

module _ (p : Fraction) (v w k : Point)
    (m : TwoWeights IsPositive (whole v) (whole w) (whole k)) where
  total_weight : m.n ≡ m.k +ℤ m.l
  total_weight = plain_sum m.n m.k m.l m.w

  -- nearer to p than v, where w is
  nearer_within : IsNearer p (whole w) (whole v) → IsNearer p (whole k) (whole v)
  nearer_within near = let dx = square (run p (whole w) -ℤ run p (whole v)) in
      let dy = square (rise p (whole w) -ℤ rise p (whole v)) in record {
        nearer = less_with_ones (gap p (whole k)) (gap p (whole v))
            (below_from (m.n *ℤ m.n) (m.n *ℤ m.l) (m.k *ℤ m.l) (gap p (whole v)) (gap p (whole k))
            (gap p (whole w)) (dx +ℤ dy)
            (two_squares (m.n *ℤ m.n) (m.n *ℤ m.l) (m.k *ℤ m.l)
            (square (run p (whole v))) (square (run p (whole k))) (square (run p (whole w))) dx
            (square (rise p (whole v))) (square (rise p (whole k))) (square (rise p (whole w))) dy
            (mean_square m.n m.k m.l (run p (whole k)) (run p (whole v)) (run p (whole w))
            (mean_way m.n m.k m.l k.x v.x w.x p.x p.w m.x m.w) total_weight)
            (mean_square m.n m.k m.l (rise p (whole k)) (rise p (whole v)) (rise p (whole w))
            (mean_way m.n m.k m.l k.y v.y w.y p.y p.w m.y m.w) total_weight))
            (mul-pos_ℤ m.positive m.positive) (mul-pos_ℤ m.positive m.l_allowed)
            (weak (mul-pos_ℤ m.k_allowed m.l_allowed))
            (sum_not_negative_of (square-nonneg_ℤ (run p (whole w) -ℤ run p (whole v)))
            (square-nonneg_ℤ (rise p (whole w) -ℤ rise p (whole v))))
            (less_without_ones (gap p (whole w)) (gap p (whole v)) near.nearer));
      }

  -- and nearer to v than w is
  closer_within : pos 0 <ℤ gap (whole v) (whole w)
      → gap (whole v) (whole k) <ℤ gap (whole v) (whole w)
  closer_within h =
      smaller_from m.n m.k m.l (gap (whole v) (whole k)) (gap (whole v) (whole w)) total_weight
      (two_parts (m.n *ℤ m.n) (m.l *ℤ m.l) (square (run (whole v) (whole k)))
      (square (rise (whole v) (whole k))) (square (run (whole v) (whole w)))
      (square (rise (whole v) (whole w))) (part_way m.n m.k m.l k.x v.x w.x m.x m.w)
      (part_way m.n m.k m.l k.y v.y w.y m.y m.w))
      m.positive m.k_allowed m.l_allowed h

not_zero : {z : ℤ} → (z <ℤ pos 0) ⊎ (pos 0 <ℤ z) → ¬ (z ≡ pos 0)
not_zero (inl h) e = omega (arith, ints)
not_zero (inr h) e = omega (arith, ints)

apart : (p : Fraction) (v w : Point) → IsNearer p (whole w) (whole v)
    → pos 0 <ℤ gap (whole v) (whole w)
apart p v w near = go (sign (run (whole v) (whole w))) (sign (rise (whole v) (whole w)))
  where
    dx : ℤ
    dx = run (whole v) (whole w)

    dy : ℤ
    dy = rise (whole v) (whole w)

    wide : ¬ (dx ≡ pos 0) → pos 0 <ℤ gap (whole v) (whole w)
    wide n = positive_plus_not_negative (dx *ℤ dx) (dy *ℤ dy) (square-pos_ℤ {a = dx} n)
        (square-nonneg_ℤ dy)

    high : ¬ (dy ≡ pos 0) → pos 0 <ℤ gap (whole v) (whole w)
    high n = not_negative_plus_positive (dx *ℤ dx) (dy *ℤ dy) (square-nonneg_ℤ dx)
        (square-pos_ℤ {a = dy} n)

    go : Sign dx → Sign dy → pos 0 <ℤ gap (whole v) (whole w)
    go (below h) s = wide (not_zero (inl h))
    go (above h) s = wide (not_zero (inr h))
    go (none h) (below k) = high (not_zero (inl k))
    go (none h) (above k) = high (not_zero (inr k))
    go (none h) (none k) = absurd (same_not_nearer p (whole w) (whole v)
        (same-sym (whole v) (whole w) ((same_is_no_vector (whole v) (whole w)).1 (h, k))) near)

-- ---- along the line

module _ (t : Triangulation) (h : JoinsLine t) (p : Fraction) (v : ℕ) (hv : IsVertex t v)
    (neighbours : (u : ℕ) → IsEdge t v u → ¬ IsNearer p (vertex t u) (vertex t v)) where
  -- a nearer vertex next to v is a neighbour, and of any other one strictly between is nearer too
  none_nearer : (m w : ℕ) → IsVertex t w → nat_abs (gap (vertex t v) (vertex t w)) < m
      → ¬ IsNearer p (vertex t w) (vertex t v)
  none_nearer zero w hw l near = absurd (omega arith)
  none_nearer (suc m) w hw l near = neighbours w ((h.neighbours v w).1 (record {
    apart = λ e. same_not_nearer p (vertex t w) (vertex t v)
        (subst (λ i. IsSame (vertex t i) (vertex t v)) e
        (record { x = λ _. (vertex t v).x *ℤ pos 1; y = λ _. (vertex t v).y *ℤ pos 1 })) near;
    first = hv;
    second = hw;
    none_between = λ k hk within. none_nearer m k hk
        (closer k (two_weights IsPositive (vertex t v) (vertex t w) (vertex t k) within))
        (nearer k (two_weights IsPositive (vertex t v) (vertex t w) (vertex t k) within));
  })) near
    where
      closer : (k : ℕ) → TwoWeights IsPositive (vertex t v) (vertex t w) (vertex t k)
          → nat_abs (gap (vertex t v) (vertex t k)) < m
      closer k s = magnitude_below m (gap (vertex t v) (vertex t k)) (gap (vertex t v) (vertex t w))
          (closer_within p _ _ _ s (apart p _ _ near))
          (gap_not_negative (vertex t v) (vertex t k)) l

      nearer : (k : ℕ) → TwoWeights IsPositive (vertex t v) (vertex t w) (vertex t k)
          → IsNearer p (vertex t k) (vertex t v)
      nearer k s = nearer_within p _ _ _ s near

  -- a vertex of a line without a nearer neighbour is the nearest
  pub nearest_on_line : IsNearest t p v
  nearest_on_line = record {
    is_vertex = hv;
    none_nearer = λ w hw. none_nearer (suc (nat_abs (gap (vertex t v) (vertex t w)))) w hw
        (lt-suc_self (nat_abs (gap (vertex t v) (vertex t w))));
  }
