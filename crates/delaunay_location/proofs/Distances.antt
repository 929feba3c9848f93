-- A point strictly between is nearer than the end beyond it.
-- Lemmas: nearer_of_within.
use Rattle.std.proofs.Common.{◌≡◌, ◌⊎◌, [], ◌∷◌, arith}
use mathlib.Core.Logic.{inl, inr}
use Rattle.std.specs.Prelude.{ℤ, pos, ◌+ℤ◌, ◌-ℤ◌, ◌*ℤ◌, ◌<ℤ◌, ◌≤ℤ◌}
use Rattle.std.proofs.lemmas.Int.{ints}
use Rattle.plane.specs.{gap, Point, whole, WithinSegment}
use Rattle.plane.proofs.{◌⊕◌, ◌⊖◌, ◌⊗◌, mul-nonneg_of_nonpos_ℤ, mul-nonneg_ℤ, no_difference, num}
use Rattle.plane.proofs.{positive_plus_not_negative, ring_in, square-nonneg_ℤ, square-pos_ℤ}
use Rattle.plane.proofs.{Signs.positive_is_not_zero, trichotomy_ℤ}
use Rattle.plane.proofs.Signs.{negative_is_not_zero, not_negative_plus_positive}
use Rattle.delaunay_legalization.specs.Between.{IsFrom}
use Rattle.delaunay_legalization.proofs.Between.{box_of_within}

-- what is left of the way
rest : (a b c : ℤ) → IsFrom a b c → pos 0 ≤ℤ ((b -ℤ c) *ℤ (c -ℤ a))
rest a b c (inl h) = mul-nonneg_ℤ {a = b -ℤ c} {b = c -ℤ a} (let k = h.1 in
    omega (arith, ints)) (let k = h.0 in omega (arith, ints))
rest a b c (inr h) = mul-nonneg_of_nonpos_ℤ {a = b -ℤ c} {b = c -ℤ a} (let k = h.0 in
    omega (arith, ints)) (let k = h.1 in omega (arith, ints))

longer : (px py kx ky ix iy : ℤ) → ((kx *ℤ pos 1 -ℤ px *ℤ pos 1) *ℤ (kx *ℤ pos 1 -ℤ px *ℤ pos 1)
    +ℤ (ky *ℤ pos 1 -ℤ py *ℤ pos 1) *ℤ (ky *ℤ pos 1 -ℤ py *ℤ pos 1))
    ≡ ((ix *ℤ pos 1 -ℤ px *ℤ pos 1) *ℤ (ix *ℤ pos 1 -ℤ px *ℤ pos 1) +ℤ (iy *ℤ pos 1 -ℤ py *ℤ pos 1)
    *ℤ (iy *ℤ pos 1 -ℤ py *ℤ pos 1)) +ℤ (((kx -ℤ ix) *ℤ (kx -ℤ ix) +ℤ (ky -ℤ iy) *ℤ (ky -ℤ iy))
    +ℤ (pos 2 *ℤ ((kx -ℤ ix) *ℤ (ix -ℤ px)) +ℤ pos 2 *ℤ ((ky -ℤ iy) *ℤ (iy -ℤ py))))
longer px py kx ky ix iy = ring_in (px ∷ py ∷ kx ∷ ky ∷ ix ∷ iy ∷ [])
    (λ px py kx ky ix iy. (kx ⊗ num 1 ⊖ px ⊗ num 1) ⊗ (kx ⊗ num 1 ⊖ px ⊗ num 1)
    ⊕ (ky ⊗ num 1 ⊖ py ⊗ num 1) ⊗ (ky ⊗ num 1 ⊖ py ⊗ num 1))
    (λ px py kx ky ix iy. ((ix ⊗ num 1 ⊖ px ⊗ num 1) ⊗ (ix ⊗ num 1 ⊖ px ⊗ num 1)
    ⊕ (iy ⊗ num 1 ⊖ py ⊗ num 1) ⊗ (iy ⊗ num 1 ⊖ py ⊗ num 1))
    ⊕ (((kx ⊖ ix) ⊗ (kx ⊖ ix) ⊕ (ky ⊖ iy) ⊗ (ky ⊖ iy))
    ⊕ (num 2 ⊗ ((kx ⊖ ix) ⊗ (ix ⊖ px)) ⊕ num 2 ⊗ ((ky ⊖ iy) ⊗ (iy ⊖ py))))) tt

sum_of_squares : (a b c d : ℤ) → ¬ ((a ≡ c) × (b ≡ d))
    → pos 0 <ℤ ((a -ℤ c) *ℤ (a -ℤ c) +ℤ (b -ℤ d) *ℤ (b -ℤ d))
sum_of_squares a b c d n = go (trichotomy_ℤ (a -ℤ c)) (trichotomy_ℤ (b -ℤ d))
  where
    by_first : ¬ (a -ℤ c ≡ pos 0) → pos 0 <ℤ ((a -ℤ c) *ℤ (a -ℤ c) +ℤ (b -ℤ d) *ℤ (b -ℤ d))
    by_first h = positive_plus_not_negative ((a -ℤ c) *ℤ (a -ℤ c)) ((b -ℤ d) *ℤ (b -ℤ d))
        (square-pos_ℤ h) (square-nonneg_ℤ (b -ℤ d))

    by_second : ¬ (b -ℤ d ≡ pos 0) → pos 0 <ℤ ((a -ℤ c) *ℤ (a -ℤ c) +ℤ (b -ℤ d) *ℤ (b -ℤ d))
    by_second h = not_negative_plus_positive ((a -ℤ c) *ℤ (a -ℤ c)) ((b -ℤ d) *ℤ (b -ℤ d))
        (square-nonneg_ℤ (a -ℤ c)) (square-pos_ℤ h)

    go : ((a -ℤ c) <ℤ pos 0) ⊎ ((a -ℤ c ≡ pos 0) ⊎ (pos 0 <ℤ (a -ℤ c)))
        → ((b -ℤ d) <ℤ pos 0) ⊎ ((b -ℤ d ≡ pos 0) ⊎ (pos 0 <ℤ (b -ℤ d)))
        → pos 0 <ℤ ((a -ℤ c) *ℤ (a -ℤ c) +ℤ (b -ℤ d) *ℤ (b -ℤ d))
    go (inl h) k = by_first (negative_is_not_zero (a -ℤ c) h)
    go (inr (inr h)) k = by_first (positive_is_not_zero (a -ℤ c) h)
    go (inr (inl h)) (inl k) = by_second (negative_is_not_zero (b -ℤ d) k)
    go (inr (inl h)) (inr (inr k)) = by_second (positive_is_not_zero (b -ℤ d) k)
    go (inr (inl h)) (inr (inl k)) = absurd (n (no_difference a c h, no_difference b d k))

less_by : (a b s r q : ℤ) → a ≡ b +ℤ (s +ℤ (pos 2 *ℤ r +ℤ pos 2 *ℤ q)) → pos 0 <ℤ s → pos 0 ≤ℤ r
    → pos 0 ≤ℤ q → b <ℤ a
less_by a b s r q e h k l = omega (arith, ints)

-- a point strictly within the segment from p to k is nearer to p than k is
pub nearer_of_within : (p k i : Point) → ¬ (k ≡ i) → WithinSegment (whole p) (whole k) (whole i)
    → gap (whole p) (whole i) <ℤ gap (whole p) (whole k)
nearer_of_within p k i apart h =
    let b = box_of_within p k i h in
    less_by (gap (whole p) (whole k)) (gap (whole p) (whole i))
    ((k.x -ℤ i.x) *ℤ (k.x -ℤ i.x) +ℤ (k.y -ℤ i.y) *ℤ (k.y -ℤ i.y))
    ((k.x -ℤ i.x) *ℤ (i.x -ℤ p.x)) ((k.y -ℤ i.y) *ℤ (i.y -ℤ p.y))
    (longer p.x p.y k.x k.y i.x i.y)
    (sum_of_squares k.x k.y i.x i.y (λ e. apart (λ j. record { x = e.0 j; y = e.1 j })))
    (rest p.x k.x i.x b.x) (rest p.y k.y i.y b.y)
