-- What is nearer than what: nothing is nearer to a point than the point itself, and one and the
-- same point is not nearer.
-- Lemmas: gap_of_none, gap_not_negative, nothing_nearer, same_not_nearer.
use Rattle.std.proofs.Common.{◌≡◌, [], ◌∷◌, arith, ◌∙◌}
use Rattle.std.specs.Prelude.{ℤ, pos, ◌<ℤ◌, ◌≤ℤ◌, ◌*ℤ◌, ◌-ℤ◌}
use Rattle.std.proofs.lemmas.Int.{ints}
use lib.IntN.{*ℤ_comm}
use Rattle.plane.specs.{Fraction, gap, IsNearer, IsSame, rise, run}
use Rattle.plane.proofs.Centre.{squares_same}
use Rattle.plane.proofs.IntegerOrder.{mul-nonneg_ℤ, square-nonneg_ℤ}
use Rattle.plane.proofs.{Signs.less_is_not_same, Signs.sum_not_negative, Steps.product_zero_left}
use Rattle.plane.proofs.Solver.{◌⊕◌, ◌⊖◌, ◌⊗◌, num, ring_in, ring_in_from}

-- no distance from a point to itself
pub gap_of_none : (p : Fraction) → gap p p ≡ pos 0
gap_of_none p = ring_in (p.x ∷ p.y ∷ p.w ∷ []) (λ x y w. (x ⊗ w ⊖ x ⊗ w) ⊗ (x ⊗ w ⊖ x ⊗ w)
    ⊕ (y ⊗ w ⊖ y ⊗ w) ⊗ (y ⊗ w ⊖ y ⊗ w)) (λ x y w. num 0) tt

-- a squared distance is not negative
pub gap_not_negative : (p q : Fraction) → pos 0 ≤ℤ gap p q
gap_not_negative p q = sum_not_negative (run p q *ℤ run p q) (rise p q *ℤ rise p q)
    (square-nonneg_ℤ (run p q)) (square-nonneg_ℤ (rise p q))

clash : (a b : ℤ) → a <ℤ b → pos 0 ≤ℤ a → b ≡ pos 0 → ⊥
clash a b h k e = omega (arith, ints)

-- nothing is nearer to p than p
pub nothing_nearer : (p r : Fraction) → ¬ IsNearer p r p
nothing_nearer p r h = clash (gap p r *ℤ (p.w *ℤ p.w)) (gap p p *ℤ (r.w *ℤ r.w)) h.nearer
    (mul-nonneg_ℤ (gap_not_negative p r) (square-nonneg_ℤ p.w))
    (product_zero_left (r.w *ℤ r.w) (gap_of_none p))

vector_same : (r w q w' p pw : ℤ) → r *ℤ w' ≡ q *ℤ w
    → (r *ℤ pw -ℤ p *ℤ w) *ℤ w' ≡ (q *ℤ pw -ℤ p *ℤ w') *ℤ w
vector_same r w q w' p pw e =
    ring_in_from (r ∷ w ∷ q ∷ w' ∷ p ∷ pw ∷ []) (λ r w q w' p pw. (r ⊗ pw ⊖ p ⊗ w) ⊗ w')
    (λ r w q w' p pw. (q ⊗ pw ⊖ p ⊗ w') ⊗ w) (λ r w q w' p pw. (pw, r ⊗ w', q ⊗ w) ∷ []) (e, tt) tt

-- one and the same point is not nearer
pub same_not_nearer : (p r q : Fraction) → IsSame r q → ¬ IsNearer p r q
same_not_nearer p r q e h =
    less_is_not_same (gap p r *ℤ (q.w *ℤ q.w)) (gap p q *ℤ (r.w *ℤ r.w)) h.nearer
    (*ℤ_comm (gap p r) (q.w *ℤ q.w) ∙ squares_same (run p r) (rise p r) r.w (run p q) (rise p q) q.w
    (vector_same r.x r.w q.x q.w p.x p.w e.x) (vector_same r.y r.w q.y q.w p.y p.w e.y)
    ∙ *ℤ_comm (r.w *ℤ r.w) (gap p q))
