-- The places that a one-to-one walk over finitely many numbers goes through.
-- Lemmas: among_steps, to_steps, from_steps, steps_closed, steps_apart, steps_again, in_period,
-- period_closed.
use Rattle.std.proofs.Common.{◌≡◌, ◌≢◌, ◌⊎◌, ◌+◌, ◌-◌, ◌<◌, ◌≤◌, ◌==◌, if◌then◌else◌, ◌∙◌}
use Rattle.std.proofs.Common.{ℕ, zero, suc, Bool, true, false, refl, sym, ap, inl, inr, arith}
use Rattle.std.proofs.lemmas.Bool.{cases_eq, eq-eqb, eqb-true}
use Rattle.half_edge_links.specs.{iterate}
use Rattle.half_edge_links.proofs.Lists.Orbits.{IsPeriod, step_add, step_back}

if_either : (b c : Bool) → (b ≡ true) ⊎ (c ≡ true) → (if b then true else c) ≡ true
if_either true c at = refl
if_either false c at = elim at [ inl is ↦ absurd (cc) | inr is ↦ is ]

either_if : (b c : Bool) → (if b then true else c) ≡ true → (b ≡ true) ⊎ (c ≡ true)
either_if true c is = inl refl
either_if false c is = inr is

module _ (f : ℕ → ℕ) where
  -- one of the places up to the k-th step from o
  pub among_steps : ℕ → ℕ → ℕ → Bool
  among_steps o zero g = g == o
  among_steps o (suc k) g = if g == iterate f (suc k) o then true else among_steps o k g

  -- each place up to the k-th step is among them
  pub to_steps : (o k i : ℕ) → i ≤ k → among_steps o k (iterate f i o) ≡ true
  unfolding among_steps
  to_steps o zero i less = let z : i ≡ 0 = omega arith in eq-eqb _ _ (ap (λ j. iterate f j o) z)
  to_steps o (suc k) i less =
      elim (cases_eq i (suc k)) [
        | inl q ↦ if_either _ _ (inl (eq-eqb _ _ (ap (λ j. iterate f j o) q)))
        | inr q ↦ if_either _ _ (inr (to_steps o k i (omega arith)))
      ]

  -- each of the places is a step of the walk, at most the k-th
  pub from_steps : (o k g : ℕ) → among_steps o k g ≡ true → (i : ℕ) × (i ≤ k) × (g ≡ iterate f i o)
  unfolding among_steps
  from_steps o zero g is = (0, omega arith, eqb-true g o is)
  from_steps o (suc k) g is = elim (either_if _ _ is) [
    | inl q ↦ (suc k, omega arith, eqb-true g _ q)
    | inr q ↦ let found = from_steps o k g q in (found.0, omega (arith, found.1), found.2)
  ]

  -- the places up to a step from which the walk comes back hold with each place the next one
  pub steps_closed : (o k : ℕ) → f (iterate f k o) ≡ o → (g : ℕ) → among_steps o k g ≡ true
      → among_steps o k (f g) ≡ true
  steps_closed o k round g is =
      let i = from_steps o k g is in
      elim (cases_eq i.0 k) [
        | inl last ↦ ap (λ j. among_steps o k (f j)) (i.2 ∙ ap (λ j. iterate f j o) last)
            ∙ ap (among_steps o k) round ∙ to_steps o k 0 (omega arith)
        | inr before ↦ ap (λ j. among_steps o k (f j)) i.2
            ∙ to_steps o k (suc i.0) (omega (arith, i.1, before))
      ]

  module _ (n : ℕ) (stays : (a : ℕ) → a < n → f a < n)
      (one_to_one : (a b : ℕ) → a < n → b < n → f a ≡ f b → a ≡ b) where
    -- places at different steps before the first return differ
    pub steps_apart : (o k i j : ℕ) → o < n → IsPeriod f o k → i < j → j < k
        → iterate f i o ≢ iterate f j o
    steps_apart o k i j within p less j_in same =
        let d : i + (j - i) ≡ j = omega (arith, less) in
        p.first (j - i) (omega (arith, less)) (omega (arith, less, j_in)) (sym (step_back f n stays
        one_to_one o i (j - i) within (same ∙ ap (λ q. iterate f q o) (sym d))))

  -- after the first return the same places come again
  pub steps_again : (o k i : ℕ) → IsPeriod f o k → iterate f (i + k) o ≡ iterate f i o
  steps_again o k i p = step_add f o i k ∙ ap (iterate f i) p.back

  -- what a closed set that holds o has is one of the places
  pub in_period : (o k g : ℕ) → IsPeriod f o k → among_steps o (k - 1) g ≡ true
      → (i : ℕ) × (i < k) × (g ≡ iterate f i o)
  in_period o k g p is = let found = from_steps o (k - 1) g is in
      (found.0, omega (arith, found.1, p.some), found.2)

  -- the places before the first return hold with each place the next one
  pub period_closed : (o k : ℕ) → IsPeriod f o k → (g : ℕ) → among_steps o (k - 1) g ≡ true
      → among_steps o (k - 1) (f g) ≡ true
  period_closed o k p = steps_closed o (k - 1) (let e : suc (k - 1) ≡ k = omega (arith, p.some) in
      ap (λ j. iterate f j o) e ∙ p.back)
