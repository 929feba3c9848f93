-- A walk by a one-to-one function over finitely many numbers comes back to its start.
-- Notions: IsPeriod; step_add, step_back, period_of, comes_back, reached.
use Rattle.std.proofs.Common.{◌≡◌, ◌≢◌, ◌⊎◌, ◌+◌, ◌-◌, ◌<◌, ◌≤◌, [], ◌∷◌, ◌∙◌}
use Rattle.std.proofs.Common.{ℕ, zero, suc, true, false, eqb, List, length, get_or, refl, sym, ap}
use Rattle.std.proofs.Common.{inl, inr, arith}
use Rattle.std.specs.List.{list_any}
use Rattle.std.proofs.lemmas.Bool.{cases_eq, eqb-true}
use Rattle.std.proofs.lemmas.Bool.Decides.{eqb_tells}
use Rattle.std.proofs.lemmas.List.Folds.{Any-from_list_any}
use Rattle.std.proofs.lemmas.Map.Keys.{IsDistinct-from_apart}
use Rattle.std.proofs.lemmas.Map.Steps.{length-le_from_distinct_below}
use Rattle.{half_edge_links.proofs.Lists.Cases.◌or_else◌, half_edge_links.specs.iterate}

-- the first places of a walk
points : (ℕ → ℕ) → ℕ → ℕ → List ℕ
points f zero s = []
points f (suc m) s = s ∷ points f m (f s)

iterate_shift : (f : ℕ → ℕ) (k s : ℕ) → iterate f k (f s) ≡ f (iterate f k s)
iterate_shift f zero s = refl
iterate_shift f (suc k) s = ap f (iterate_shift f k s)

length-points : (f : ℕ → ℕ) (m s : ℕ) → length (points f m s) ≡ m
unfolding points
length-points f zero s = refl
length-points f (suc m) s = ap suc (length-points f m (f s))

get_or-points : (f : ℕ → ℕ) (m s i d : ℕ) → i < m → get_or (points f m s) i d ≡ iterate f i s
unfolding points
get_or-points f zero s i d within = absurd (omega arith)
get_or-points f (suc m) s zero d within = refl
get_or-points f (suc m) s (suc i) d within =
    get_or-points f m (f s) i d (omega arith) ∙ iterate_shift f i s

-- the first number of steps after which the walk from o is back
pub record IsPeriod (f : ℕ → ℕ) (o k : ℕ) : Type 0 where
  pub some : 0 < k
  pub back : iterate f k o ≡ o
  pub first : (j : ℕ) → 0 < j → j < k → iterate f j o ≢ o

module _ (f : ℕ → ℕ) where
  -- i + d steps from o are i steps from the place after d steps
  pub step_add : (o i d : ℕ) → iterate f (i + d) o ≡ iterate f i (iterate f d o)
  step_add o zero d = ap (λ j. iterate f j o) (let e : 0 + d ≡ d = omega arith in e)
  step_add o (suc i) d = let e : suc i + d ≡ suc (i + d) = omega arith in
      ap (λ j. iterate f j o) e ∙ ap f (step_add o i d)

  period_up_to : (o n : ℕ)
      → ((k : ℕ) × (k ≤ n) × IsPeriod f o k) ⊎ ((j : ℕ) → 0 < j → j ≤ n → iterate f j o ≢ o)
  period_up_to o zero = inr (λ j some less. absurd (omega arith))
  period_up_to o (suc n) =
      elim (period_up_to o n or_else cases_eq (iterate f (suc n) o) o) [
        | inl found ↦ inl (found.0, omega (arith, found.1), found.2)
        | inr (none, inl back) ↦ inl (
          suc n,
          omega arith,
          record {
            some = omega arith;
            back = back;
            first = λ j some less. none j some (omega (arith, less));
          },
        )
        | inr (none, inr off) ↦ inr (λ j some less. elim (cases_eq j (suc n)) [
          | inl last ↦ λ q. off (ap (λ i. iterate f i o) (sym last) ∙ q)
          | inr other ↦ none j some (omega (arith, less, other))
        ])
      ]

module _ (f : ℕ → ℕ) (n : ℕ) (stays : (a : ℕ) → a < n → f a < n)
    (one_to_one : (a b : ℕ) → a < n → b < n → f a ≡ f b → a ≡ b) where
  walk_in : (o i : ℕ) → o < n → iterate f i o < n
  walk_in o zero within = within
  walk_in o (suc i) within = stays _ (walk_in o i within)

  -- equal places come from equal ones before
  pub step_back : (o i d : ℕ) → o < n → iterate f i o ≡ iterate f (i + d) o → o ≡ iterate f d o
  step_back o zero d within same =
      same ∙ ap (λ j. iterate f j o) (let e : 0 + d ≡ d = omega arith in e)
  step_back o (suc i) d within same =
      let e : suc i + d ≡ suc (i + d) = omega arith in
      step_back o i d within (one_to_one _ _ (walk_in o i within) (walk_in o (i + d) within)
      (same ∙ ap (λ j. iterate f j o) e))

  apart : (s : ℕ) → s < n → ((k : ℕ) → 0 < k → k ≤ n → iterate f k s ≢ s) → (i j d : ℕ) → i < j
      → j < length (points f (suc n) s)
      → eqb (get_or (points f (suc n) s) i d) (get_or (points f (suc n) s) j d) ≡ false
  apart s within none i j d less j_in =
      let j_le : j < suc n = rw length-points at j_in in
      let at_i = get_or-points f (suc n) s i d (omega arith) in
      let at_j = get_or-points f (suc n) s j d j_le in
      let k_is : i + (j - i) ≡ j = omega arith in
      elim (eqb_tells (get_or (points f (suc n) s) i d) (get_or (points f (suc n) s) j d)) [
        | inl q ↦ absurd (none (j - i) (omega arith) (omega arith) (sym (step_back s i
            (j - i) within (sym at_i ∙ q.1 ∙ at_j ∙ ap (λ k. iterate f k s) (sym k_is)))))
        | inr q ↦ q.0
      ]

  below : (s : ℕ) → s < n → (q : ℕ) → list_any (eqb q) (points f (suc n) s) ≡ true → q < n
  below s within q among =
      let found = Any-from_list_any (eqb q) (points f (suc n) s) among in
      let place : found.0 < suc n = rw length-points at found.2 in
      let same = eqb-true q found.1 found.4 in
      let at = get_or-points f (suc n) s found.0 found.1 place in
      rw (same ∙ sym found.3 ∙ at) (walk_in s found.0 within)

  short_period : (s : ℕ) → s < n → (k : ℕ) × (k ≤ n) × IsPeriod f s k
  short_period s within =
      elim (period_up_to f s n) [
        | inl found ↦ found
        | inr none ↦
            let few = length-le_from_distinct_below (points f (suc n) s) n
            (IsDistinct-from_apart eqb (points f (suc n) s) (apart s within none))
            (below s within) in
            absurd (omega (arith, few, length-points f (suc n) s))
      ]

  -- the walk from each number below n has a first return
  pub period_of : (s : ℕ) → s < n → (k : ℕ) × IsPeriod f s k
  period_of s within = let p = short_period s within in (p.0, p.2)

  -- the walk comes back within n steps
  pub comes_back : (s : ℕ) → s < n → (k : ℕ) × (0 < k) × (k ≤ n) × (iterate f k s ≡ s)
  comes_back s within = let p = short_period s within in (p.0, p.2.some, p.1, p.2.back)

  -- each number is one step from another
  pub reached : (s : ℕ) → s < n → (a : ℕ) × (a < n) × (f a ≡ s)
  reached s within =
      let k = comes_back s within in
      let j : suc (k.0 - 1) ≡ k.0 = omega (arith, k.1) in
      (iterate f (k.0 - 1) s, walk_in s (k.0 - 1) within, ap (λ i. iterate f i s) j ∙ k.3)
