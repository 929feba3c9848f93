-- Sums of the first values of a function, and over a list.
-- Notions: sum_to, only_at; same_sum, sums_agree, sums_added, sums_none, sums_exchanged, at_place,
-- off_place, zero_first, zero_last, sum_single, total_by_place, sum_in_pairs.
use Rattle.std.proofs.Common.{◌≡◌, ◌≢◌, ◌+◌, ◌*◌, ◌<◌, [], ◌∷◌, ◌==◌, if◌then◌else◌, ◌∙◌}
use Rattle.std.proofs.Common.{ℕ, zero, suc, List, length, get_or, refl, sym, ap, inl, inr, arith}
use Rattle.std.specs.Prelude.{ℤ, pos, ◌+ℤ◌}
use Rattle.std.proofs.lemmas.Int.{ints}
use Rattle.std.proofs.lemmas.Bool.{cases_eq}
use Rattle.std.proofs.lemmas.Bool.Decides.{nat_tests}
use Rattle.half_edge_links.specs.{total}

-- the sum of the first n values of a function
abbrev pub sum_to : (ℕ → ℤ) → ℕ → ℤ
sum_to g zero = pos 0
sum_to g (suc k) = sum_to g k +ℤ g k

-- sums of equal parts are equal
pub same_sum : (a b c d : ℤ) → a ≡ b → c ≡ d → a +ℤ c ≡ b +ℤ d
same_sum a b c d p q = cc

-- functions that agree on the first n places have the same sum there
pub sums_agree : (g h : ℕ → ℤ) (n : ℕ) → ((k : ℕ) → k < n → g k ≡ h k) → sum_to g n ≡ sum_to h n
sums_agree g h zero same = refl
sums_agree g h (suc n) same =
    same_sum _ _ _ _ (sums_agree g h n (λ k within. same k (omega arith))) (same n (omega arith))

-- the sum of two sums is that of their first terms plus that of their second ones
four : (a b c d : ℤ) → (a +ℤ b) +ℤ (c +ℤ d) ≡ (a +ℤ c) +ℤ (b +ℤ d)
four a b c d = omega (arith, ints)

-- the sum of two functions, place by place, is the sum of their sums
pub sums_added : (g h : ℕ → ℤ) (n : ℕ) → sum_to (λ k. g k +ℤ h k) n ≡ sum_to g n +ℤ sum_to h n
sums_added g h zero = refl
sums_added g h (suc n) = same_sum _ _ _ _ (sums_added g h n) refl
    ∙ four (sum_to g n) (sum_to h n) (g n) (h n)

-- a function that is 0 at the first n places has sum 0 there
pub sums_none : (g : ℕ → ℤ) (n : ℕ) → ((k : ℕ) → k < n → g k ≡ pos 0) → sum_to g n ≡ pos 0
sums_none g zero none = refl
sums_none g (suc n) none =
    same_sum _ _ _ _ (sums_none g n (λ k within. none k (omega arith))) (none n (omega arith))

-- a sum over two ranges, either first
pub sums_exchanged : (h : ℕ → ℕ → ℤ) (n p : ℕ)
    → sum_to (λ k. sum_to (h k) p) n ≡ sum_to (λ f. sum_to (λ k. h k f) n) p
sums_exchanged h zero p = sym (sums_none (λ f. pos 0) p (λ k within. refl))
sums_exchanged h (suc n) p = same_sum _ _ _ _ (sums_exchanged h n p) refl
    ∙ sym (sums_added (λ f. sum_to (λ k. h k f) n) (h n) p)

-- the value at one place, and 0 elsewhere
abbrev pub only_at : ℕ → ℤ → ℕ → ℤ
only_at a c k = if k == a then c else pos 0

-- the function of one place has its value there
pub at_place : (a : ℕ) (c : ℤ) (k : ℕ) → k ≡ a → only_at a c k ≡ c
at_place a c k is = grind (arith, nat_tests)

-- the function of one place is 0 at any other
pub off_place : (a : ℕ) (c : ℤ) (k : ℕ) → k ≢ a → only_at a c k ≡ pos 0
off_place a c k off = grind (arith, nat_tests)

-- zero plus a number is the number
pub zero_first : (c : ℤ) → pos 0 +ℤ c ≡ c
zero_first c = omega (arith, ints)

-- a number plus zero is the number
pub zero_last : (c : ℤ) → c +ℤ pos 0 ≡ c
zero_last c = omega (arith, ints)

-- the function of one place has its value as sum, if the place is among those that are added
pub sum_single : (a : ℕ) (c : ℤ) (n : ℕ) → a < n → sum_to (only_at a c) n ≡ c
sum_single a c zero within = absurd (omega (arith, within))
sum_single a c (suc n) within =
    elim (cases_eq a n) [
      | inl is ↦ same_sum _ _ _ _ (sums_none (only_at a c) n (λ k k_in. off_place a c k
          (λ q. absurd (omega (arith, q, is, k_in))))) (at_place a c n (sym is)) ∙ zero_first c
      | inr off ↦ same_sum _ _ _ _ (sum_single a c n (omega (arith, within, off)))
          (off_place a c n (λ q. off (sym q))) ∙ zero_last c
    ]

first_apart : (a b c : ℤ) → (a +ℤ b) +ℤ c ≡ a +ℤ (b +ℤ c)
first_apart a b c = omega (arith, ints)

-- the first value apart
sum_shifted : (g : ℕ → ℤ) (n : ℕ) → sum_to g (suc n) ≡ g 0 +ℤ sum_to (λ k. g (suc k)) n
sum_shifted g zero = zero_first (g 0) ∙ sym (zero_last (g 0))
sum_shifted g (suc n) = same_sum _ _ _ _ (sum_shifted g n) refl
    ∙ first_apart (g 0) (sum_to (λ k. g (suc k)) n) (g (suc n))

-- the sum of f over a list is the sum over its places
pub total_by_place : {X : Type 0} (f : X → ℤ) (xs : List X) (d : X)
    → total f xs ≡ sum_to (λ k. f (get_or xs k d)) (length xs)
total_by_place f [] d = refl
total_by_place f (x ∷ xs) d = same_sum _ _ _ _ refl (total_by_place f xs d)
    ∙ sym (sum_shifted (λ k. f (get_or (x ∷ xs) k d)) (length xs))

-- the values two by two
pub sum_in_pairs : (g : ℕ → ℤ) (p : ℕ)
    → sum_to g (2 * p) ≡ sum_to (λ k. g (2 * k) +ℤ g (2 * k + 1)) p
sum_in_pairs g zero = ap (sum_to g) (let e : 2 * 0 ≡ 0 = omega arith in e)
sum_in_pairs g (suc p) =
    let e : 2 * suc p ≡ suc (suc (2 * p)) = omega arith in
    let s : suc (2 * p) ≡ 2 * p + 1 = omega arith in
    ap (sum_to g) e ∙ first_apart (sum_to g (2 * p)) (g (2 * p)) (g (suc (2 * p)))
    ∙ same_sum _ _ _ _ (sum_in_pairs g p) (ap (λ k. g (2 * p) +ℤ g k) s)
