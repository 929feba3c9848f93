-- Bits in words of 64, as one is set or cleared, and as words are added.
-- Lemmas: no_bit, no_bits, bit_within, bit_told, one_bit_more, one_bit_less, bits_grown.
use Rattle.std.proofs.Common.{◌≡◌, ◌⊎◌, ◌*◌, ◌/◌, ◌%◌, ◌^◌, ◌<◌, ◌∙◌}
use Rattle.std.proofs.Common.{[], ◌∷◌, ◌++◌, List, ℕ, zero, suc, length, get_or, set}
use Rattle.std.proofs.Common.{replicate, refl, sym, ap, subst, eq-eqb, arith, w64}
use mathlib.Core.Logic.{inl, inr, ◌≢◌}
use mathlib.Core.Bool.{Bool, true, false}
use Rattle.std.specs.Prelude.{cond, nat_eq, bit_and, bit_or}
use Rattle.std.specs.Int.{bit_at, bit_not}
use Rattle.std.proofs.lemmas.Bool.{ne_eqb, cases_eq, cases_lt}
use Rattle.std.proofs.lemmas.List.{get_or-set_same, get_or-set_other, get_or_past}
use Rattle.std.proofs.lemmas.Nat.Bits.{bit_at-zero, bit_at_set_same, bit_at_set_other}
use Rattle.std.proofs.lemmas.Nat.Bits.{bit_at_clear_same, bit_at_clear_other, shr_and_one}
use Rattle.{delaunay_legalization.specs.has_bit, plane_theorems.proofs.get_or_any}

-- the bit of a place that is not there is not set
pub no_bit : (k : ℕ) → has_bit [] k ≡ false
no_bit k = ap (λ (b : ℕ). nat_eq b 1) (bit_at-zero (k % 64))

zeros : (n j : ℕ) → get_or {A = ℕ} (replicate n 0) j 0 ≡ 0
zeros zero j = refl
zeros (suc n) zero = refl
zeros (suc n) (suc j) = zeros n j

-- nor is one in words that are 0
pub no_bits : (n k : ℕ) → has_bit (replicate n 0) k ≡ false
no_bits n k = ap (λ (x : ℕ). nat_eq (bit_at x (k % 64)) 1) (zeros n (k / 64)) ∙ no_bit k

-- a bit that is set is one of a word
pub bit_within : (words : List ℕ) (k : ℕ) → has_bit words k ≡ true → k < 64 * length words
bit_within words k on = elim (cases_lt (k / 64) (length words)) [
  | inl h ↦ omega (arith, h)
  | inr h ↦ absurd (let off = ap (λ (x : ℕ). nat_eq (bit_at x (k % 64)) 1)
      (get_or_past words (k / 64) 0 h) ∙ no_bit k in cc)
]

-- words with bits of which one alone may differ
module _ (words : List ℕ) (n word : ℕ) (here : n / 64 < length words) (b : Bool)
    (at : nat_eq (bit_at word (n % 64)) 1 ≡ b)
    (other : (i : ℕ) → i < 64 → i ≢ n % 64
    → bit_at word i ≡ bit_at (get_or words (n / 64) 0) i) where
  embedding : get_or (set words (n / 64) word) (n / 64) 0 ≡ word
  embedding = get_or-set_same words (n / 64) word 0 here

  pub one_bit : (k : ℕ) → has_bit (set words (n / 64) word) k
      ≡ cond (nat_eq n k) b (has_bit words k)
  one_bit k =
      elim (cases_eq n k) [
        | inl e ↦ subst (λ c. has_bit (set words (n / 64) word) k ≡ cond c b (has_bit words k))
            (sym (eq-eqb n k e))
            (subst (λ (x : ℕ). has_bit (set words (n / 64) word) x ≡ b) e
            (ap (λ (x : ℕ). nat_eq (bit_at x (n % 64)) 1) embedding ∙ at))
        | inr a ↦ subst (λ c. has_bit (set words (n / 64) word) k ≡ cond c b (has_bit words k))
            (sym (ne_eqb n k a)) (as_before a (cases_eq (k / 64) (n / 64)))
      ]
    where
      same_number : k / 64 ≡ n / 64 → k % 64 ≡ n % 64 → n ≡ k
      same_number e f = omega (arith, e, f)

      low : k % 64 < 64
      low = omega arith

      as_before : n ≢ k → (k / 64 ≡ n / 64) ⊎ (k / 64 ≢ n / 64)
          → has_bit (set words (n / 64) word) k ≡ has_bit words k
      as_before a (inl e) =
          let there : get_or (set words (n / 64) word) (k / 64) 0 ≡ word =
          ap (λ (x : ℕ). get_or (set words (n / 64) word) x 0) e ∙ embedding in
          let apart : k % 64 ≢ n % 64 = λ f. a (same_number e f) in
          ap (λ (x : ℕ). nat_eq (bit_at x (k % 64)) 1) there
          ∙ ap (λ (x : ℕ). nat_eq x 1) (other (k % 64) low apart)
          ∙ ap (λ (x : ℕ). nat_eq (bit_at (get_or words x 0) (k % 64)) 1) (sym e)
      as_before a (inr o) = ap (λ (x : ℕ). nat_eq (bit_at x (k % 64)) 1)
          (get_or-set_other words (n / 64) (k / 64) word 0 o)

low_bit : (n : ℕ) → n % 64 < 64
low_bit n = omega arith

-- words of which one, as it was read, has the bit of a number more
module _ (words : List ℕ) (n : ℕ) {word : ℕ} (here : n / 64 < length words)
    (read : word ≡ get_or words (n / 64) word) where
  as_read : word ≡ get_or words (n / 64) 0
  as_read = read ∙ get_or_any words (n / 64) word 0 here

  -- the test of the word tells whether the bit is set
  pub bit_told : nat_eq (bit_and (word / 2 ^ (n % 64)) 1) 1 ≡ has_bit words n
  bit_told = ap (λ (x : ℕ). nat_eq x 1) (shr_and_one word (n % 64))
      ∙ ap (λ (x : ℕ). nat_eq (bit_at x (n % 64)) 1) as_read

  pub one_bit_more : (k : ℕ)
      → has_bit (set words (n / 64) (bit_or word (1 * 2 ^ (n % 64) % 2 ^ 64))) k
      ≡ cond (nat_eq n k) true (has_bit words k)
  one_bit_more =
      one_bit words n _ here true
      (ap (λ (b : ℕ). nat_eq b 1) (bit_at_set_same w64 word (n % 64) (low_bit n)))
      (λ i _ a. bit_at_set_other w64 word (n % 64) (low_bit n) i a
      ∙ ap (λ (x : ℕ). bit_at x i) as_read)

  -- and one less
  pub one_bit_less : (k : ℕ)
      → has_bit (set words (n / 64) (bit_and word (bit_not w64 (1 * 2 ^ (n % 64) % 2 ^ 64)))) k
      ≡ cond (nat_eq n k) false (has_bit words k)
  one_bit_less =
      one_bit words n _ here false
      (ap (λ (b : ℕ). nat_eq b 1) (bit_at_clear_same w64 word (n % 64) (low_bit n)))
      (λ i low a. bit_at_clear_other w64 word (n % 64) (low_bit n) i low a
      ∙ ap (λ (x : ℕ). bit_at x i) as_read)

-- further words that are 0
pub bits_grown : (words : List ℕ) (n k : ℕ)
    → has_bit (words ++ replicate n 0) k ≡ has_bit words k
bits_grown words n k = ap (λ (x : ℕ). nat_eq (bit_at x (k % 64)) 1) (grown words (k / 64))
  where
    grown : (words : List ℕ) (j : ℕ) → get_or (words ++ replicate n 0) j 0 ≡ get_or words j 0
    grown [] j = zeros n j
    grown (word ∷ words) zero = refl
    grown (word ∷ words) (suc j) = grown words j
