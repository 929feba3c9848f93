-- Small facts of indexes, of pairs of indexes and of lists of them.
-- below_or_last: an index below n + 1 is below n, or n
-- less_or_more: of two different indexes one is less
-- one_more_than_last, at_most_last: an index v below n, so n = (n - 1) + 1; so v is at most n - 1
-- turned_join: a listed pair is listed with its ends exchanged
-- same_joined: what has the ends of a listed pair is listed
-- pair_turned: `IsSamePair` holds with one pair turned
-- IsTurned i j k a b c: a b c is a rotation of i j k
-- turns_of_one: two rotations of one triple are rotations of each other
use Rattle.std.proofs.Common.{◌≡◌, ◌≢◌, ◌⊎◌, ◌+◌, ◌-◌, ◌<◌, ◌≤◌, [], ◌∙◌}
use Rattle.std.proofs.Common.{ℕ, suc, List, sym, subst, arith}
use mathlib.Core.Logic.{inl, inr}
use Rattle.std.specs.Prelude.{AllPairs}
use Rattle.plane.specs.{IsSamePair, Joins}

-- ---- indexes
-- an index below n + 1 is below n, or n
pub below_or_last : (n k : ℕ) → k < suc n → (k < n) ⊎ (k ≡ n)
below_or_last n k h = grind arith

-- of two different indexes one is less
pub less_or_more : (i j : ℕ) → i ≢ j → (i < j) ⊎ (j < i)
less_or_more i j n = grind arith

-- there is one index below a count of at most one
pub one_below : (a b n : ℕ) → a < n → b < n → n ≤ 1 → a ≡ b
one_below a b n p q r = omega arith

-- a count above an index is one more than the last index
pub one_more_than_last : (v n : ℕ) → v < n → n ≡ suc (n - 1)
one_more_than_last v n h = omega arith

-- an index is at most the last index
pub at_most_last : (v n : ℕ) → v < n → v < suc (n - 1)
at_most_last v n h = omega arith

-- one more than a sum, as a sum
pub next_sum : (m n : ℕ) → suc (m + n) ≡ suc m + n
next_sum m n = omega arith

-- ---- pairs
-- no pairs in the empty list
pub no_pairs : {X : Type 0} (R : X → X → Type 0) → AllPairs R []
no_pairs R i j d lt within = absurd (omega (arith, within))

-- the ends of a pair, exchanged
pub pair_turned : (a b i j : ℕ) → IsSamePair a b i j → IsSamePair b a i j
pair_turned a b i j (inl s) = inr (s.1, s.0)
pair_turned a b i j (inr s) = inl (s.1, s.0)

-- a listed pair, its ends exchanged
pub turned_join : (pairs : List (ℕ × ℕ)) (i j : ℕ) → Joins pairs i j → Joins pairs j i
turned_join pairs i j (inl h) = inr h
turned_join pairs i j (inr h) = inl h

-- what has the ends of a listed pair is listed
pub same_joined : (pairs : List (ℕ × ℕ)) (i j u v : ℕ) → IsSamePair i j u v → Joins pairs u v
    → Joins pairs i j
same_joined pairs i j u v (inl e) h =
    subst (λ (x : ℕ × ℕ). Joins pairs x.0 x.1) (λ o. (sym e.0 o, sym e.1 o)) h
same_joined pairs i j u v (inr e) h =
    turned_join pairs j i
    (subst (λ (x : ℕ × ℕ). Joins pairs x.0 x.1) (λ o. (sym e.1 o, sym e.0 o)) h)

-- ---- triples
-- a b c is the triple i j k, whichever of the three is named first
abbrev pub IsTurned : ℕ → ℕ → ℕ → ℕ → ℕ → ℕ → Type 0
IsTurned i j k a b c = ((a ≡ i) × (b ≡ j) × (c ≡ k))
    ⊎ (((a ≡ j) × (b ≡ k) × (c ≡ i)) ⊎ ((a ≡ k) × (b ≡ i) × (c ≡ j)))

-- two turns of one triple are turns of one another
pub turns_of_one : (a b c i j k r s t : ℕ) → IsTurned a b c i j k → IsTurned a b c r s t
    → IsTurned i j k r s t
turns_of_one a b c i j k r s t (inl e) (inl f) = inl (f.0 ∙ sym e.0, f.1 ∙ sym e.1, f.2 ∙ sym e.2)
turns_of_one a b c i j k r s t (inl e) (inr (inl f)) =
    inr (inl (f.0 ∙ sym e.1, f.1 ∙ sym e.2, f.2 ∙ sym e.0))
turns_of_one a b c i j k r s t (inl e) (inr (inr f)) =
    inr (inr (f.0 ∙ sym e.2, f.1 ∙ sym e.0, f.2 ∙ sym e.1))
turns_of_one a b c i j k r s t (inr (inl e)) (inl f) =
    inr (inr (f.0 ∙ sym e.2, f.1 ∙ sym e.0, f.2 ∙ sym e.1))
turns_of_one a b c i j k r s t (inr (inl e)) (inr (inl f)) =
    inl (f.0 ∙ sym e.0, f.1 ∙ sym e.1, f.2 ∙ sym e.2)
turns_of_one a b c i j k r s t (inr (inl e)) (inr (inr f)) =
    inr (inl (f.0 ∙ sym e.1, f.1 ∙ sym e.2, f.2 ∙ sym e.0))
turns_of_one a b c i j k r s t (inr (inr e)) (inl f) =
    inr (inl (f.0 ∙ sym e.1, f.1 ∙ sym e.2, f.2 ∙ sym e.0))
turns_of_one a b c i j k r s t (inr (inr e)) (inr (inl f)) =
    inr (inr (f.0 ∙ sym e.2, f.1 ∙ sym e.0, f.2 ∙ sym e.1))
turns_of_one a b c i j k r s t (inr (inr e)) (inr (inr f)) =
    inl (f.0 ∙ sym e.0, f.1 ∙ sym e.1, f.2 ∙ sym e.2)

-- three cases, the second of them first
pub cases_turned : {A B C : Type 0} → A ⊎ (B ⊎ C) → B ⊎ (C ⊎ A)
cases_turned (inl a) = inr (inr a)
cases_turned (inr (inl b)) = inl b
cases_turned (inr (inr c)) = inr (inl c)
