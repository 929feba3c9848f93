-- Lists whose entries have flags, as they grow and shrink at their end.
-- Lemmas: not_both, flag_within, one_fits, listed_by, not_listed_by, test_tells, one_flagged_more,
-- last_within, one_flagged_less, flags_grown, flags_resized.
use Rattle.std.proofs.Common.{◌≡◌, ◌-◌, ◌*◌, ◌/◌, ◌<◌, ◌≤◌, Bool, true, false, List, [], ◌∷◌}
use Rattle.std.proofs.Common.{◌++◌, ◌%◌, ◌^◌, ℕ, length, replicate, sym, ap, ◌∙◌, subst, take}
use Rattle.std.proofs.Common.{get_or, eq-eqb, arith}
use mathlib.Core.Logic.{inl, inr, ◌≢◌}
use Rattle.std.specs.Prelude.{◌↔◌, Contains, IsTrue, bit_and, if◌then◌else◌, cond, nat_eq}
use Rattle.std.proofs.lemmas.Bool.{cases_eq, ne_eqb}
use Rattle.std.proofs.lemmas.List.{length-append, length-replicate, take_all}
use Rattle.delaunay_legalization.specs.EdgeSet.{AreFlagged}
use Rattle.delaunay_legalization.proofs.Bits.{bit_told, bit_within, bits_grown}
use Rattle.delaunay_legalization.proofs.WorkLists.{at_most_so_many, contains_before, contains_last}
use Rattle.delaunay_legalization.proofs.WorkLists.{last_not_before, last_or_before, once_after}
use Rattle.{delaunay_legalization.proofs.WorkLists.once_before, delaunay_legalization.specs.has_bit}

-- ---- what flags tell
-- no flag is both
pub not_both : {b : Bool} → b ≡ true → b ≡ false → ⊥
not_both {b} t f = cc

-- an entry has its flag's index
pub flag_within : {items flags : List ℕ} {capacity k : ℕ}
    → AreFlagged items flags capacity → Contains items k → k < 64 * length flags
flag_within {flags = flags} {k = k} p c = bit_within flags k (p.flagged k c)

-- a further entry has room
pub one_fits : {items flags : List ℕ} {capacity k : ℕ}
    → AreFlagged items flags capacity → k < 64 * length flags → ¬ Contains items k
    → length items < capacity
one_fits {items = items} {flags = flags} {k = k} p within not =
    let few = at_most_so_many (items ++ k ∷ []) (64 * length flags) (once_after items k p.once not)
    (λ j c. elim (last_or_before items k j c) [
      | inl e ↦ subst (λ (z : ℕ). z < 64 * length flags) (sym e) within
      | inr h ↦ flag_within p h
    ]) in
    let count = length-append items (k ∷ []) in
    let fits = p.fits in
    omega (arith, few, count, fits)

-- the word of an edge, as it was read
module _ {items flags : List ℕ} {capacity k i word : ℕ} (p : AreFlagged items flags capacity)
    (at : i ≡ k) (within : k < 64 * length flags) (read : word ≡ get_or flags (i / 64) word) where
  told : nat_eq (bit_and (word / 2 ^ (i % 64)) 1) 1 ≡ has_bit flags k
  told = bit_told flags i (omega (arith, within, at)) read ∙ ap (has_bit flags) at

  -- where it has the flag, the edge is listed
  pub listed_by : bit_and (word / 2 ^ (i % 64)) 1 ≡ 1 → Contains items k
  listed_by on = p.listed k (sym told ∙ eq-eqb _ 1 on)

  -- where it has not, the edge is not
  pub not_listed_by : ¬ (bit_and (word / 2 ^ (i % 64)) 1 ≡ 1) → ¬ Contains items k
  not_listed_by off h = not_both (p.flagged k h) (sym told ∙ ne_eqb _ 1 off)

  -- so the test tells whether it is
  pub test_tells : IsTrue (nat_eq (bit_and (word / 2 ^ (i % 64)) 1) 1) ↔ Contains items k
  test_tells = (λ t. p.listed k (sym told ∙ t), λ h. told ∙ p.flagged k h)

-- ---- how they change
-- flags of which one alone was written
module _ (flags flags' : List ℕ) (k : ℕ) (b : Bool)
    (bits : (j : ℕ) → has_bit flags' j ≡ cond (nat_eq k j) b (has_bit flags j)) where
  there : (j : ℕ) → j ≡ k → has_bit flags' j ≡ b
  there j e = bits j ∙ ap (λ c. cond c b (has_bit flags j)) (eq-eqb k j (sym e))

  elsewhere : (j : ℕ) → j ≢ k → has_bit flags' j ≡ has_bit flags j
  elsewhere j n =
      bits j ∙ ap (λ c. cond c b (has_bit flags j)) (ne_eqb k j (λ e. n (sym e)))

-- one more entry, with its flag
pub one_flagged_more : {items flags flags' : List ℕ} {capacity k : ℕ}
    → AreFlagged items flags capacity → ¬ Contains items k
    → ((j : ℕ) → has_bit flags' j ≡ cond (nat_eq k j) true (has_bit flags j))
    → length flags' ≡ length flags → AreFlagged (items ++ k ∷ []) flags' capacity
one_flagged_more {items = items} {flags = flags} {flags' = flags'} {capacity = capacity} {k = k} p
    not bits count = record {
      once = once_after items k p.once not;
      flagged = λ j c. elim (cases_eq j k) [
        | inl e ↦ there flags flags' k true bits j e
        | inr n ↦ elsewhere flags flags' k true bits j n ∙ elim (last_or_before items k j c) [
          | inl e ↦ absurd (n e)
          | inr h ↦ p.flagged j h
        ]
      ];
      listed = λ j e. elim (cases_eq j k) [
        | inl i ↦ subst (Contains (items ++ k ∷ [])) (sym i) (contains_last items k)
        | inr n ↦ contains_before items k j
            (p.listed j (sym (elsewhere flags flags' k true bits j n) ∙ e))
      ];
      fits = subst (λ (z : ℕ). 64 * z ≤ capacity) (sym count) p.fits;
    }

-- the last entry goes, with its flag
module _ {all flags : List ℕ} {capacity : ℕ} (items : List ℕ) (k : ℕ)
    (flagged : AreFlagged all flags capacity) (is : all ≡ items ++ k ∷ []) where
  p : AreFlagged (items ++ k ∷ []) flags capacity
  p = subst (λ (ks : List ℕ). AreFlagged ks flags capacity) is flagged

  pub last_within : k < 64 * length flags
  last_within = flag_within p (contains_last items k)

  pub one_flagged_less : {flags' : List ℕ}
      → ((j : ℕ) → has_bit flags' j ≡ cond (nat_eq k j) false (has_bit flags j))
      → length flags' ≡ length flags → AreFlagged items flags' capacity
  one_flagged_less {flags' = flags'} bits count = record {
    once = once_before items k p.once;
    flagged = λ j c. elsewhere flags flags' k false bits j
        (λ e. last_not_before items k p.once (subst (Contains items) e c))
        ∙ p.flagged j (contains_before items k j c);
    listed = λ j e. elim (cases_eq j k) [
      | inl i ↦ absurd (not_both e (there flags flags' k false bits j i))
      | inr n ↦ elim (last_or_before items k j
          (p.listed j (sym (elsewhere flags flags' k false bits j n) ∙ e))) [
            | inl i ↦ absurd (n i)
            | inr h ↦ h
          ]
    ];
    fits = subst (λ (z : ℕ). 64 * z ≤ capacity) (sym count) p.fits;
  }

-- ---- more room
-- with further flags that are not set the same edges are listed
pub flags_grown : (items flags more : List ℕ) (capacity now n : ℕ)
    → AreFlagged items flags capacity → more ≡ flags ++ replicate n 0 → 64 * length more ≤ now
    → AreFlagged items more now
flags_grown items flags more capacity now n p e fits = record {
  once = p.once;
  flagged = λ k c. same k ∙ p.flagged k c;
  listed = λ k i. p.listed k (sym (same k) ∙ i);
  fits = fits;
}
  where
    same : (k : ℕ) → has_bit more k ≡ has_bit flags k
    same k = ap (λ fs. has_bit fs k) e ∙ bits_grown flags n k

-- as many words as there is capacity for, or those of before
pub flags_resized : {items flags more : List ℕ} {capacity now n count : ℕ} (b : Bool)
    → AreFlagged items flags capacity → capacity ≤ now → n ≡ now / 64 → count ≡ length flags
    → more ≡ (if b then take n flags ++ replicate (n - count) 0 else flags)
    → AreFlagged items more now
flags_resized {items = items} {flags = flags} {more = more} {capacity = capacity} {now = now}
    {n = n} {count = count} true p grows at len e =
    let fits = p.fits in
    let same : more ≡ flags ++ replicate (n - count) 0 =
    e ∙ ap (λ fs. fs ++ replicate (n - count) 0)
    (take_all n flags (omega (arith, fits, grows, at))) in
    flags_grown items flags more capacity now (n - count) p same
    (let sum = ap (λ fs. length fs) same ∙ length-append flags (replicate (n - count) 0) in
    let zeros = length-replicate {A = ℕ} (n - count) 0 in
    omega (arith, sum, zeros, fits, grows, at, len))
flags_resized false p grows at len e = record {
  once = p.once;
  flagged = λ k c. ap (λ fs. has_bit fs k) e ∙ p.flagged k c;
  listed = λ k i. p.listed k (sym (ap (λ fs. has_bit fs k) e) ∙ i);
  fits = let fits = p.fits in let same = ap (λ fs. length fs) e in omega (arith, fits, grows, same);
}
