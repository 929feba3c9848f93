-- A change of outer edges, from sums over them: each pair is counted.
-- Notions: HaveNoneIn, SumsChange; times, gone_there, still_there, must_go, sums_change,
-- outer_sums.
use Rattle.std.proofs.Common.{◌≡◌, ◌⊎◌, ℕ, List, map, get_or, sym, ap, ◌∙◌, subst, arith}
use mathlib.Core.Logic.{inl, inr}
use Rattle.std.specs.Prelude.{ℤ, pos, ◌+ℤ◌, ◌≤ℤ◌, ◌<ℤ◌, Contains}
use Rattle.std.proofs.lemmas.Int.{ints}
use Rattle.plane.proofs.{lt_or_ge_ℤ, Signs.neither_sign_is_zero}
use Rattle.half_edge_links.specs.{Ends, Mesh, outline}
use Rattle.plane_theorems.specs.{along, OuterChange, total}
use Rattle.{plane_theorems.proofs.IsOnce, plane_theorems.proofs.Tiling.Flows.pair_found}
use Rattle.plane_theorems.proofs.{Edits.LocalMesh.Changes.has_pair_or_not, Tiling.Loops.listed_once}
use Rattle.plane_theorems.proofs.Tiling.Flows.{is_pair, is_pair_nonneg, is_pair_own, outer_counts}
use Rattle.plane_theorems.proofs.Tiling.Totals.{total_nonneg, total_positive, total_twice}
use Rattle.delaunay_legalization.specs.{outer_of, pair_of}
use Rattle.{delaunay_legalization.proofs.OwnEdges.total-read, half_edge_dcel.specs.OuterSumsChange}

-- how often a pair is listed
pub times : List (ℕ × ℕ) → ℕ → ℕ → ℤ
times xs i j = total (along (is_pair i j)) xs

times_listed : (xs : List (ℕ × ℕ)) (i j : ℕ) → Contains xs (i, j) → pos 1 ≤ℤ times xs i j
unfolding times
times_listed xs i j c = outer_counts xs i j c

times_nonneg : (xs : List (ℕ × ℕ)) (i j : ℕ) → pos 0 ≤ℤ times xs i j
unfolding times
times_nonneg xs i j = total_nonneg (along (is_pair i j)) xs (λ e _. is_pair_nonneg i j e.0 e.1)

listed_times : (xs : List (ℕ × ℕ)) (i j : ℕ) → pos 0 <ℤ times xs i j → Contains xs (i, j)
unfolding times
listed_times xs i j h =
    let r = total_positive (along (is_pair i j)) xs h in
    let e = pair_found i j r.0.0 r.0.1 r.2 in
    subst (Contains xs) (λ t. (e.0 t, e.1 t)) r.1

-- a pair that is not listed
not_listed : (xs : List (ℕ × ℕ)) (i j : ℕ) → ¬ Contains xs (i, j) → times xs i j ≡ pos 0
not_listed xs i j n = elim (lt_or_ge_ℤ (pos 0) (times xs i j)) [
  | inl h ↦ absurd (n (listed_times xs i j h))
  | inr h ↦ neither_sign_is_zero (times xs i j) h (times_nonneg xs i j)
]

at_most_once : (xs : List (ℕ × ℕ)) (i j : ℕ) → IsOnce xs → times xs i j ≤ℤ pos 1
unfolding times
at_most_once xs i j o = listed_once xs o i j

-- where each pair is counted at most once, it is listed once
once_times : (xs : List (ℕ × ℕ)) → ((i j : ℕ) → times xs i j ≤ℤ pos 1) → IsOnce xs
unfolding times
once_times xs few k l d below within same =
    let e = get_or xs k d in
    clash (total (along (is_pair e.0 e.1)) xs) (few e.0 e.1)
    (total_twice (along (is_pair e.0 e.1)) xs
    (λ x _. is_pair_nonneg e.0 e.1 x.0 x.1) k l d below within (is_pair_own e.0 e.1)
    (ap (along (is_pair e.0 e.1)) (sym same) ∙ is_pair_own e.0 e.1))
  where
    clash : (a : ℤ) → a ≤ℤ pos 1 → pos 2 ≤ℤ a → ⊥
    clash a h k = omega (arith, ints)

-- no pair of the first list is in the second
abbrev pub HaveNoneIn : List (ℕ × ℕ) → List (ℕ × ℕ) → Type 0
HaveNoneIn made gone = (i j : ℕ) → Contains made (i, j) → ¬ Contains gone (i, j)

-- the sums of four lists of pairs, as a change of lists
abbrev pub SumsChange : List (ℕ × ℕ) → List (ℕ × ℕ) → List (ℕ × ℕ) → List (ℕ × ℕ) → Type 0
SumsChange old new gone made = (f : ℕ → ℕ → ℤ)
    → total (along f) new +ℤ total (along f) gone ≡ total (along f) old +ℤ total (along f) made

module _ (old new gone made : List (ℕ × ℕ)) (sums : SumsChange old new gone made) where
  counts : (i j : ℕ) → times new i j +ℤ times gone i j ≡ times old i j +ℤ times made i j
  unfolding times
  counts i j = sums (is_pair i j)

  -- what goes was there, unless it is made
  pub gone_there : (i j : ℕ) → Contains gone (i, j) → ¬ Contains made (i, j) → Contains old (i, j)
  gone_there i j c n =
      listed_times old i j (some (times new i j) (times gone i j) (times old i j) (times made i j)
      (counts i j) (times_listed gone i j c) (not_listed made i j n) (times_nonneg new i j))
    where
      some : (a b c d : ℤ) → a +ℤ b ≡ c +ℤ d → pos 1 ≤ℤ b → d ≡ pos 0 → pos 0 ≤ℤ a → pos 0 <ℤ c
      some a b c d e h k l = omega (arith, ints)

  -- what is there afterwards was there or was made
  pub still_there : (i j : ℕ) → Contains new (i, j) → ¬ Contains made (i, j) → Contains old (i, j)
  still_there i j c n =
      listed_times old i j (some (times new i j) (times gone i j) (times old i j) (times made i j)
      (counts i j) (times_listed new i j c) (not_listed made i j n) (times_nonneg gone i j))
    where
      some : (a b c d : ℤ) → a +ℤ b ≡ c +ℤ d → pos 1 ≤ℤ a → d ≡ pos 0 → pos 0 ≤ℤ b → pos 0 <ℤ c
      some a b c d e h k l = omega (arith, ints)

  -- what was there and is no more has gone
  pub must_go : (i j : ℕ) → Contains old (i, j) → ¬ Contains new (i, j) → Contains gone (i, j)
  must_go i j c n =
      listed_times gone i j (some (times new i j) (times gone i j) (times old i j) (times made i j)
      (counts i j) (times_listed old i j c) (not_listed new i j n) (times_nonneg made i j))
    where
      some : (a b c d : ℤ) → a +ℤ b ≡ c +ℤ d → pos 1 ≤ℤ c → a ≡ pos 0 → pos 0 ≤ℤ d → pos 0 <ℤ b
      some a b c d e h k l = omega (arith, ints)

  -- where what is made is fresh, the sums are a change of outer edges
  pub sums_change : IsOnce old → IsOnce made → HaveNoneIn made old → HaveNoneIn made gone
      → OuterChange old new gone made
  sums_change once once_made fresh apart = record {
    kept = λ i j c n. listed_times new i j
        (kept (times new i j) (times gone i j) (times old i j) (times made i j) (counts i j)
        (times_listed old i j c) (not_listed gone i j n) (times_nonneg made i j));
    come = λ i j c. listed_times new i j
        (come (times new i j) (times gone i j) (times old i j) (times made i j) (counts i j)
        (times_listed made i j c) (not_listed gone i j (apart i j c)) (times_nonneg old i j));
    only = λ i j c. from i j c (has_pair_or_not made i j);
    once = once_times new (λ i j. single i j (has_pair_or_not made i j));
  }
    where
      kept : (a b c d : ℤ) → a +ℤ b ≡ c +ℤ d → pos 1 ≤ℤ c → b ≡ pos 0 → pos 0 ≤ℤ d → pos 0 <ℤ a
      kept a b c d e h k l = omega (arith, ints)

      come : (a b c d : ℤ) → a +ℤ b ≡ c +ℤ d → pos 1 ≤ℤ d → b ≡ pos 0 → pos 0 ≤ℤ c → pos 0 <ℤ a
      come a b c d e h k l = omega (arith, ints)

      too_many : (a b c d : ℤ) → a +ℤ b ≡ c +ℤ d → pos 1 ≤ℤ a → pos 1 ≤ℤ b → c ≤ℤ pos 1
          → d ≡ pos 0 → ⊥
      too_many a b c d e h k l n = omega (arith, ints)

      from : (i j : ℕ) → Contains new (i, j) → Contains made (i, j) ⊎ (¬ Contains made (i, j))
          → (Contains old (i, j) × ¬ Contains gone (i, j)) ⊎ Contains made (i, j)
      from i j c (inl m) = inr m
      from i j c (inr n) = inl (
        still_there i j c n,
        λ g. too_many (times new i j) (times gone i j)
            (times old i j) (times made i j) (counts i j) (times_listed new i j c)
            (times_listed gone i j g) (at_most_once old i j once) (not_listed made i j n),
      )

      few : (a b c d : ℤ) → a +ℤ b ≡ c +ℤ d → pos 0 ≤ℤ b → c ≤ℤ pos 1 → d ≡ pos 0 → a ≤ℤ pos 1
      few a b c d e h k l = omega (arith, ints)

      few_made : (a b c d : ℤ) → a +ℤ b ≡ c +ℤ d → pos 0 ≤ℤ b → c ≡ pos 0 → d ≤ℤ pos 1 → a ≤ℤ pos 1
      few_made a b c d e h k l = omega (arith, ints)

      single : (i j : ℕ) → Contains made (i, j) ⊎ (¬ Contains made (i, j)) → times new i j ≤ℤ pos 1
      single i j (inl m) = few_made (times new i j) (times gone i j) (times old i j)
          (times made i j) (counts i j) (times_nonneg gone i j) (not_listed old i j (fresh i j m))
          (at_most_once made i j once_made)
      single i j (inr n) = few (times new i j) (times gone i j) (times old i j) (times made i j)
          (counts i j) (times_nonneg gone i j) (at_most_once old i j once) (not_listed made i j n)

-- the sums that a call of the mesh gives
pub outer_sums : (old new : Mesh) (gone made : List Ends) → OuterSumsChange old new gone made
    → SumsChange (outer_of old) (outer_of new) (map pair_of gone) (map pair_of made)
outer_sums old new gone made c f =
    (λ t. total-read (along f) pair_of (outline new) t +ℤ total-read (along f) pair_of gone t)
    ∙ c f
    ∙ sym (λ t. total-read (along f) pair_of (outline old) t +ℤ total-read (along f) pair_of made t)
