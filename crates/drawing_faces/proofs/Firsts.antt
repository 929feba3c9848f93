-- First indexes, found from the end of a list to its front.
-- Notions: AreFirstsFrom; firsts_more.
use Rattle.std.proofs.Common.{◌≡◌, ◌≢◌, ◌+◌, ◌<◌, ◌≤◌, ◌∙◌, ◌⊎◌}
use Rattle.std.proofs.Common.{ℕ, List, length, sym, ap, inl, inr, arith}
use Rattle.std.specs.Prelude.{slice_index, slice_set}
use Rattle.std.proofs.lemmas.Bool.{cases_eq}
use Rattle.std.proofs.lemmas.List.{length-set, get_or-set_same, get_or-set_other}

-- the first index of the vertex at i, among the indexes from some index on
abbrev IsFirstFor : List ℕ → List ℕ → ℕ → Type 0
IsFirstFor vertices firsts i = let first = slice_index firsts (slice_index vertices i) in
    (first ≤ i) × (slice_index vertices first ≡ slice_index vertices i)

-- the first indexes are those among the indexes from this one on
pub record AreFirstsFrom (index count : ℕ) (vertices firsts : List ℕ) : Type 0 where
  pub size : length firsts ≡ count
  pub within : index ≤ length vertices
  pub each : (i : ℕ) → index ≤ i → i < length vertices → IsFirstFor vertices firsts i

module _ (count index : ℕ) (vertices firsts : List ℕ)
    (are : AreFirstsFrom (index + 1) count vertices firsts)
    (below : slice_index vertices index < length firsts) where
  abbrev more : List ℕ
  more = slice_set firsts (slice_index vertices index) index

  same_vertex : (i : ℕ) → index ≤ i → slice_index vertices i ≡ slice_index vertices index
      → IsFirstFor vertices more i
  same_vertex i from is =
      let written : slice_index more (slice_index vertices i) ≡ index =
      ap (slice_index more) is
      ∙ get_or-set_same firsts (slice_index vertices index) index 0 below in
      (omega (arith, written, from), ap (slice_index vertices) written ∙ sym is)

  other_vertex : (i : ℕ) → slice_index vertices i ≢ slice_index vertices index
      → IsFirstFor vertices firsts i → IsFirstFor vertices more i
  other_vertex i apart (few, is) =
      let kept : slice_index more (slice_index vertices i)
      ≡ slice_index firsts (slice_index vertices i) =
      get_or-set_other firsts (slice_index vertices index) (slice_index vertices i) index 0 apart in
      (omega (arith, kept, few), ap (slice_index vertices) kept ∙ is)

  -- one index more
  pub firsts_more : AreFirstsFrom index count vertices more
  firsts_more = record {
    size = length-set firsts (slice_index vertices index) index ∙ are.size;
    within = let w = are.within in omega (arith, w);
    each = λ i from within.
        go i from within (cases_eq (slice_index vertices i) (slice_index vertices index));
  }
    where
      not_here : (i : ℕ) → index ≤ i → slice_index vertices i ≢ slice_index vertices index
          → i ≢ index
      not_here i from apart is = apart (ap (slice_index vertices) is)

      go : (i : ℕ) → index ≤ i → i < length vertices
          → (slice_index vertices i ≡ slice_index vertices index)
          ⊎ (slice_index vertices i ≡ slice_index vertices index → ⊥)
          → IsFirstFor vertices more i
      go i from within (inl is) = same_vertex i from is
      go i from within (inr apart) =
          let off = not_here i from apart in
          other_vertex i apart (are.each i (omega (arith, from, off)) within)
