-- The edges whose data are marked.
-- Lemmas: is_marked_edge, marked_edge_is, is_constraint_edge, fixed_edge_is, fixed_within.
use Rattle.std.proofs.Common.{◌≡◌, ◌⊎◌, ◌+◌, ◌<◌, [], ◌∷◌, ◌∙◌}
use Rattle.std.proofs.Common.{ℕ, zero, suc, Bool, true, false, List, length, refl, sym, ap, subst}
use Rattle.std.proofs.Common.{arith}
use mathlib.Core.Logic.{inl, inr}
use Rattle.std.specs.Prelude.{Contains, Some, slice_get, if◌then◌else◌}
use Rattle.std.proofs.lemmas.Option.{slice_get_within}
use Rattle.plane_theorems.proofs.{Contains-cases, Contains-head, Contains-later, Contains-none}
use Rattle.delaunay_legalization.specs.{marked_edges, marked_from}
use Rattle.delaunay_legalization.proofs.Entries.{one_value}

later : (b : Bool) (k : ℕ) (ks : List ℕ) (j : ℕ) → Contains ks j
    → Contains (if b then k ∷ ks else ks) j
later true k ks j c = Contains-later k ks j c
later false k ks j c = c

first_or_later : (b : Bool) (k : ℕ) (ks : List ℕ) (j : ℕ) → Contains (if b then k ∷ ks else ks) j
    → ((b ≡ true) × (k ≡ j)) ⊎ Contains ks j
first_or_later true k ks j c =
    elim (Contains-cases k ks j c) [ inl e ↦ inl (refl, e) | inr d ↦ inr d ]
first_or_later false k ks j c = inr c

-- what an entry of a list says of its data
IsMarkedAt : {U : Type 0} → (U → Bool) → ℕ → List U → ℕ → Type 0
IsMarkedAt {U = U} marks first ds k =
    (i : ℕ) × (d : U) × (slice_get ds i ≡ Some d) × (marks d ≡ true) × (first + i ≡ k)

module _ {U : Type 0} (marks : U → Bool) where
  has_marked : (first : ℕ) (ds : List U) (i : ℕ) (d : U) → slice_get ds i ≡ Some d → marks d ≡ true
      → Contains (marked_from marks first ds) (first + i)
  has_marked first [] i d e t = cc
  has_marked first (x ∷ xs) zero d e t =
      let at : first ≡ first + 0 = omega arith in
      let marked : marks x ≡ true = ap marks (one_value x d e) ∙ t in
      subst (λ (b : Bool). Contains (if b then first ∷ marked_from marks
      (suc first) xs else marked_from marks (suc first) xs) (first + 0)) (sym marked)
      (subst (λ (k : ℕ). Contains (first ∷ marked_from marks (suc first) xs) k) at
      (Contains-head first (marked_from marks (suc first) xs)))
  has_marked first (x ∷ xs) (suc i) d e t =
      let at : suc first + i ≡ first + suc i = omega arith in
      later (marks x) first (marked_from marks (suc first) xs) (first + suc i)
      (subst (λ (k : ℕ). Contains (marked_from marks (suc first) xs) k) at
      (has_marked (suc first) xs i d e t))

  from_marked : (first : ℕ) (ds : List U) (k : ℕ) → Contains (marked_from marks first ds) k
      → IsMarkedAt marks first ds k
  unfolding IsMarkedAt
  from_marked first [] k c = absurd (Contains-none k c)
  from_marked first (x ∷ xs) k c =
      elim (first_or_later (marks x) first (marked_from marks (suc first) xs) k c) as
      (λ _. IsMarkedAt marks first (x ∷ xs) k) [
        | inl h ↦ (0, x, refl, h.0, (let e : first ≡ k = h.1 in omega (arith, e)))
        | inr d ↦ (let r = from_marked (suc first) xs k d in
            (suc r.0, r.1, r.2, r.3, (let e : suc first + r.0 ≡ k = r.4 in omega (arith, e))))
      ]

  marked_within : (ds : List U) (k : ℕ) → Contains (marked_edges marks ds) k → k < length ds
  unfolding IsMarkedAt
  marked_within ds k c =
      let r = from_marked 0 ds k c in
      let below = slice_get_within ds r.0 r.1 r.2 in
      let f : 0 + r.0 ≡ k = r.4 in
      omega (arith, f, below)

  -- an edge with marked data is one
  pub is_marked_edge : (ds : List U) (k : ℕ) (d : U) → slice_get ds k ≡ Some d → marks d ≡ true
      → Contains (marked_edges marks ds) k
  is_marked_edge ds k d e t =
      let at : 0 + k ≡ k = omega arith in
      subst (λ (j : ℕ). Contains (marked_edges marks ds) j) at (has_marked 0 ds k d e t)

  -- and no other is
  pub marked_edge_is : (ds : List U) (k : ℕ) (d : U) → slice_get ds k ≡ Some d
      → Contains (marked_edges marks ds) k → marks d ≡ true
  unfolding IsMarkedAt
  marked_edge_is ds k d e c =
      let r = from_marked 0 ds k c in
      let at : r.0 ≡ k = (let f : 0 + r.0 ≡ k = r.4 in omega (arith, f)) in
      ap marks (sym (one_value r.1 d (sym r.2 ∙ ap (slice_get ds) at ∙ e))) ∙ r.3

module _ {U : Type 0} (marks : U → Bool) (constraints : List U → List ℕ)
    (marked : (ds : List U) → constraints ds ≡ marked_edges marks ds) where
  -- an edge whose data have the mark is a constraint
  pub is_constraint_edge : (ds : List U) (k : ℕ) (d : U) → slice_get ds k ≡ Some d → marks d ≡ true
      → Contains (constraints ds) k
  is_constraint_edge ds k d e t =
      subst (λ (ks : List ℕ). Contains ks k) (sym (marked ds)) (is_marked_edge marks ds k d e t)

  -- the data of an edge that is a constraint have the mark
  pub fixed_edge_is : (ds : List U) (k : ℕ) (d : U) → slice_get ds k ≡ Some d
      → Contains (constraints ds) k → marks d ≡ true
  fixed_edge_is ds k d e c =
      marked_edge_is marks ds k d e (subst (λ (ks : List ℕ). Contains ks k) (marked ds) c)

  -- each constraint is one of the mesh
  pub fixed_within : (ds : List U) (k : ℕ) → Contains (constraints ds) k → k < length ds
  fixed_within ds k c =
      marked_within marks ds k (subst (λ (ks : List ℕ). Contains ks k) (marked ds) c)
