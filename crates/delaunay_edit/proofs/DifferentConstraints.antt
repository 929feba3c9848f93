-- The constraints of a triangulation are different pairs, and no more than its edges.
-- Lemmas: constraints_once, few_constraints.
use Rattle.std.proofs.Common.{◌≡◌, ◌≢◌, ◌<◌, ◌≤◌, [], ◌∷◌}
use Rattle.std.proofs.Common.{ℕ, suc, Bool, true, false, List, length, sym, subst, arith}
use Rattle.std.specs.Prelude.{All, AllPairs, if◌then◌else◌, slice_index_or}
use Rattle.std.proofs.lemmas.List.{length-map, get_or-map}
use Rattle.std.proofs.lemmas.List.Elements.{All-cons, All-nil, All-contains_itself}
use Rattle.std.proofs.lemmas.List.Kept.{AllPairs-cons}
use Rattle.plane.specs.{EachPairOnce, IsSamePair, Point}
use Rattle.delaunay_legalization.specs.{constraints_by, IsTriangulated, marked_edges, marked_from}
use Rattle.delaunay_legalization.specs.{pair_at}
use Rattle.{delaunay_legalization.proofs.fixed_within, delaunay_legalization.specs.State.State}
use Rattle.delaunay_edit.proofs.ConstraintEdges.{count_of_fixed, few_marks, same_edge}

-- ---- each edge is marked once
module _ {U : Type 0} (marks : U → Bool) where
  any_all : (P : ℕ → Type 0) (b : Bool) (k : ℕ) (ks : List ℕ) → P k → All P ks
      → All P (if b then k ∷ ks else ks)
  any_all P true k ks here rest = All-cons P k ks here rest
  any_all P false k ks here rest = rest

  all_after : (n first : ℕ) (ds : List U) → n < first
      → All (λ k. n ≢ k) (marked_from marks first ds)
  all_after n first [] less = All-nil (λ k. n ≢ k)
  all_after n first (d ∷ ds) less =
      any_all (λ k. n ≢ k) (marks d) first (marked_from marks (suc first) ds)
      (λ e. absurd (omega (arith, e, less))) (all_after n (suc first) ds (omega (arith, less)))

  any_pairs : (b : Bool) (k : ℕ) (ks : List ℕ) → All (λ j. k ≢ j) ks → AllPairs (λ i j. i ≢ j) ks →
      AllPairs (λ i j. i ≢ j) (if b then k ∷ ks else ks)
  any_pairs true k ks here rest = AllPairs-cons (λ i j. i ≢ j) k ks here rest
  any_pairs false k ks here rest = rest

  marked_once : (first : ℕ) (ds : List U) → AllPairs (λ i j. i ≢ j) (marked_from marks first ds)
  marked_once first [] = λ i j d less within. absurd (omega (arith, within))
  marked_once first (d ∷ ds) = any_pairs (marks d) first (marked_from marks (suc first) ds)
      (all_after first (suc first) ds (omega arith)) (marked_once (suc first) ds)

module _ {V D U F : Type 0} (place : V → Point) (marks : U → Bool) (constraints : List U → List ℕ)
    (marked : (ds : List U) → constraints ds ≡ marked_edges marks ds) (s : State V D U F)
    (kept : IsTriangulated place s) where
  abbrev edges : List ℕ
  edges = constraints s.undirected

  edges_once : AllPairs (λ i j. i ≢ j) edges
  edges_once =
      subst (λ (ks : List ℕ). AllPairs (λ i j. i ≢ j) ks) (sym (marked s.undirected))
      (marked_once marks 0 s.undirected)

  apart_at : (i j : ℕ) → i < j → j < length edges → ¬ IsSamePair
      (pair_at s.mesh (slice_index_or edges i 0)).0 (pair_at s.mesh (slice_index_or edges i 0)).1
      (pair_at s.mesh (slice_index_or edges j 0)).0 (pair_at s.mesh (slice_index_or edges j 0)).1
  apart_at i j less within same =
      let first = fixed_within marks constraints marked s.undirected (slice_index_or edges i 0)
      (All-contains_itself edges i 0 (omega (arith, less, within))) in
      let second = fixed_within marks constraints marked s.undirected (slice_index_or edges j 0)
      (All-contains_itself edges j 0 within) in
      edges_once i j 0 less within
      (sym (same_edge place marks constraints marked s kept (slice_index_or edges i 0)
      (slice_index_or edges j 0) first second same))

  -- no two constraints join the same vertices
  pub constraints_once : EachPairOnce (constraints_by constraints s)
  constraints_once i j d less within =
      let inside : j < length edges = omega (arith, within, length-map edges (pair_at s.mesh)) in
      let before : i < length edges = omega (arith, less, inside) in
      let one = get_or-map (pair_at s.mesh) edges i 0 d before in
      let two = get_or-map (pair_at s.mesh) edges j 0 d inside in
      subst (λ (p : (ℕ × ℕ) × (ℕ × ℕ)). ¬ IsSamePair p.0.0 p.0.1 p.1.0 p.1.1)
      (λ k. (sym one k, sym two k))
      (apart_at i j less inside)

  -- and there are no more than edges
  pub few_constraints : length (constraints_by constraints s) ≤ length s.undirected
  few_constraints =
      let n = length s.undirected in
      let few = few_marks marks s.undirected n in
      let all = count_of_fixed marks constraints marked s.mesh s.undirected n (omega arith) in
      omega (arith, few, all)
