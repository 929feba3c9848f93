-- The marks of edges, and the edges of a triangulation by index.
-- Lemmas: mark_joins, edge_at.
use Rattle.std.proofs.Common.{◌≡◌, ◌∙◌, ◌<◌, ◌+◌, ◌*◌, ◌/◌, ◌%◌, ℕ, Bool, List, length}
use Rattle.std.proofs.Common.{get_or, option_map, sym, ap, subst, inl, inr, arith}
use Rattle.std.specs.Prelude.{Some, slice_get}
use Rattle.std.specs.List.{range_with_len}
use Rattle.std.proofs.lemmas.Bool.{cases_eq}
use Rattle.std.proofs.lemmas.List.FromFn.{get_or-range_with_len, length-range_with_len}
use Rattle.std.proofs.lemmas.Option.{slice_get-map, slice_get-get_or}
use Rattle.plane.specs.{IsSamePair, Joins, Point}
use Rattle.half_edge_links.specs.{origin, rev}
use Rattle.half_edge_links.proofs.{rev-rev, rev_of_odd}
use Rattle.delaunay_legalization.specs.{constraints_by, edges_of, IsTriangulated, marked_edges}
use Rattle.delaunay_legalization.specs.{pair_at, State.State, triangulation_of}
use Rattle.delaunay_legalization.proofs.WorkList.{pairs_are_edges}
use Rattle.delaunay_edit.proofs.ConstraintEdges.{fixed_if_joined, joined_by}
use Rattle.c_calls.specs.{Links.IsMarkOf, Links.IsRawEdge, Queries.IsEdgeEntry, Queries.IsMark}
use Rattle.c_calls.specs.declared.raw.RawEdge.{RawEdge}

-- a pair that is joined is so by each name of its ends
joins_same : (pairs : List (ℕ × ℕ)) (a b i j : ℕ) → IsSamePair a b i j → Joins pairs a b
    → Joins pairs i j
joins_same pairs a b i j (inl e) h =
    subst (λ (n : ℕ). Joins pairs n j) e.0 (subst (λ (n : ℕ). Joins pairs a n) e.1 h)
joins_same pairs a b i j (inr e) h = turned
    (subst (λ (n : ℕ). Joins pairs n i) e.0 (subst (λ (n : ℕ). Joins pairs a n) e.1 h))
  where
    turned : Joins pairs j i → Joins pairs i j
    turned (inl c) = inr c
    turned (inr c) = inl c

module _ {V D U F : Type 0} (s : State V D U F) where
  -- a directed edge goes one way along its undirected edge or the other
  same_ends : (h : ℕ) → IsSamePair (origin s.mesh h) (origin s.mesh (rev h))
      (origin s.mesh (2 * (h / 2))) (origin s.mesh (rev (2 * (h / 2))))
  same_ends h = elim (cases_eq (h % 2) 0) [
    | inl even ↦ let e : h ≡ 2 * (h / 2) = omega (arith, even) in
        inl (ap (origin s.mesh) e, ap (λ (k : ℕ). origin s.mesh (rev k)) e)
    | inr odd ↦ let half : h ≡ 2 * (h / 2) + 1 = omega (arith, odd) in
        let whole : (2 * (h / 2)) % 2 ≡ 0 = omega arith in
        let e : rev h ≡ 2 * (h / 2) = ap rev half ∙ rev_of_odd (2 * (h / 2)) whole in
        inr (ap (origin s.mesh) (sym (rev-rev h) ∙ ap rev e), ap (origin s.mesh) e)
  ]

module _ {V D U F : Type 0} (place : V → Point) (marks : U → Bool) (constraints : List U → List ℕ)
    (marked : (ds : List U) → constraints ds ≡ marked_edges marks ds) (s : State V D U F)
    (kept : IsTriangulated place s) where
  -- the mark of an edge tells whether a constraint joins its ends
  pub mark_joins : (h mark : ℕ) → h < length s.mesh.half_edges
      → IsMarkOf (constraints s.undirected) (h / 2) mark
      → IsMark (constraints_by constraints s) (origin s.mesh h) (origin s.mesh (rev h)) mark
  mark_joins h mark w (inl is) = inl (
    is.0,
    joined_by marks constraints marked s.mesh s.undirected (origin s.mesh h)
        (origin s.mesh (rev h)) (h / 2) is.1 (same_ends s h),
  )
  mark_joins h mark w (inr is_not) = inr (
    is_not.0,
    λ j. is_not.1 (fixed_if_joined place marks constraints marked s kept (h / 2)
        (let fit = kept.fits.undirected_fit in omega (arith, fit, w))
        (joins_same (constraints_by constraints s) (origin s.mesh h) (origin s.mesh (rev h))
        (origin s.mesh (2 * (h / 2))) (origin s.mesh (rev (2 * (h / 2)))) (same_ends s h) j)),
  )

  -- the ends of an edge by its index
  pair_read : (k : ℕ) → k < length s.undirected
      → slice_get (edges_of s.mesh) k ≡ Some (pair_at s.mesh k)
  pair_read k w =
      let n : ℕ = length s.undirected in
      let fit = kept.fits.undirected_fit in
      let below : k < length (range_with_len 0 n) =
      omega (arith, w, length-range_with_len 0 n) in
      let here : get_or (range_with_len 0 n) k 0 ≡ k =
      get_or-range_with_len 0 n k 0 w ∙ omega arith in
      ap (λ (ps : List (ℕ × ℕ)). slice_get ps k)
      (sym (pairs_are_edges s.mesh n (omega (arith, fit)) kept.valid))
      ∙ slice_get-map (pair_at s.mesh) (range_with_len 0 n) k
      ∙ ap (option_map (pair_at s.mesh)) (slice_get-get_or (range_with_len 0 n) k 0 below
      ∙ ap Some here)

  -- an edge by its index, as C is told of it
  edge_read : (k h : ℕ) (e : RawEdge) → k < length s.undirected → h ≡ 2 * k
      → IsRawEdge constraints s h e.from e.to e.constrained
      → IsEdgeEntry (triangulation_of place s) (constraints_by constraints s) k e
  edge_read k h e w double raw =
      let fit = kept.fits.undirected_fit in
      let from : e.from ≡ origin s.mesh (2 * k) = raw.starts ∙ ap (origin s.mesh) double in
      let to : e.to ≡ origin s.mesh (rev (2 * k)) =
      raw.ends ∙ ap (λ (g : ℕ). origin s.mesh (rev g)) double in
      let mark = mark_joins h e.constrained (omega (arith, fit, w, double)) raw.marked in
      record {
        ends = pair_read k w ∙ ap (λ (p : ℕ × ℕ). Some p) (λ i. (sym from i, sym to i));
        marked = subst (λ (j : ℕ). IsMark (constraints_by constraints s) e.from j e.constrained)
            (sym raw.ends)
            (subst (λ (j : ℕ). IsMark (constraints_by constraints s) j (origin s.mesh (rev h))
            e.constrained) (sym raw.starts) mark);
      }

  -- the same, where the edge is read from a mesh in this state
  pub edge_at : (t : State V D U F) (k h : ℕ) (e : RawEdge) → t ≡ s → k < length s.undirected
      → h ≡ 2 * k → IsRawEdge constraints t h e.from e.to e.constrained
      → IsEdgeEntry (triangulation_of place s) (constraints_by constraints s) k e
  edge_at t k h e same w double raw = edge_read k h e w double
      (subst (λ u. IsRawEdge constraints u h e.from e.to e.constrained) same raw)
