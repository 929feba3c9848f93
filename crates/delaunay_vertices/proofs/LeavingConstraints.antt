-- The constraints that are left where a vertex goes that has none.
-- Lemmas: old_of_freed, old_of_other, there_and_back, back_and_there, constraints_left.
use Rattle.std.proofs.Common.{◌≡◌, ◌≢◌, ◌⊎◌, ◌↔◌, ◌+◌, ◌-◌, ◌*◌, ◌<◌, ◌∙◌}
use Rattle.std.proofs.Common.{ℕ, suc, List, length, Some, refl, sym, ap, subst, inl, inr, arith}
use Rattle.std.specs.Prelude.{Bool, true, false, nat_eq, if◌then◌else◌, Contains}
use Rattle.std.proofs.lemmas.Bool.{cases_eq}
use Rattle.std.proofs.lemmas.Bool.Decides.{nat_tests}
use Rattle.std.proofs.lemmas.Option.{slice_get_within}
use Rattle.half_edge_links.specs.{moved, origin}
use Rattle.half_edge_links.proofs.Removing.OpenSound.{moved_hit, moved_miss}
use Rattle.half_edge_dcel.specs.{Contents, full_edges, FullEdge, IsMeshWithData, renumbered_edge}
use Rattle.delaunay_legalization.specs.{constraint_pairs, marked_edges}
use Rattle.delaunay_legalization.proofs.{both_ways, half_of_even, joined_by_mark, JoinsByMark}
use Rattle.delaunay_legalization.proofs.{mark_joins, rev_of_even}
use Rattle.{delaunay_vertices.specs.RenumbersEdges, plane.specs.IsSamePair, plane.specs.Joins}
use Rattle.delaunay_vertices.proofs.DataReads.{edge_of, edge_read, IsEdgeAt}

-- ---- the indexes
abbrev old_index : ℕ → ℕ → ℕ → ℕ
old_index v last k = if nat_eq k v then last else k

-- the index that came free is that of the vertex that was last
pub old_of_freed : (v last j : ℕ) → j ≡ v → old_index v last j ≡ last
old_of_freed v last j e = grind (arith, nat_tests)

-- each other index is the old one
pub old_of_other : (v last j : ℕ) → j ≢ v → old_index v last j ≡ j
old_of_other v last j n = grind (arith, nat_tests)

-- the new index of a vertex is below the last, and the vertex has its old one
pub there_and_back : (v last s : ℕ) → v < suc last → s < suc last → s ≢ v
    → (moved last v s < last) × (old_index v last (moved last v s) ≡ s)
there_and_back v last s hv hs off = elim (cases_eq s last) [
  | inl e ↦ (
    subst (λ (k : ℕ). k < last) (sym (moved_hit last v s e)) (omega (arith, hv, off, e)),
    ap (old_index v last) (moved_hit last v s e) ∙ old_of_freed v last v refl ∙ sym e,
  )
  | inr n ↦ (
    subst (λ (k : ℕ). k < last) (sym (moved_miss last v s n)) (omega (arith, hs, n)),
    ap (old_index v last) (moved_miss last v s n) ∙ old_of_other v last s off,
  )
]

-- the old index of a vertex that stays is not the removed one, and leads to its new index
pub back_and_there : (v last a : ℕ) → a < last
    → (old_index v last a ≢ v) × (moved last v (old_index v last a) ≡ a)
back_and_there v last a below = elim (cases_eq a v) [
  | inl e ↦ (
    (λ q. let r = sym (old_of_freed v last a e) ∙ q in omega (arith, below, e, r)),
    moved_hit last v (old_index v last a) (old_of_freed v last a e) ∙ sym e,
  )
  | inr n ↦ (
    (λ q. n (sym (old_of_other v last a n) ∙ q)),
    ap (moved last v) (old_of_other v last a n)
        ∙ moved_miss last v a (λ q. omega (arith, below, q)),
  )
]

-- ---- constraints by edges with all their data
module _ {U : Type 0} (marks : U → Bool) (constraints : List U → List ℕ)
    (marked : (ds : List U) → constraints ds ≡ marked_edges marks ds) {V D F : Type 0} where
  record JoinsByEdge (c : Contents V D U F) (a b : ℕ) : Type 0 where
    pub edge : FullEdge D U
    pub there : Contains (full_edges c) edge
    pub mark : marks edge.value ≡ true
    pub ends : IsSamePair a b edge.source edge.target

  module _ (c : Contents V D U F) (whole : IsMeshWithData c) where
    by_edge : (a b : ℕ) → Joins (constraint_pairs constraints c.mesh c.undirected) a b
        → JoinsByEdge c a b
    by_edge a b joined = go (mark_joins marks constraints marked c.mesh c.undirected a b joined)
      where
        some_same : (p q : U) → Some p ≡ Some q → p ≡ q
        some_same p q e = cc

        go : JoinsByMark marks constraints marked c.mesh c.undirected a b → JoinsByEdge c a b
        go j =
            let within = slice_get_within c.undirected j.edge j.is.value j.is.has in
            let us = whole.fits.undirected_fit in
            let ds = whole.fits.directed_fit in
            let x = edge_of c whole (2 * j.edge) (omega (arith, within, us, ds)) in
            let is : IsEdgeAt c j.edge x.0 =
            subst (λ (k : ℕ). IsEdgeAt c k x.0) (half_of_even j.edge) x.2 in
            record {
              edge = x.0;
              there = x.1;
              mark =
                  ap marks (some_same x.0.value j.is.value (sym is.value ∙ j.is.has)) ∙ j.is.mark;
              ends = subst (λ (y : ℕ × ℕ). IsSamePair a b y.0 y.1)
                  (λ o. (is.source o, (ap (origin c.mesh) (rev_of_even j.edge) ∙ is.target) o))
                  j.ends;
            }

    from_edge : (a b : ℕ) → JoinsByEdge c a b
        → Joins (constraint_pairs constraints c.mesh c.undirected) a b
    from_edge a b j =
        let is = edge_read c whole j.there.0 j.edge j.there.1 j.there.2 in
        joined_by_mark marks constraints marked c.mesh c.undirected a b (record {
          edge = j.there.0;
          is = record { value = j.edge.value; has = is.value; mark = j.mark };
          ends = subst (λ (y : ℕ × ℕ). IsSamePair a b y.0 y.1)
              (λ o. (
                sym is.source o,
                sym (ap (origin c.mesh) (rev_of_even j.there.0) ∙ is.target) o,
              )) j.ends;
        })

    ends_in : (e : FullEdge D U) → Contains (full_edges c) e → (e.source < length c.vertices) ×
        (e.target < length c.vertices)
    ends_in e h =
        let is = edge_read c whole h.0 e h.1 h.2 in
        let within = is.within in
        let ds = whole.fits.directed_fit in (
          inside (2 * h.0) (omega (arith, within, ds)) e.source is.source,
          inside (2 * h.0 + 1) (omega (arith, within, ds)) e.target is.target,
        )
      where
        inside : (g : ℕ) → g < length c.mesh.half_edges → (k : ℕ) → origin c.mesh g ≡ k
            → k < length c.vertices
        inside g within k is = subst (λ (n : ℕ). k < n) (sym whole.fits.vertices_fit)
            (subst (λ (x : ℕ). x < length c.mesh.out_edges) is
            (whole.valid.sound.edges g within).origin_in)

  -- ---- the vertex has none
  module _ (old new : Contents V D U F) (before : IsMeshWithData old) (after : IsMeshWithData new)
      (v : ℕ) (here : v < length old.vertices) (free : (e : FullEdge D U)
      → Contains (full_edges old) e → (e.source ≡ v) ⊎ (e.target ≡ v) → marks e.value ≡ false)
      (renumbers : RenumbersEdges old new v) where
    abbrev last : ℕ
    last = length old.vertices - 1

    below_suc : (k : ℕ) → k < length old.vertices → k < suc last
    below_suc k h = omega (arith, h)

    -- an edge with the mark that was there has ends with new indexes
    kept_ends : (a b : ℕ) (x : FullEdge D U) → Contains (full_edges old) x → marks x.value ≡ true →
        IsSamePair a b (moved last v x.source) (moved last v x.target) → (a < last) × (b < last) ×
        IsSamePair (old_index v last a) (old_index v last b) x.source x.target
    kept_ends a b x there mark ends = go ends
      where
        s : (moved last v x.source < last) × (old_index v last (moved last v x.source) ≡ x.source)
        s = there_and_back v last x.source (below_suc v here)
            (below_suc x.source (ends_in old before x there).0)
            (λ q. both_ways (marks x.value) mark (free x there (inl q)))

        t : (moved last v x.target < last) × (old_index v last (moved last v x.target) ≡ x.target)
        t = there_and_back v last x.target (below_suc v here)
            (below_suc x.target (ends_in old before x there).1)
            (λ q. both_ways (marks x.value) mark (free x there (inr q)))

        go : IsSamePair a b (moved last v x.source) (moved last v x.target) → (a < last)
            × (b < last) × IsSamePair (old_index v last a) (old_index v last b) x.source x.target
        go (inl q) = (
          subst (λ (k : ℕ). k < last) (sym q.0) s.0,
          subst (λ (k : ℕ). k < last) (sym q.1) t.0,
          inl (ap (old_index v last) q.0 ∙ s.1, ap (old_index v last) q.1 ∙ t.1),
        )
        go (inr q) = (
          subst (λ (k : ℕ). k < last) (sym q.0) t.0,
          subst (λ (k : ℕ). k < last) (sym q.1) s.0,
          inr (ap (old_index v last) q.0 ∙ t.1, ap (old_index v last) q.1 ∙ s.1),
        )

    -- the ends of a new constraint were joined by one, under their old indexes
    came : (a b : ℕ) → JoinsByEdge new a b → (a < last) × (b < last) ×
        JoinsByEdge old (old_index v last a) (old_index v last b)
    came a b j = elim (renumbers.comes j.edge j.there) [
      | inl x ↦ (
          let mark : marks x.0.value ≡ true =
          ap (λ (e : FullEdge D U). marks e.value) x.2 ∙ j.mark in
          let k = kept_ends a b x.0 x.1 mark
          (subst (λ (e : FullEdge D U). IsSamePair a b e.source e.target) (sym x.2)
          j.ends) in
          (k.0, k.1, record { edge = x.0; there = x.1; mark = mark; ends = k.2 })
          )
      | inr y ↦ absurd (both_ways (marks j.edge.value) j.mark
          (sym (ap marks y.same) ∙ free y.edge y.there y.ends))
    ]

    -- and what was joined under old indexes is joined under the new ones
    goes : (a b : ℕ) → a < last → b < last
        → JoinsByEdge old (old_index v last a) (old_index v last b) → JoinsByEdge new a b
    goes a b ha hb j = record {
      edge = renumbered_edge last v j.edge;
      there = renumbers.goes j.edge j.there (off j.ends).0 (off j.ends).1;
      mark = j.mark;
      ends = named j.ends;
    }
      where
        x : (old_index v last a ≢ v) × (moved last v (old_index v last a) ≡ a)
        x = back_and_there v last a ha

        y : (old_index v last b ≢ v) × (moved last v (old_index v last b) ≡ b)
        y = back_and_there v last b hb

        off : IsSamePair (old_index v last a) (old_index v last b) j.edge.source j.edge.target →
            (j.edge.source ≢ v) × (j.edge.target ≢ v)
        off (inl q) = (λ r. x.0 (q.0 ∙ r), λ r. y.0 (q.1 ∙ r))
        off (inr q) = (λ r. y.0 (q.1 ∙ r), λ r. x.0 (q.0 ∙ r))

        named : IsSamePair (old_index v last a) (old_index v last b) j.edge.source j.edge.target →
            IsSamePair a b (moved last v j.edge.source) (moved last v j.edge.target)
        named (inl q) = inl (sym x.1 ∙ ap (moved last v) q.0, sym y.1 ∙ ap (moved last v) q.1)
        named (inr q) = inr (sym x.1 ∙ ap (moved last v) q.0, sym y.1 ∙ ap (moved last v) q.1)

    -- the constraints afterwards are those of before, by the former indexes of their ends
    pub constraints_left : (a b : ℕ)
        → Joins (constraint_pairs constraints new.mesh new.undirected) a b
        ↔ ((a < last) × (b < last) × Joins (constraint_pairs constraints old.mesh old.undirected)
        (old_index v last a) (old_index v last b))
    constraints_left a b = (
      (λ h. let k = came a b (by_edge new after a b h) in
          (k.0, k.1, from_edge old before (old_index v last a) (old_index v last b) k.2)),
      (λ h. from_edge new after a b (goes a b h.0 h.1
          (by_edge old before (old_index v last a) (old_index v last b) h.2))),
    )
