-- The pairs that constraints join, by the list of edges with their data.
-- Notions: JoinsWithMark; own_ends, own_edge, joins_with_mark, joined_with_mark.
use Rattle.std.proofs.Common.{◌≡◌, ◌*◌, ◌<◌, ◌∙◌}
use Rattle.std.proofs.Common.{ℕ, Bool, true, List, length, sym, ap, subst, Some, arith}
use Rattle.std.specs.Prelude.{slice_get}
use Rattle.std.proofs.lemmas.Option.{slice_get_within}
use Rattle.half_edge_links.specs.{ends, origin, rev}
use Rattle.{half_edge_links.proofs.length-ends_twice, plane.specs.IsSamePair, plane.specs.Joins}
use Rattle.half_edge_dcel.specs.{Contents, Edge, edges, IsMeshWithData}
use Rattle.delaunay_legalization.specs.{constraint_pairs, marked_edges}
use Rattle.delaunay_legalization.proofs.{joined_by_mark, JoinsByMark, mark_joins, one_value}
use Rattle.delaunay_vertices.proofs.DataGrowing.{ends_are, parts_of_edge, some_edge}

-- edge k of the list joins a and b, and has the mark
pub record JoinsWithMark {U : Type 0} (marks : U → Bool) (es : List (Edge U))
    (k a b : ℕ) : Type 0 where
  pub edge : Edge U
  pub there : slice_get es k ≡ Some edge
  pub mark : marks edge.value ≡ true
  pub ends : IsSamePair a b edge.source edge.target

-- an edge of the list, by the links of the mesh
pub own_ends : {V D U F : Type 0} (c : Contents V D U F) → IsMeshWithData c → (k : ℕ) (e : Edge U) →
    slice_get (edges c) k ≡ Some e → (slice_get c.undirected k ≡ Some e.value) ×
    ((origin c.mesh (2 * k) ≡ e.source) × (origin c.mesh (rev (2 * k)) ≡ e.target))
own_ends c w k e h = let p = parts_of_edge (ends c.mesh) c.undirected k e h in
    (p.1, ends_are c.mesh w.valid.sound k (record { source = e.source; target = e.target }) p.0)

-- each undirected edge of a mesh is in the list of edges with their data
pub own_edge : {V D U F : Type 0} (c : Contents V D U F) → IsMeshWithData c → (k : ℕ)
    → k < length c.undirected → (e : Edge U) × (slice_get (edges c) k ≡ Some e)
own_edge c w k h = some_edge (ends c.mesh) c.undirected k
    (let f = w.fits.undirected_fit in let n = length-ends_twice c.mesh w.valid.sound in
    omega (arith, f, n, h)) h

module _ {U : Type 0} (marks : U → Bool) (constraints : List U → List ℕ)
    (marked : (ds : List U) → constraints ds ≡ marked_edges marks ds) where
  module _ {V D F : Type 0} (c : Contents V D U F) (w : IsMeshWithData c) (a b : ℕ) where
    -- where a constraint joins a and b, an edge in the list does, with the mark
    pub joins_with_mark : Joins (constraint_pairs constraints c.mesh c.undirected) a b →
        (k : ℕ) × JoinsWithMark marks (edges c) k a b
    joins_with_mark h = go (mark_joins marks constraints marked c.mesh c.undirected a b h)
      where
        go : JoinsByMark marks constraints marked c.mesh c.undirected a b →
            (k : ℕ) × JoinsWithMark marks (edges c) k a b
        go j =
            let e =
            own_edge c w j.edge (slice_get_within c.undirected j.edge j.is.value j.is.has) in
            let o = own_ends c w j.edge e.0 e.1 in (
              j.edge,
              record {
                edge = e.0;
                there = e.1;
                mark = ap marks (one_value e.0.value j.is.value (sym o.0 ∙ j.is.has)) ∙ j.is.mark;
                ends =
                    subst (λ (x : ℕ × ℕ). IsSamePair a b x.0 x.1) (λ i. (o.1.0 i, o.1.1 i)) j.ends;
              },
            )

    -- where an edge in the list joins a and b, with the mark, a constraint does
    pub joined_with_mark : (k : ℕ) → JoinsWithMark marks (edges c) k a b →
        Joins (constraint_pairs constraints c.mesh c.undirected) a b
    joined_with_mark k j =
        let o = own_ends c w k j.edge j.there in
        joined_by_mark marks constraints marked c.mesh c.undirected a b (record {
          edge = k;
          is = record { value = j.edge.value; has = o.0; mark = j.mark };
          ends = subst (λ (x : ℕ × ℕ). IsSamePair a b x.0 x.1)
              (λ i. (sym o.1.0 i, sym o.1.1 i)) j.ends;
        })
