-- The edge and the constraint between two vertices.
-- Lemmas: index_found, first_joined, some_joins, edge_joins, edge_tells, no_edge_joins, none_tells.
use Rattle.std.proofs.Common.{◌≡◌, ◌≢◌, ◌↔◌, ◌*◌, ◌/◌, ◌<◌, ◌∙◌}
use Rattle.std.proofs.Common.{ℕ, List, length, refl, sym, ap, subst, inl, inr, arith}
use Rattle.std.specs.Borrow.{Bor}
use Rattle.std.specs.Prelude.{Bool, false, Contains, IsTrue}
use Rattle.std.proofs.lemmas.Option.{slice_get_within}
use Rattle.{plane.proofs.same_joined, plane.specs.IsSamePair, plane.specs.Joins, plane.specs.Point}
use Rattle.half_edge_links.specs.{origin, rev}
use Rattle.half_edge_links.proofs.{rev-rev, rev_within}
use Rattle.half_edge_dcel.specs.{Contents, IsMeshWithData}
use Rattle.delaunay_legalization.specs.{constraint_pairs, edges_of, IsTriangulated, marked_edges}
use Rattle.delaunay_legalization.specs.{state_of}
use Rattle.delaunay_legalization.proofs.{both_ways, JoinsByMark, mark_joins, MeshLegal.joins_edge}
use Rattle.delaunay_legalization.proofs.{Constraints.is_constraint_edge, MarkedPairs.same_as_third}
use Rattle.delaunay_edit.proofs.AddingSubconstraints.{half_ends}
use Rattle.delaunay_edit.proofs.Releasing.{double, one_edge}
use Rattle.delaunay_legalization.proofs.EdgePairs as E

-- what the view of an edge says of its ends is so of its name
pub index_found : {V D U F : Type 0} {b d : Bor (Contents V D U F)} {i j k h : ℕ}
    → (b ≡ d) × (origin d.now.mesh k ≡ i) × (origin d.now.mesh (rev k) ≡ j) → h ≡ k
    → h < length b.now.directed
    → (h < length d.now.directed) × (origin d.now.mesh h ≡ i) × (origin d.now.mesh (rev h) ≡ j)
index_found {V = V} {D = D} {U = U} {F = F} {d = d} {h = h} found same within = (
  subst (λ (x : Bor (Contents V D U F)). h < length x.now.directed) found.0 within,
  ap (origin d.now.mesh) same ∙ found.1,
  ap (λ (l : ℕ). origin d.now.mesh (rev l)) same ∙ found.2,
)

-- ---- two vertices that are joined
module _ {V D U F : Type 0} {c : Contents V D U F} {a b : ℕ} (whole : IsMeshWithData c)
    (joined : Joins (edges_of c.mesh) a b) where
  abbrev edge : (h : ℕ) × (h < length c.mesh.half_edges) × (origin c.mesh h ≡ a)
      × (origin c.mesh (rev h) ≡ b)
  edge = E.joins_edge c.mesh whole.valid.sound a b joined

  -- the first is one of the mesh
  pub first_joined : a < length c.vertices
  first_joined = subst (λ (n : ℕ). a < n) (sym whole.fits.vertices_fit)
      (subst (λ (k : ℕ). k < length c.mesh.out_edges) edge.2
      (whole.valid.sound.edges edge.0 edge.1).origin_in)

  -- and an edge goes from it to the second
  pub some_joins : ¬ ((h : ℕ) → h < length c.directed → origin c.mesh h ≡ a
      → origin c.mesh (rev h) ≢ b)
  some_joins none = none edge.0
      (subst (λ (n : ℕ). edge.0 < n) (sym whole.fits.directed_fit) edge.1) edge.2 edge.3

-- ---- constraints
module _ {V D U F : Type 0} (at : V → Point) (marks : U → Bool) (constraints : List U → List ℕ)
    (marked : (ds : List U) → constraints ds ≡ marked_edges marks ds) (c : Contents V D U F)
    (kept : IsTriangulated at (state_of c)) where
  abbrev pairs : List (ℕ × ℕ)
  pairs = constraint_pairs constraints c.mesh c.undirected

  half_in : (h : ℕ) → h < length c.mesh.half_edges → h / 2 < length c.undirected
  half_in h within = let f = kept.fits.undirected_fit in omega (arith, f, within)

  -- the edge from a to b is a constraint exactly if one joins these
  pub edge_joins : (a b h : ℕ) → h < length c.mesh.half_edges → origin c.mesh h ≡ a
      → origin c.mesh (rev h) ≡ b → Contains (constraints c.undirected) (h / 2) ↔ Joins pairs a b
  edge_joins a b h within starts ends = (
    (λ there. same_joined pairs a b (origin c.mesh (2 * (h / 2)))
        (origin c.mesh (rev (2 * (h / 2)))) here
        (joins_edge c.mesh (constraints c.undirected) (h / 2) there)),
    (λ joined. found (mark_joins marks constraints marked c.mesh c.undirected a b joined)),
  )
    where
      here : IsSamePair a b (origin c.mesh (2 * (h / 2))) (origin c.mesh (rev (2 * (h / 2))))
      here = (half_ends c.mesh h a b a b starts ends).1 (inl (refl, refl))

      found : JoinsByMark marks constraints marked c.mesh c.undirected a b
          → Contains (constraints c.undirected) (h / 2)
      found j = subst (λ (k : ℕ). Contains (constraints c.undirected) k)
          (one_edge at c kept (h / 2) j.edge (half_in h within)
          (slice_get_within c.undirected j.edge j.is.value j.is.has)
          (same_as_third a b (origin c.mesh (2 * j.edge)) (origin c.mesh (rev (2 * j.edge)))
          (origin c.mesh (2 * (h / 2))) (origin c.mesh (rev (2 * (h / 2)))) j.ends here))
          (is_constraint_edge marks constraints marked c.undirected j.edge j.is.value
          j.is.has j.is.mark)

  -- what tells whether it is a constraint tells that
  pub edge_tells : {a b h : ℕ} {r : Bool}
      → (h < length c.directed) × (origin c.mesh h ≡ a) × (origin c.mesh (rev h) ≡ b)
      → IsTrue r ↔ Contains (constraints c.undirected) (h / 2) → IsTrue r ↔ Joins pairs a b
  edge_tells {a = a} {b = b} {h = h} edge told =
      let is = edge_joins a b h (subst (λ (n : ℕ). h < n) kept.fits.directed_fit edge.0) edge.1
      edge.2 in
      ((λ yes. is.0 (told.0 yes)), (λ joined. told.1 (is.1 joined)))

  -- where no edge goes from a to b, no constraint joins these
  pub no_edge_joins : (a b : ℕ) → ((h : ℕ) → h < length c.mesh.half_edges → origin c.mesh h ≡ a →
      origin c.mesh (rev h) ≢ b) → ¬ Joins pairs a b
  no_edge_joins a b none joined =
      go (mark_joins marks constraints marked c.mesh c.undirected a b joined)
    where
      at_ends : (k : ℕ) → 2 * k < length c.mesh.half_edges →
          IsSamePair a b (origin c.mesh (2 * k)) (origin c.mesh (rev (2 * k))) → ⊥
      at_ends k within (inl s) = none (2 * k) within (sym s.0) (sym s.1)
      at_ends k within (inr s) =
          none (rev (2 * k)) (rev_within (2 * k) (length c.mesh.half_edges) kept.valid.sound.even
          within) (sym s.0) (ap (origin c.mesh) (rev-rev (2 * k)) ∙ sym s.1)

      go : JoinsByMark marks constraints marked c.mesh c.undirected a b → ⊥
      go j = at_ends j.edge (double at c kept j.edge
          (slice_get_within c.undirected j.edge j.is.value j.is.has)) j.ends

  pub none_tells : {a b : ℕ} → ((h : ℕ) → h < length c.directed → origin c.mesh h ≡ a
      → origin c.mesh (rev h) ≢ b) → IsTrue false ↔ Joins pairs a b
  none_tells {a = a} {b = b} none = (
    (λ yes. absurd (both_ways false yes refl)),
    (λ joined. absurd (no_edge_joins a b (λ h within. none h
        (subst (λ (n : ℕ). h < n) (sym kept.fits.directed_fit) within)) joined)),
  )
