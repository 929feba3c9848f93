-- Where a vertex was put in, only the edges of the faces at it are left to test.
-- Lemmas: passes_beside.
use Rattle.std.proofs.Common.{◌≡◌, ◌⊎◌, ◌*◌, ◌<◌, [], ◌∷◌, ◌++◌, ◌∙◌}
use Rattle.std.proofs.Common.{ℕ, Bool, List, length, map, sym, ap, subst, inl}
use Rattle.std.proofs.Common.{inr, arith}
use Rattle.std.specs.Prelude.{slice_get, Some}
use Rattle.std.proofs.lemmas.List.{map-append}
use Rattle.std.proofs.lemmas.Option.{slice_get_within}
use Rattle.plane.specs.{IsEdge, IsSamePair, Joins, Point}
use Rattle.{half_edge_links.specs.origin, half_edge_links.specs.rev, plane_theorems.specs.IsFaceOf}
use Rattle.plane_theorems.proofs.{joins_or_not}
use Rattle.half_edge_dcel.specs.{Contents, edges}
use Rattle.delaunay_legalization.specs.{constraints_by, drawn, edges_of, faces_of}
use Rattle.delaunay_legalization.specs.{IsDelaunayTriangulation, IsTriangulated, MakesFacesAt}
use Rattle.delaunay_legalization.specs.{marked_edges, outer_of, Star.AllPassBeside, state_of}
use Rattle.delaunay_legalization.proofs.{edge_joins, edge_of_face, Stars.made_at_leaves}
use Rattle.delaunay_vertices.specs.{GainsVertex, SplitsConstraints}
use Rattle.delaunay_vertices.proofs.MarkedEdges.{joins_with_mark, JoinsWithMark, own_ends}
use Rattle.delaunay_vertices.proofs.NewVertex.{not_within, source_in, target_in}
use Rattle.delaunay_vertices.proofs.SplitConstraints.{whole_mesh}

module _ {V D U F : Type 0} (at : V → Point) (marks : U → Bool) (constraints : List U → List ℕ)
    (marked : (ds : List U) → constraints ds ≡ marked_edges marks ds) where
  module _ (v : V) (old new : Contents V D U F) (was : IsTriangulated at (state_of old)) (now :
      IsTriangulated at (state_of new)) (vertices : new.vertices ≡ old.vertices ++ v ∷ []) where
    -- the ends of a constraint are vertices
    ends_in : (i j : ℕ) → Joins (constraints_by constraints (state_of old)) i j
        → (i < length old.vertices) × (j < length old.vertices)
    ends_in i j h = go m.1.ends
      where
        m : (k : ℕ) × JoinsWithMark marks (edges old) k i j
        m = joins_with_mark marks constraints marked old (whole_mesh old was) i j h

        o : (slice_get old.undirected m.0 ≡ Some m.1.edge.value)
            × ((origin old.mesh (2 * m.0) ≡ m.1.edge.source)
            × (origin old.mesh (rev (2 * m.0)) ≡ m.1.edge.target))
        o = own_ends old (whole_mesh old was) m.0 m.1.edge m.1.there

        inside : 2 * m.0 < length old.directed
        inside = let b = slice_get_within old.undirected m.0 m.1.edge.value o.0 in
            let d = was.fits.directed_fit in
            let u = was.fits.undirected_fit in omega (arith, b, d, u)

        source : m.1.edge.source < length old.vertices
        source = subst (λ (x : ℕ). x < length old.vertices) o.1.0
            (source_in at v (state_of old) (state_of new) was now vertices (2 * m.0) inside)

        target : m.1.edge.target < length old.vertices
        target = subst (λ (x : ℕ). x < length old.vertices) o.1.1
            (target_in at v (state_of old) (state_of new) was now vertices (2 * m.0) inside)

        below : (a b : ℕ) → a ≡ b → b < length old.vertices → a < length old.vertices
        below a b e l = subst (λ (x : ℕ). x < length old.vertices) (sym e) l

        go : IsSamePair i j m.1.edge.source m.1.edge.target
            → (i < length old.vertices) × (j < length old.vertices)
        go (inl s) = (below i m.1.edge.source s.0 source, below j m.1.edge.target s.1 target)
        go (inr s) = (below i m.1.edge.target s.0 target, below j m.1.edge.source s.1 source)

    side_is_edge : (i j k : ℕ) → IsFaceOf (faces_of new.mesh) i j k
        → IsEdge (drawn (map at new.vertices) new.mesh) i j
    side_is_edge i j k f =
        let e = edge_of_face new.mesh now.valid.sound i j k f in
        subst (λ (x : ℕ × ℕ). Joins (edges_of new.mesh) x.0 x.1)
        (λ o. (e.1.first o, (sym (now.valid.sound.edges e.0 e.1.inner.0).starts ∙ e.1.second) o))
        (edge_joins new.mesh now.valid.sound e.0 e.1.inner.0)

    -- a constraint that is none any more is no side of a face
    marks_leave : SplitsConstraints at constraints (state_of old) (state_of new) v → (i j : ℕ)
        → Joins (constraints_by constraints (state_of old)) i j
        → Joins (constraints_by constraints (state_of new)) i j
        ⊎ ((k : ℕ) → ¬ IsFaceOf (faces_of new.mesh) i j k)
    marks_leave splits i j h = elim (joins_or_not (constraints_by constraints (state_of new)) i j) [
      | inl x ↦ inl x
      | inr n ↦ inr (λ k f. let b = ends_in i j h in
          n ((splits i j).1 (inl (
            h,
            not_within at v (state_of old) (state_of new) was now vertices i j b.0 b.1
                (side_is_edge i j k f),
          ))))
    ]

  -- where each edge but constraints passed before
  pub passes_beside : (old new : Contents V D U F) {v : V} {k : ℕ}
      → IsDelaunayTriangulation at constraints (state_of old)
      → GainsVertex at v (state_of old) (state_of new) k
      → SplitsConstraints at constraints (state_of old) (state_of new) v → AllPassBeside
      (map at new.vertices) (faces_of new.mesh) (constraints_by constraints (state_of new)) k
  passes_beside old new {v = v} {k = k} legal takes splits =
      subst (λ (ps : List Point). AllPassBeside ps (faces_of new.mesh)
      (constraints_by constraints (state_of new)) k)
      (sym (ap (map at) takes.vertices ∙ map-append at old.vertices (v ∷ [])))
      (made_at_leaves (map at old.vertices) (at v) (faces_of old.mesh) (faces_of new.mesh)
      (outer_of old.mesh)
      (constraints_by constraints (state_of old))
      (constraints_by constraints (state_of new)) k legal.kept.shape
      (λ a b c d f g free _. legal.passing a b c d f g free)
      (subst (λ (x : ℕ). MakesFacesAt x (faces_of old.mesh) (outer_of old.mesh)
      (faces_of new.mesh)) (sym takes.is) takes.made)
      (marks_leave v old new legal.kept takes.kept takes.vertices splits))
