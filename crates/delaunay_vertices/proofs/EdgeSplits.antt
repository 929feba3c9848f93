-- An edge of a mesh that is split at a new vertex, and the mark that its second half may get.
-- Lemmas: inner_split, hull_split, line_split, second_there, second_late, had_mark, had_none,
-- written_mesh, written_gains.
use Rattle.std.proofs.Common.{◌≡◌, ◌≢◌, ◌↔◌, ◌+◌, ◌*◌, ◌/◌, ◌<◌, ◌≤◌, [], ◌∷◌}
use Rattle.std.proofs.Common.{ℕ, suc, Bool, true, false, List, length, map}
use Rattle.std.proofs.Common.{refl, sym, ap, ◌∙◌, subst, Some, inl, inr, arith}
use Rattle.std.specs.Prelude.{Contains, IsTrue, slice_get}
use Rattle.std.proofs.lemmas.List.{length-set}
use Rattle.std.proofs.lemmas.Option.{slice_get_within}
use Rattle.half_edge_links.specs.{along, Ends, ends, next, origin, rev}
use Rattle.half_edge_links.proofs.{length-ends_twice, rev-rev}
use Rattle.half_edge_dcel.specs.{AddsEdges, Contents, Edge, edges, edges_of, FitsMesh}
use Rattle.half_edge_dcel.specs.{IsMeshWithData, joins, SplitsEdge, with_ends}
use Rattle.delaunay_legalization.specs.{HasEdgeData, IsTriangulated, marked_edges, not_both}
use Rattle.{delaunay_legalization.specs.state_of, plane.specs.IsSamePair, plane.specs.Point}
use Rattle.delaunay_legalization.proofs.{fixed_edge_is, halved, slice_get-set_other}
use Rattle.delaunay_legalization.proofs.Constraints.{is_constraint_edge}
use Rattle.delaunay_vertices.specs.{GainsVertex, GrowsAround, SplitsAt}
use Rattle.delaunay_vertices.proofs.EdgeLists.{along_ends, splits_at, splits_in_place}
use Rattle.delaunay_vertices.proofs.MarkedEdges.{own_edge, own_ends}

length-edges_of : {U : Type 0} (es : List Ends) (us : List U) → length es ≡ length us →
    length (edges_of es us) ≡ length us
length-edges_of [] [] e = refl
length-edges_of [] (u ∷ us) e = absurd (omega (arith, e))
length-edges_of (x ∷ es) [] e = absurd (omega (arith, e))
length-edges_of (x ∷ es) (u ∷ us) e = ap suc (length-edges_of es us (omega (arith, e)))

-- ---- the edge that is split
module _ {V D U F : Type 0} (old new : Contents V D U F) (w : IsMeshWithData old) (P : U → Type 0)
    (e v : ℕ) (within : e < length old.directed) where
  length-edges : length (edges old) ≡ length old.undirected
  length-edges = length-edges_of (ends old.mesh) old.undirected
      (let f = w.fits.undirected_fit in let n = length-ends_twice old.mesh w.valid.sound in
      omega (arith, f, n))

  twice : length old.directed ≡ 2 * length old.undirected
  twice = let d = w.fits.directed_fit in let u = w.fits.undirected_fit in omega (arith, d, u)

  has_ends : (x : Edge U) → slice_get (edges old) (e / 2) ≡ Some x →
      IsSamePair x.source x.target (origin old.mesh e) (origin old.mesh (rev e))
  has_ends x h = elim (halved e) [
    | inl q ↦ inl
        (sym o.1.0 ∙ ap (origin old.mesh) q, sym o.1.1 ∙ ap (λ (y : ℕ). origin old.mesh (rev y)) q)
    | inr q ↦ inr (
      sym o.1.0 ∙ ap (origin old.mesh) q,
      sym o.1.1 ∙ ap (λ (y : ℕ). origin old.mesh (rev y)) q
          ∙ ap (origin old.mesh) (rev-rev e),
    )
  ]
    where
      o : (slice_get old.undirected (e / 2) ≡ Some x.value)
          × ((origin old.mesh (2 * (e / 2)) ≡ x.source)
          × (origin old.mesh (rev (2 * (e / 2))) ≡ x.target))
      o = own_ends old w (e / 2) x h

  at_second : (n second : ℕ) → n ≡ second → SplitsAt P (edges old) (edges new) (e / 2) v n →
      SplitsAt P (edges old) (edges new) (e / 2) v second
  at_second n second is s = subst (λ (k : ℕ). SplitsAt P (edges old) (edges new) (e / 2) v k) is s

  -- one between two inner faces
  pub inner_split : {second : ℕ} {turned : Ends} {others : List Ends}
      → second ≡ (length old.directed + 3) / 2 → SplitsEdge P (edges old) (edges new) (e / 2) turned
      (joins (origin old.mesh e) v) (joins (origin old.mesh (next old.mesh e)) v ∷ others)
      → SplitsAt P (edges old) (edges new) (e / 2) v second
  inner_split {second} {turned} {others} is s =
      at_second (length (edges old) + 1) second (omega (arith, is, twice, length-edges))
      (splits_at P (edges old) (edges new) (e / 2) v (origin old.mesh e)
      (origin old.mesh (rev e)) has_ends turned
      (joins (origin old.mesh e) v) (joins (origin old.mesh (next old.mesh e)) v) others s
      (inl (refl, refl))
      (inl (starts, refl)))
    where
      starts : origin old.mesh (next old.mesh e) ≡ origin old.mesh (rev e)
      starts =
          (w.valid.sound.edges e (let f = w.fits.directed_fit in omega (arith, within, f))).starts

  -- one of the hull
  pub hull_split : {second : ℕ} {turned : Ends} {others : List Ends}
      → second ≡ (length old.directed + 2) / 2 → SplitsEdge P (edges old) (edges new) (e / 2) turned
      (joins (origin old.mesh e) v) (joins v (origin old.mesh (rev e)) ∷ others)
      → SplitsAt P (edges old) (edges new) (e / 2) v second
  hull_split {second} {turned} {others} is s =
      at_second (length (edges old) + 1) second (omega (arith, is, twice, length-edges))
      (splits_at P (edges old) (edges new) (e / 2) v (origin old.mesh e)
      (origin old.mesh (rev e)) has_ends turned
      (joins (origin old.mesh e) v) (joins v (origin old.mesh (rev e))) others s (inl (refl, refl))
      (inr (refl, refl)))

  -- one of a line
  pub line_split : {second : ℕ} → second ≡ (length old.directed + 1) / 2 →
      AddsEdges P (with_ends (edges old) (e / 2) (along e (origin old.mesh e) v)) (edges new)
      (joins (origin old.mesh (rev e)) v ∷ []) → SplitsAt P (edges old) (edges new) (e / 2) v second
  line_split {second} is a =
      let here = own_edge old w (e / 2) (omega (arith, within, twice)) in
      at_second (length (edges old)) second (omega (arith, is, twice, length-edges))
      (splits_in_place P (edges old) (edges new) (e / 2) v (origin old.mesh e)
      (origin old.mesh (rev e)) has_ends
      (along e (origin old.mesh e) v) (joins (origin old.mesh (rev e)) v) a here.0 here.1
      (along_ends e (origin old.mesh e) v) (inl (refl, refl)))

-- the second half is an edge that was not there
module _ {V D U F : Type 0} (old mid : Contents V D U F) (w : IsMeshWithData old)
    (now : IsMeshWithData mid) {P : U → Type 0} {k v second : ℕ}
    (s : SplitsAt P (edges old) (edges mid) k v second) where
  -- the second half is one of the undirected edges afterwards
  pub second_there : second < length mid.undirected
  second_there =
      slice_get_within mid.undirected second s.second_half.value
      (own_ends mid now second s.second_half s.second_is).0

  -- and comes after those that were there
  pub second_late : length old.undirected ≤ second
  second_late =
      let l = s.late in
      let n = length-edges_of (ends old.mesh) old.undirected
      (let f = w.fits.undirected_fit in let n = length-ends_twice old.mesh w.valid.sound in
      omega (arith, f, n)) in
      omega (arith, l, n)

-- ---- whether it had the mark
module _ {U : Type 0} (marks : U → Bool) (constraints : List U → List ℕ) (marked : (ds : List U)
    → constraints ds ≡ marked_edges marks ds) (b : Bool) (ds : List U) (k : ℕ) (d : U)
    (here : slice_get ds k ≡ Some d) (is : IsTrue b ↔ Contains (constraints ds) k) where
  -- where b is true, the data of the edge have the mark
  pub had_mark : IsTrue b → marks d ≡ true
  had_mark t = fixed_edge_is marks constraints marked ds k d here (is.0 t)

  -- where b is false, they do not have it
  pub had_none : b ≡ false → marks d ≡ false
  had_none f = go (marks d) refl
    where
      go : (c : Bool) → marks d ≡ c → marks d ≡ false
      go true e =
          not_both (sym f ∙ is.1 (is_constraint_edge marks constraints marked ds k d here e))
      go false e = e

-- ---- other data of an edge that was not there
module _ {V D U F : Type 0} {mid new : Contents V D U F} {change : U → U} {k : ℕ}
    (written : HasEdgeData change mid new k) where
  -- the vertices stay
  written_vertices : new.vertices ≡ mid.vertices
  written_vertices = ap (λ (c : Contents V D U F). c.vertices) written.whole

  -- the mesh stays
  pub written_mesh : new.mesh ≡ mid.mesh
  written_mesh = ap (λ (c : Contents V D U F). c.mesh) written.whole

  -- a triangulation stays one
  written_kept : {at : V → Point} → IsTriangulated at (state_of mid)
      → IsTriangulated at (state_of new)
  written_kept {at} kept =
      subst (λ (c : Contents V D U F). IsTriangulated at (state_of c)) (sym written.whole) (record {
        in_range = kept.in_range;
        few_edges = rw (length-set mid.undirected k (change written.value)) kept.few_edges;
        few_faces = kept.few_faces;
        valid = kept.valid;
        fits = rw (length-set mid.undirected k (change written.value)) kept.fits;
        shape = kept.shape;
      })

  -- what stayed while the triangulation grew round p stays, where the edge was not there before
  written_grows : (old : Contents V D U F) → FitsMesh old.mesh (length old.vertices)
      (length old.directed) (length old.undirected) (length old.faces) → length old.undirected ≤ k
      → (points : List Point) (p : Point) → GrowsAround points p (state_of old) (state_of mid)
      → GrowsAround points p (state_of old) (state_of new)
  written_grows old fits late points p grows =
      subst (λ (c : Contents V D U F). GrowsAround points p (state_of old) (state_of c))
      (sym written.whole) (record {
        edges = λ h w. elim (grows.edges h w) [
          | inl x ↦ inl (record {
            ends = x.ends;
            directed = x.directed;
            undirected = slice_get-set_other mid.undirected k (h / 2) (change written.value)
                (λ e. below h w e)
                ∙ x.undirected;
          })
          | inr x ↦ inr x
        ];
        faces = λ f t q. elim (grows.faces f t q) [
          | inl x ↦ inl (record { corners = x.corners; value = x.value })
          | inr x ↦ inr x
        ];
        outer = grows.outer;
      })
    where
      below : (h : ℕ) → h < length old.directed → h / 2 ≢ k
      below h w e = let d = fits.directed_fit in let u = fits.undirected_fit in
          omega (arith, d, u, w, e, late)

  -- so what gained a vertex has still gained it
  pub written_gains : {at : V → Point} {v : V} {n : ℕ} (old : Contents V D U F)
      → FitsMesh old.mesh (length old.vertices) (length old.directed) (length old.undirected)
      (length old.faces) → length old.undirected ≤ k
      → GainsVertex at v (state_of old) (state_of mid) n
      → GainsVertex at v (state_of old) (state_of new) n
  written_gains {at} {v} old fits late takes = record {
    is = takes.is;
    vertices = written_vertices ∙ takes.vertices;
    kept = written_kept takes.kept;
    grows = written_grows old fits late (map at old.vertices) (at v) takes.grows;
    made = rw written_mesh takes.made;
  }
