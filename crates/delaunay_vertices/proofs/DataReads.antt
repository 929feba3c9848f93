-- The lists of edges and faces with their data, read by index.
-- Notions: IsEdgeAt, IsFaceAt; edges_long, edge_read, edge_of, face_read, face_of, even_or_odd,
-- half_of_odd, same_edge_data, same_face_data, ends_off.
use Rattle.std.proofs.Common.{◌≡◌, ◌≢◌, ◌⊎◌, ◌+◌, ◌*◌, ◌/◌, ◌%◌, ◌<◌, ◌∙◌}
use Rattle.std.proofs.Common.{ℕ, length, get_or, Some, sym, ap, subst, inl, inr, arith}
use Rattle.std.specs.Prelude.{slice_get, Contains}
use Rattle.std.proofs.lemmas.Bool.{cases_eq}
use Rattle.std.proofs.lemmas.Grind.{common_steps}
use Rattle.std.proofs.lemmas.List.{length-map}
use Rattle.std.proofs.lemmas.Option.{slice_get-get_or, slice_get_within}
use Rattle.half_edge_links.specs.{AreSoundLinks, Ends, ends, moved, origin, rev, Triangle}
use Rattle.half_edge_links.specs.{triangle_at, triangles}
use Rattle.half_edge_links.proofs.{count_ends, ends_at}
use Rattle.half_edge_dcel.specs.{Contents, full_edges, full_faces, FullEdge, FullFace}
use Rattle.half_edge_dcel.specs.{IsMeshWithData, renumbered_edge, renumbered_face}
use Rattle.half_edge_dcel.proofs.{Hubs.count_faces, TwoEdges.item_at}
use Rattle.half_edge_dcel.proofs.TakenOut.{get_or-full_edges, get_or-full_faces, length-full_edges}
use Rattle.delaunay_legalization.specs.{state_of}
use Rattle.delaunay_legalization.proofs.{EdgePairs.rev_of_odd, half_of_even, rev_of_even}
use Rattle.delaunay_vertices.specs.{HasDataOfEdge, HasDataOfFace}

-- undirected edge k, with all its data
pub record IsEdgeAt {V D U F : Type 0} (c : Contents V D U F) (k : ℕ)
    (e : FullEdge D U) : Type 0 where
  pub within : 2 * k + 1 < length c.directed
  pub source : origin c.mesh (2 * k) ≡ e.source
  pub target : origin c.mesh (2 * k + 1) ≡ e.target
  pub value : slice_get c.undirected k ≡ Some e.value
  pub there : slice_get c.directed (2 * k) ≡ Some e.there
  pub back : slice_get c.directed (2 * k + 1) ≡ Some e.back

-- the inner face at index k of the list, with its data
pub record IsFaceAt {V D U F : Type 0} (c : Contents V D U F) (k : ℕ)
    (f : FullFace F) : Type 0 where
  pub corners : slice_get (triangles c.mesh) k ≡ Some f.corners
  pub value : slice_get c.faces k ≡ Some f.value

module _ {V D U F : Type 0} (c : Contents V D U F) (whole : IsMeshWithData c) where
  -- the links fit together
  s : AreSoundLinks c.mesh
  s = whole.valid.sound

  -- there are data for each undirected edge
  us : length c.undirected ≡ length (ends c.mesh)
  us = let n = count_ends c.mesh s in let fit = whole.fits.undirected_fit in omega (arith, n, fit)

  -- and for each of its two directions
  ds : length c.directed ≡ 2 * length (ends c.mesh)
  ds = let n = count_ends c.mesh s in let fit = whole.fits.directed_fit in omega (arith, n, fit)

  -- there is an item for each undirected edge
  pub edges_long : 2 * length (full_edges c) ≡ length c.directed
  edges_long = let long = length-full_edges (ends c.mesh) c.undirected c.directed us ds in
      omega (arith, long, ds)

  -- the item at place k of the list of edges is undirected edge k
  pub edge_read : (k : ℕ) (e : FullEdge D U) → k < length (full_edges c)
      → get_or (full_edges c) k e ≡ e → IsEdgeAt c k e
  edge_read k e within is = record {
    within = inside;
    source = sym (ap (λ (x : Ends). x.source) at) ∙ sym (ap (λ (x : FullEdge D U). x.source) read);
    target = sym (ap (λ (x : Ends). x.target) at) ∙ sym (ap (λ (x : FullEdge D U). x.target) read);
    value = slice_get-get_or c.undirected k e.value (omega (arith, inside, us, ds))
        ∙ ap Some (sym (ap (λ (x : FullEdge D U). x.value) read));
    there = slice_get-get_or c.directed (2 * k) e.there (omega (arith, inside))
        ∙ ap Some (sym (ap (λ (x : FullEdge D U). x.there) read));
    back = slice_get-get_or c.directed (2 * k + 1) e.back inside
        ∙ ap Some (sym (ap (λ (x : FullEdge D U). x.back) read));
  }
    where
      inside : 2 * k + 1 < length c.directed
      inside = omega (arith, within, edges_long)

      p : Ends
      p = record { source = e.source; target = e.target }

      at : get_or (ends c.mesh) k p
          ≡ record { source = origin c.mesh (2 * k); target = origin c.mesh (2 * k + 1) }
      at = ends_at c.mesh k p s (subst (λ (n : ℕ). 2 * k + 1 < n) whole.fits.directed_fit inside)

      read : e ≡ record {
        source = (get_or (ends c.mesh) k p).source;
        target = (get_or (ends c.mesh) k p).target;
        value = get_or c.undirected k e.value;
        there = get_or c.directed (2 * k) e.there;
        back = get_or c.directed (2 * k + 1) e.back;
      }
      read = sym is ∙ get_or-full_edges (ends c.mesh) c.undirected c.directed k p e.value e.there
          e.back us ds (omega (arith, inside, ds)) e

  -- there is one for each directed edge
  pub edge_of : (g : ℕ) → g < length c.directed
      → (e : FullEdge D U) × Contains (full_edges c) e × IsEdgeAt c (g / 2) e
  edge_of g within =
      let long = edges_long in
      let there : g / 2 < length (full_edges c) = omega (arith, within, long) in
      let x = item_at (full_edges c) (g / 2) there in
      (x.0, (g / 2, there, sym x.1), edge_read (g / 2) x.0 there (sym x.1))

  corner_count : length (triangles c.mesh) ≡ length c.mesh.face_edges
  corner_count = length-map c.mesh.face_edges (triangle_at c.mesh)

  face_count : length (full_faces c) ≡ length c.mesh.face_edges
  face_count = count_faces c.mesh c.faces whole.fits.faces_fit

  -- the item at place k of the list of faces is the inner face at index k
  pub face_read : (k : ℕ) (f : FullFace F) → k < length (full_faces c)
      → get_or (full_faces c) k f ≡ f → IsFaceAt c k f
  face_read k f within is = record {
    corners = slice_get-get_or (triangles c.mesh) k f.corners inside
        ∙ ap Some (sym (ap (λ (x : FullFace F). x.corners) read));
    value = slice_get-get_or c.faces k f.value (let fit = whole.fits.faces_fit in
        omega (arith, within, face_count, fit))
        ∙ ap Some (sym (ap (λ (x : FullFace F). x.value) read));
  }
    where
      inside : k < length (triangles c.mesh)
      inside = omega (arith, within, face_count, corner_count)

      read : f ≡ record {
        corners = get_or (triangles c.mesh) k f.corners;
        value = get_or c.faces k f.value;
      }
      read = sym is ∙ get_or-full_faces (triangles c.mesh) c.faces k f.corners f.value
          (whole.fits.faces_fit ∙ sym corner_count) inside f

  -- there is an item for each face
  pub face_of : (k : ℕ) (t : Triangle) → slice_get (triangles c.mesh) k ≡ Some t
      → (f : FullFace F) × Contains (full_faces c) f × IsFaceAt c k f
  face_of k t is =
      let within = slice_get_within (triangles c.mesh) k t is in
      let there : k < length (full_faces c) = omega (arith, within, face_count, corner_count) in
      let x = item_at (full_faces c) k there in
      (x.0, (k, there, sym x.1), face_read k x.0 there (sym x.1))

-- a directed edge is the even one of its undirected edge, or the odd one
pub even_or_odd : (g : ℕ) → ((g ≡ 2 * (g / 2)) × (rev g ≡ 2 * (g / 2) + 1))
    ⊎ ((g ≡ 2 * (g / 2) + 1) × (rev g ≡ 2 * (g / 2)))
even_or_odd g = elim (cases_eq (g % 2) 0) [
  | inl q ↦ inl (omega (arith, q), grind (arith, common_steps))
  | inr q ↦ inr (omega (arith, q), grind (arith, common_steps))
]

-- the edge of a second direction
pub half_of_odd : (j : ℕ) → (2 * j + 1) / 2 ≡ j
half_of_odd j = omega arith

-- ---- an item of one list with an item of the other
module _ {V D U F : Type 0} (old new : Contents V D U F) (last v : ℕ) where
  -- where undirected edge g / 2 stands renumbered, so does directed edge g, with its data
  pub same_edge_data : (g j : ℕ) (e : FullEdge D U) → IsEdgeAt old (g / 2) e
      → IsEdgeAt new j (renumbered_edge last v e)
      → (h : ℕ) × HasDataOfEdge (state_of old) (state_of new) last v g h
  same_edge_data g j e was is = elim (even_or_odd g) [
    | inl q ↦ (
      2 * j,
      record {
        within = let w = is.within in omega (arith, w);
        starts = is.source ∙ ap (moved last v) (sym was.source ∙ ap (origin old.mesh) (sym q.0));
        ends = ap (origin new.mesh) (rev_of_even j) ∙ is.target
            ∙ ap (moved last v) (sym was.target ∙ ap (origin old.mesh) (sym q.1));
        directed = is.there ∙ sym was.there ∙ ap (slice_get old.directed) (sym q.0);
        undirected = ap (slice_get new.undirected) (half_of_even j) ∙ is.value ∙ sym was.value;
      },
    )
    | inr q ↦ (
      2 * j + 1,
      record {
        within = is.within;
        starts = is.target ∙ ap (moved last v) (sym was.target ∙ ap (origin old.mesh) (sym q.0));
        ends = ap (origin new.mesh) (rev_of_odd j) ∙ is.source
            ∙ ap (moved last v) (sym was.source ∙ ap (origin old.mesh) (sym q.1));
        directed = is.back ∙ sym was.back ∙ ap (slice_get old.directed) (sym q.0);
        undirected = ap (slice_get new.undirected) (half_of_odd j) ∙ is.value ∙ sym was.value;
      },
    )
  ]

  -- where a face stands renumbered, it has the corners and the data of the former one
  pub same_face_data : (f g : ℕ) (t : Triangle) (x : FullFace F) → x.corners ≡ t → IsFaceAt old f x
      → IsFaceAt new g (renumbered_face last v x)
      → HasDataOfFace (state_of old) (state_of new) last v f t g
  same_face_data f g t x same was is = record {
    corners = is.corners ∙ ap (λ (y : Triangle). Some (record {
      first = moved last v y.first;
      second = moved last v y.second;
      third = moved last v y.third;
    })) same;
    value = is.value ∙ sym was.value;
  }

-- the ends of an undirected edge that has none of the ends of one of its directed edges
pub ends_off : {V D U F : Type 0} (c : Contents V D U F) (v g : ℕ) (e : FullEdge D U)
    → IsEdgeAt c (g / 2) e → origin c.mesh g ≢ v → origin c.mesh (rev g) ≢ v
    → (e.source ≢ v) × (e.target ≢ v)
ends_off c v g e is here there = elim (even_or_odd g) [
  | inl q ↦ (
    λ r. here (ap (origin c.mesh) q.0 ∙ is.source ∙ r),
    λ r. there (ap (origin c.mesh) q.1 ∙ is.target ∙ r),
  )
  | inr q ↦ (
    λ r. there (ap (origin c.mesh) q.1 ∙ is.source ∙ r),
    λ r. here (ap (origin c.mesh) q.0 ∙ is.target ∙ r),
  )
]
