-- The room for a vertex, and the two sides of an edge.
-- Lemmas: positive, room_inside, vertex_of_face, vertex_of_edge, twin_within, within_twin,
-- bare_if_past, twin_splits.
use Rattle.std.proofs.Common.{◌≡◌, ◌+◌, ◌*◌, ◌<◌, ◌≤◌, [], ◌∙◌}
use Rattle.std.proofs.Common.{ℕ, length, map, ap, sym, subst, inl, inr, arith}
use Rattle.std.proofs.lemmas.List.{length-map}
use Rattle.plane.specs.{HasFace, IsPast, IsTiling, place, Point, whole, WithinSegment}
use Rattle.half_edge_links.specs.{face, HasRoomFor, IsHalfSplittable, origin, rev, triangle_at}
use Rattle.half_edge_links.specs.{triangles}
use Rattle.half_edge_links.proofs.{rev-rev, rev_within}
use Rattle.plane_theorems.specs.{alone, IsMesh}
use Rattle.plane_theorems.proofs.{by_signs, point_at, Tiling.Places.none_beyond, turned_within}
use Rattle.half_edge_dcel.specs.{Contents, HasRoom, IsMeshWithData}
use Rattle.delaunay_legalization.specs.{corners_of, drawn, faces_of, IsMeshEdge, IsTriangulated}
use Rattle.delaunay_legalization.specs.{IsWithinEdge, outer_of, state_of}
use Rattle.delaunay_legalization.proofs.{laid_out_tiles, mesh_edge}
use Rattle.delaunay_vertices.proofs.Growing.{edges_and_faces, sides_at_most}

-- a number that is not 0 is positive
pub positive : (n : ℕ) → ¬ (n ≡ 0) → 0 < n
positive n h = omega (arith, h)

module _ {V D U F : Type 0} (at : V → Point) (c : Contents V D U F)
    (kept : IsTriangulated at (state_of c)) where
  -- ---- room for what a vertex brings, of the room that is reserved for it
  module _ (room : HasRoomFor c.room (length c.vertices + 1) (3 * (length c.vertices + 1))
      (2 * (length c.vertices + 1))) where
    -- with a vertex there already, there is room for one more, with three edges and two faces
    pub room_inside : 0 < length c.vertices → HasRoom c 1 3 2
    room_inside some =
        let v = room.vertices_fit in
        let e = room.edges_fit in
        let f = room.faces_fit in
        let whole : IsMeshWithData c = record { valid = kept.valid; fits = kept.fits } in
        let counts = edges_and_faces at c whole kept.shape some in
        let sides = sides_at_most c whole in
        record {
          vertices_fit = omega (arith, v);
          edges_fit = omega (arith, e, counts, sides);
          faces_fit = omega (arith, f, counts, sides);
        }

  -- with an inner face there is a vertex
  pub vertex_of_face : (f : ℕ) → 0 < f → f ≤ length c.faces → 0 < length c.vertices
  vertex_of_face f some within = let few = kept.few_faces in omega (arith, some, within, few)

  -- with an edge there is a vertex
  pub vertex_of_edge : (e : ℕ) → e < length c.directed → 0 < length c.vertices
  vertex_of_edge e within = let d = kept.fits.directed_fit in let u = kept.fits.undirected_fit in
      let few = kept.few_edges in omega (arith, within, d, u, few)

  -- ---- the two sides of an edge
  -- the twin of an edge is one of the edges
  pub twin_within : (e : ℕ) → e < length c.directed → rev e < length c.directed
  twin_within e within =
      let d = kept.fits.directed_fit in
      let h : e < length c.mesh.half_edges = omega (arith, within, d) in
      let r = rev_within e (length c.mesh.half_edges) kept.valid.sound.even h in
      omega (arith, r, d)

  -- what is strictly within an edge is so within its twin
  pub within_twin : (p : Point) (e : ℕ) → IsWithinEdge (map at c.vertices) c.mesh p e →
      IsWithinEdge (map at c.vertices) c.mesh p (rev e)
  within_twin p e w = subst (λ k. WithinSegment (place (map at c.vertices) (origin c.mesh (rev e)))
      (place (map at c.vertices) (origin c.mesh k)) (whole p)) (sym (rev-rev e))
      (turned_within (place (map at c.vertices) (origin c.mesh e))
      (place (map at c.vertices) (origin c.mesh (rev e)))
      (whole p) w)

  -- where the mesh lists no face, there is no inner one
  no_listed_face : faces_of c.mesh ≡ [] → length c.faces ≡ 0
  no_listed_face none = kept.fits.faces_fit
      ∙ sym (length-map c.mesh.face_edges (triangle_at c.mesh))
      ∙ sym (length-map (triangles c.mesh) corners_of) ∙ ap length none

  -- past an end of a line there is none
  pub bare_if_past : (p : Point) (e : ℕ) → e < length c.directed
      → IsPast (alone (map at c.vertices)) (origin c.mesh e) (whole p) → length c.faces ≡ 0
  bare_if_past p e within past = go kept.shape
    where
      go : IsMesh (map at c.vertices) (faces_of c.mesh) (outer_of c.mesh) → length c.faces ≡ 0
      go (inl l) = absurd (none_beyond (length (map at c.vertices)) (point_at (map at c.vertices))
          (faces_of c.mesh) (outer_of c.mesh)
          (by_signs (map at c.vertices) (faces_of c.mesh) (outer_of c.mesh) l) (whole p)
          (origin c.mesh e) (mesh_edge at (state_of c) kept e within).source past)
      go (inr l) = no_listed_face l.0

  -- where there are faces, an edge has one on its left or on its right
  inner_twin : (e : ℕ) → e < length c.directed → ¬ (length c.faces ≡ 0) → face c.mesh e ≡ 0 →
      0 < face c.mesh (rev e)
  inner_twin e within some outer = positive (face c.mesh (rev e))
      (λ twin_outer. go twin_outer
      (laid_out_tiles (map at c.vertices) c.mesh kept.valid kept.shape))
    where
      own : IsMeshEdge (map at c.vertices) c.mesh e
      own = mesh_edge at (state_of c) kept e within

      twin : IsMeshEdge (map at c.vertices) c.mesh (rev e)
      twin = mesh_edge at (state_of c) kept (rev e) (twin_within e within)

      go : face c.mesh (rev e) ≡ 0 → IsTiling (drawn (map at c.vertices) c.mesh) → ⊥
      go twin_outer (inr l) = some (no_listed_face l.no_face)
      go twin_outer (inl t) =
          elim ((t.sides (origin c.mesh e) (origin c.mesh (rev e))).0 own.joined) [
            | inl h ↦ own.bare outer h
            | inr h ↦ twin.bare twin_outer
                (subst (λ k. HasFace (drawn (map at c.vertices) c.mesh) (origin c.mesh (rev e))
                (origin c.mesh k)) (sym (rev-rev e)) h)
          ]

  -- so the twin of an outer edge may be split with its face
  pub twin_splits : (e : ℕ) → e < length c.directed → ¬ (length c.faces ≡ 0) → face c.mesh e ≡ 0 →
      IsHalfSplittable c.mesh (rev e)
  twin_splits e within some outer = record {
    within = rw (← kept.fits.directed_fit) (twin_within e within);
    inner = inner_twin e within some outer;
    outer = rw (rev-rev e) outer;
  }
