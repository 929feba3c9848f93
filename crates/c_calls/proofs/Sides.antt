-- The sides of the faces of a triangulation, and the faces by index.
-- Lemmas: face_read, face_at.
use Rattle.std.proofs.Common.{◌≡◌, ◌∙◌, ◌<◌, ◌≤◌, ◌+◌, ◌-◌, ℕ, Bool, List, length, map}
use Rattle.std.proofs.Common.{option_map, refl, sym, ap, subst, inl, inr, arith}
use Rattle.std.specs.Prelude.{Option, Some, slice_get, IsSomeAnd}
use Rattle.std.proofs.lemmas.Bool.{cases_eq}
use Rattle.std.proofs.lemmas.Bool.Decides.{nat_tests}
use Rattle.std.proofs.lemmas.Option.{slice_get-map, slice_get-get_or}
use Rattle.plane.specs.{Face, face as corners, Point}
use Rattle.half_edge_links.specs.{face, face_edge, next, origin, prev, rev, triangle_at, triangles}
use Rattle.half_edge_links.proofs.{rev-rev, rev_within}
use Rattle.delaunay_legalization.specs.{constraints_by, corners_of, faces_of, IsTriangulated}
use Rattle.delaunay_legalization.specs.{marked_edges, State.State, triangulation_of}
use Rattle.delaunay_legalization.proofs.{listed, outer_bare}
use Rattle.c_calls.specs.{declared.statuses.TheConstants.NONE, Links.IsRawFace, Links.IsRawSide}
use Rattle.c_calls.specs.Queries.{face_number, HasWayRound, IsBeyond, SideEntry}
use Rattle.{c_calls.proofs.Marks.mark_joins, c_calls.specs.IsFaceEntry, c_calls.specs.RawFace}

-- ---- the numbers of faces
outer_number : (f : ℕ) → f ≡ 0 → face_number f ≡ NONE
outer_number f e = ap face_number e

inner_number : (f : ℕ) → ¬ (f ≡ 0) → face_number f ≡ f - 1
inner_number f h = grind (arith, nat_tests)

module _ {V D U F : Type 0} (place : V → Point) (s : State V D U F)
    (kept : IsTriangulated place s) where
  -- an inner face by its index
  pub face_read : (f : ℕ) → 0 < f → f ≤ length s.faces
      → slice_get (faces_of s.mesh) (f - 1) ≡ Some (corners_of (triangle_at s.mesh
      (face_edge s.mesh f)))
  face_read f positive w =
      let fit = kept.fits.faces_fit in
      let below : f - 1 < length s.mesh.face_edges = omega (arith, fit, w, positive) in
      slice_get-map corners_of (triangles s.mesh) (f - 1)
      ∙ ap (option_map corners_of) (slice_get-map (triangle_at s.mesh) s.mesh.face_edges (f - 1)
      ∙ ap (option_map (triangle_at s.mesh))
      (slice_get-get_or s.mesh.face_edges (f - 1) 0 below))

  -- a directed edge with an inner face on its left is one of its sides
  module _ (h : ℕ) (w : h < length s.mesh.half_edges) (inner : 0 < face s.mesh h) where
    is_side : HasWayRound (corners_of (triangle_at s.mesh (face_edge s.mesh (face s.mesh h))))
        (origin s.mesh h) (origin s.mesh (rev h))
    is_side =
        let m = s.mesh in
        let sound = kept.valid.sound.edges h w in
        let starts : origin m (next m h) ≡ origin m (rev h) = sound.starts in
        let at_prev = kept.valid.sound.edges (prev m h) sound.prev_in in
        let same : face m h ≡ face m (prev m h) =
        ap (face m) (sym sound.next_prev) ∙ at_prev.same_face in
        let before : prev m (prev m h) ≡ next m h =
        sym (at_prev.three (subst (λ (f : ℕ). 0 < f) same inner))
        ∙ ap (next m) sound.next_prev in
        elim (sound.owned inner) [
          | inl e ↦ inl (ap (origin m) e, ap (λ (g : ℕ). origin m (next m g)) e ∙ starts)
          | inr r ↦ elim r [
            | inl e ↦ inr (inr (
              ap (λ (g : ℕ). origin m (prev m g)) e ∙ ap (origin m) sound.prev_next,
              ap (origin m) e ∙ starts,
            ))
            | inr e ↦ inr (inl (
              ap (λ (g : ℕ). origin m (next m g)) e ∙ ap (origin m) sound.next_prev,
              ap (λ (g : ℕ). origin m (prev m g)) e ∙ ap (origin m) before ∙ starts,
            ))
          ]
        ]

  -- the face on the right of a directed edge
  is_beyond : (h : ℕ) → h < length s.mesh.half_edges → IsBeyond (triangulation_of place s)
      (origin s.mesh h) (origin s.mesh (rev h)) (face_number (face s.mesh (rev h)))
  is_beyond h w =
      let m = s.mesh in
      let r : ℕ = rev h in
      let there : r < length m.half_edges =
      rev_within h (length m.half_edges) kept.valid.sound.even w in
      let back : origin m (rev r) ≡ origin m h = ap (origin m) (rev-rev h) in
      let fit = kept.fits.faces_fit in
      let within : face m r ≤ length m.face_edges = (kept.valid.sound.edges r there).face_in in
      elim (cases_eq (face m r) 0) [
        | inl out ↦ inl (
          outer_number (face m r) out,
          outer_bare (map place s.vertices) m (origin m r) (origin m h) kept.shape
              (listed m r (origin m r) (origin m h)
              (record { within = there; outer = out; source = refl; target = back })),
        )
        | inr inner ↦
            let positive : 0 < face m r = omega (arith, inner) in
            inr (subst (λ (o : Option Face).
            IsSomeAnd o (λ f. HasWayRound f (origin m r) (origin m h)))
            (sym (ap (slice_get (faces_of m)) (inner_number (face m r) inner)
            ∙ face_read (face m r) positive (omega (arith, fit, within))))
            (subst (λ (j : ℕ). HasWayRound (corners_of (triangle_at m (face_edge m (face m r))))
            (origin m r) j) back (is_side r there positive)))
      ]

module _ {V D U F : Type 0} (place : V → Point) (marks : U → Bool) (constraints : List U → List ℕ)
    (marked : (ds : List U) → constraints ds ≡ marked_edges marks ds) (s : State V D U F)
    (kept : IsTriangulated place s) where
  -- a side by the directed edge along it
  side_read : (h from beyond mark i j : ℕ) → h < length s.mesh.half_edges
      → IsRawSide constraints s h from beyond mark → i ≡ origin s.mesh h
      → j ≡ origin s.mesh (rev h)
      → SideEntry (triangulation_of place s) (constraints_by constraints s) i j beyond mark
  side_read h from beyond mark i j w raw starts ends =
      subst (λ (a : ℕ). SideEntry (triangulation_of place s) (constraints_by constraints s) a j
      beyond mark) (sym starts)
      (subst (λ (b : ℕ). SideEntry (triangulation_of place s) (constraints_by constraints s)
      (origin s.mesh h) b beyond mark) (sym ends) (record {
        neighbor = subst (λ (n : ℕ). IsBeyond (triangulation_of place s) (origin s.mesh h)
            (origin s.mesh (rev h)) n) (sym raw.right) (is_beyond place s kept h w);
        marked = mark_joins place marks constraints marked s kept h mark w raw.marked;
      }))

  -- a face by its index, as C is told of it
  face_told : (k : ℕ) (f : RawFace) → k < length s.faces
      → IsRawFace constraints s (face_edge s.mesh (k + 1)) f
      → IsFaceEntry (triangulation_of place s) (constraints_by constraints s) k f
  face_told k f w raw =
      let m = s.mesh in
      let e : ℕ = face_edge m (k + 1) in
      let fit = kept.fits.faces_fit in
      let named = kept.valid.sound.faces (k + 1) (omega arith) (omega (arith, fit, w)) in
      let at = kept.valid.sound.edges e named.0 in
      let at_next = kept.valid.sound.edges (next m e) at.next_in in
      let at_prev = kept.valid.sound.edges (prev m e) at.prev_in in
      let left : face m e ≡ k + 1 = named.1 in
      let three : next m (next m e) ≡ prev m e = at.three (omega (arith, left)) in
      let index : (k + 1) - 1 ≡ k = omega arith in
      let told : ◌≡◌ {A = Option Face} (Some (corners_of (triangle_at m e)))
      (Some (corners f.corner_0 f.corner_1 f.corner_2)) =
      λ i. Some (corners (sym raw.first.starts i) (sym raw.second.starts i)
      (sym raw.third.starts i)) in
      record {
        corners = ap (slice_get (faces_of m)) (sym index)
            ∙ face_read place s kept (k + 1) (omega arith) (omega (arith, w)) ∙ told;
        side_0 = side_read (next m e) f.corner_1 f.neighbor_0 f.constrained_0 f.corner_1
            f.corner_2 at.next_in raw.second raw.second.starts
            (raw.third.starts ∙ ap (origin m) (sym three) ∙ at_next.starts);
        side_1 = side_read (prev m e) f.corner_2 f.neighbor_1 f.constrained_1 f.corner_2
            f.corner_0 at.prev_in raw.third raw.third.starts
            (raw.first.starts ∙ ap (origin m) (sym at.next_prev) ∙ at_prev.starts);
        side_2 = side_read e f.corner_0 f.neighbor_2 f.constrained_2 f.corner_0 f.corner_1
            named.0 raw.first raw.first.starts (raw.second.starts ∙ at.starts);
      }

  -- the same, where the face is read from a mesh in this state
  pub face_at : (t : State V D U F) (k index : ℕ) (f : RawFace) → t ≡ s → index ≡ k + 1
      → k < length s.faces → IsRawFace constraints t (face_edge t.mesh index) f
      → IsFaceEntry (triangulation_of place s) (constraints_by constraints s) k f
  face_at t k index f same is w raw = face_told k f w
      (subst (λ (n : ℕ). IsRawFace constraints s (face_edge s.mesh n) f) is
      (subst (λ u. IsRawFace constraints u (face_edge u.mesh index) f) same raw))
