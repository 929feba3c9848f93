-- The sides of the face on the left of an edge: the edges beyond them, and when a position is
-- inside it.
-- Lemmas: across_edge, next_side, prev_side, located_inside.
use Rattle.std.proofs.Common.{◌≡◌, ◌⊎◌, ℕ, ◌<◌, ◌≤◌, List, length, map}
use Rattle.std.proofs.Common.{sym, ap, ◌∙◌, subst, inl, inr, arith}
use Rattle.std.specs.Prelude.{ℤ}
use Rattle.plane.specs.{place, Point, TurnsLeft, whole}
use Rattle.plane.proofs.Triangles.{inside_is_sides}
use Rattle.half_edge_links.specs.{face, face_edge, Mesh, next, origin, prev, rev}
use Rattle.half_edge_links.proofs.{rev-rev, rev_within}
use Rattle.delaunay_core.specs.{place_of, Point2}
use Rattle.delaunay_legalization.specs.{IsInsideFaceOf, IsTriangulated, point_at, State.State}
use Rattle.{delaunay_legalization.proofs.mesh_face, delaunay_location.proofs.Locating.in_face}
use Rattle.delaunay_location.specs.{declared.steps.Stop.Stop, Locates, OnFace, Stop.IsStop}
use Rattle.half_edge_links.proofs.Sound.Triangles as T

module _ {V D U F : Type 0} {at : V → Point} {s : State V D U F} (kept : IsTriangulated at s) where
  abbrev points : List Point
  points = map at s.vertices

  abbrev m : Mesh
  m = s.mesh

  half_edge_in : (e : ℕ) → e < length s.directed → e < length m.half_edges
  half_edge_in e w = let f = kept.fits.directed_fit in omega (arith, f, w)

  -- the other direction of an edge, with the positions of its ends
  pub across_edge : {S : Type 0} {number : S → ℤ} {IsCovered : Point → Type 0} {stop : Stop S}
      → IsStop number IsCovered points m (length s.directed) stop
      → IsStop number IsCovered points m (length s.directed)
      (record { edge = rev stop.edge; from = stop.to; to = stop.from })
  across_edge {stop = stop} h = record {
    within =
        let f = kept.fits.directed_fit in
        let r = rev_within stop.edge (length m.half_edges) kept.valid.sound.even
        (half_edge_in stop.edge h.within) in
        omega (arith, f, r);
    from = h.to;
    to = h.from ∙ ap (λ k. point_at points (origin m k)) (sym (rev-rev stop.edge));
    from_covered = h.to_covered;
    to_covered = h.from_covered;
  }

  module _ (e : ℕ) (w : e < length s.directed) (inner : 0 < face m e) where
    -- the three edges round the face
    round : T.IsTriangle m e
    round = T.triangle_at m e kept.valid.sound (half_edge_in e w) inner

    -- where the edge after an edge starts and ends
    next_starts : origin m (next m e) ≡ origin m (rev e)
    next_starts = (kept.valid.sound.edges e round.h_in).starts

    next_ends : origin m (rev (next m e)) ≡ origin m (prev m e)
    next_ends = sym (kept.valid.sound.edges (next m e) round.next_in).starts
        ∙ ap (origin m) round.next_next

    -- where the edge before an edge ends
    prev_ends : origin m (rev (prev m e)) ≡ origin m e
    prev_ends = sym (kept.valid.sound.edges (prev m e) round.prev_in).starts
        ∙ ap (origin m) round.next_prev

    -- the edge after an edge of an inner face, with the positions of its ends
    pub next_side : {S : Type 0} {number : S → ℤ} {IsCovered : Point → Type 0} {h : ℕ}
        {from to corner : Point2 S} → IsStop number IsCovered points m (length s.directed)
        (record { edge = e; from = from; to = to })
        → place_of number corner ≡ point_at points (origin m (prev m e))
        → IsCovered (place_of number corner) → h ≡ next m e
        → IsStop number IsCovered points m (length s.directed)
        (record { edge = h; from = to; to = corner })
    next_side stop at_corner covered same = rw same (record {
      within = (let f = kept.fits.directed_fit in let n = round.next_in in omega (arith, f, n));
      from = stop.to ∙ ap (point_at points) (sym next_starts);
      to = at_corner ∙ ap (point_at points) (sym next_ends);
      from_covered = stop.to_covered;
      to_covered = covered;
    })

    -- the edge before it
    pub prev_side : {S : Type 0} {number : S → ℤ} {IsCovered : Point → Type 0} {h : ℕ}
        {from to corner : Point2 S} → IsStop number IsCovered points m (length s.directed)
        (record { edge = e; from = from; to = to })
        → place_of number corner ≡ point_at points (origin m (prev m e))
        → IsCovered (place_of number corner) → h ≡ prev m e
        → IsStop number IsCovered points m (length s.directed)
        (record { edge = h; from = corner; to = from })
    prev_side stop at_corner covered same = rw same (record {
      within = (let f = kept.fits.directed_fit in let n = round.prev_in in omega (arith, f, n));
      from = at_corner;
      to = stop.from ∙ ap (point_at points) (sym prev_ends);
      from_covered = covered;
      to_covered = stop.from_covered;
    })

    module _ (p : Point) where
      -- p is strictly on the left of the line from a vertex to another, and of the sides of a face
      abbrev IsLeft : ℕ → ℕ → Type 0
      IsLeft i j = TurnsLeft (place points i) (place points j) (whole p)

      abbrev IsLeftOfSides : ℕ → Type 0
      IsLeftOfSides h = IsLeft (origin m h) (origin m (next m h))
          × IsLeft (origin m (next m h)) (origin m (prev m h))
          × IsLeft (origin m (prev m h)) (origin m h)

      face_in : face m e ≤ length s.faces
      face_in =
          let f = kept.fits.faces_fit in
          let h = (kept.valid.sound.edges e round.h_in).face_in in
          omega (arith, f, h)

      -- the same sides from the edge on that the face names
      named_sides : IsLeftOfSides e → IsLeftOfSides (face_edge m (face m e))
      named_sides l = go ((kept.valid.sound.edges e round.h_in).owned inner)
        where
          go : (face_edge m (face m e) ≡ e) ⊎
              ((face_edge m (face m e) ≡ next m e) ⊎ (face_edge m (face m e) ≡ prev m e))
              → IsLeftOfSides (face_edge m (face m e))
          go (inl i) = subst IsLeftOfSides (sym i) l
          go (inr (inl i)) =
              subst IsLeftOfSides (sym i) (rw (round.next_next, round.prev_next) (l.1, l.2, l.0))
          go (inr (inr i)) =
              subst IsLeftOfSides (sym i) (rw (round.next_prev, round.prev_prev) (l.2, l.0, l.1))

      inside_named : IsLeftOfSides e → IsInsideFaceOf points m p (face_edge m (face m e))
      inside_named l =
          (inside_is_sides _ _ _ _ (mesh_face at s kept (face m e) inner face_in).turning).1
          (named_sides l)

      -- a position strictly on the left of the three sides of an inner face is located in it
      pub located_inside : {a b c : Point} {f : ℕ} → f ≡ face m e
          → a ≡ point_at points (origin m e) → b ≡ point_at points (origin m (rev e))
          → c ≡ point_at points (origin m (prev m e)) → TurnsLeft (whole a) (whole b) (whole p)
          → TurnsLeft (whole c) (whole a) (whole p) → TurnsLeft (whole b) (whole c) (whole p)
          → Locates points m p (OnFace f)
      located_inside same at_a at_b at_c beside behind ahead =
          rw same (in_face at s kept p (face m e) inner face_in (inside_named (
            subst (IsLeft (origin m e)) (sym next_starts) (rw (← at_a, ← at_b) beside),
            subst (λ k. IsLeft k (origin m (prev m e))) (sym next_starts)
                (rw (← at_b, ← at_c) ahead),
            rw (← at_c, ← at_a) behind,
          )))
