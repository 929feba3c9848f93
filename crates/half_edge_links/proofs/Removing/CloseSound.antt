-- Making a loop of three edges of the outer face a face keeps a mesh sound.
-- Notions: IsOfFace; round, closes, sound_closed, small_closed.
use Rattle.std.proofs.Common.{◌≡◌, ◌≢◌, ◌⊎◌, ◌+◌, ◌-◌, ◌<◌, ◌≤◌, [], ◌∷◌, ◌∙◌}
use Rattle.std.proofs.Common.{ℕ, length, refl, sym, ap, inl, inr, arith, length-append}
use Rattle.std.proofs.lemmas.Bool.{cases_eq}
use Rattle.std.proofs.lemmas.List.{get_or_append_left, get_or_at}
use Rattle.half_edge_links.specs.{AreSoundLinks, ClosesLoop, face, face_edge, IsOpenTriangle}
use Rattle.half_edge_links.specs.{IsSmall, IsSoundEdge, MAX_ELEMENTS, Mesh, next, origin, prev, rev}
use Rattle.half_edge_links.specs.Remove.{loop_closed}
use Rattle.half_edge_links.proofs.{Sound.FieldWrites.sets_loop_face, Sound.Triangles.IsTriangle}
use Rattle.half_edge_links.proofs.Sound.Parts.{inner_kept, KeepsBusy, KeepsFaceEdges, loop_sound}
use Rattle.half_edge_links.proofs.Sound.Parts.{next_kept, prev_kept, sound_from}

-- edge k is h, the edge after h or the one before it
abbrev pub IsOfFace : Mesh → ℕ → ℕ → Type 0
IsOfFace m h k = (k ≡ h) ⊎ ((k ≡ next m h) ⊎ (k ≡ prev m h))

is_round : (m : Mesh) (h k : ℕ) → IsOfFace m h k ⊎ ((k ≢ h) × (k ≢ next m h) × (k ≢ prev m h))
is_round m h k = grind arith

module _ (m : Mesh) (h : ℕ) (s : AreSoundLinks m) (can : IsOpenTriangle m h) where
  -- edge h fits the edges beside it
  here : IsSoundEdge m h
  here = s.edges h can.within

  -- the edge, the next one and the one after it are a loop of three
  pub round : IsTriangle m h
  round =
      let three = can.three in
      let face_prev : face m (prev m h) ≡ face m h =
      sym (s.edges (prev m h) here.prev_in).same_face ∙ ap (face m) here.next_prev in
      let differs : prev m h ≢ h = λ same. can.proper (sym (ap (next m) same) ∙ here.next_prev) in
      let both_differ : next m h ≢ prev m h =
      λ same. differs (sym three ∙ ap (next m) same ∙ here.next_prev) in
      let prev_prev : prev m (prev m h) ≡ next m h =
      sym (ap (prev m) three) ∙ (s.edges (next m h) here.next_in).prev_next in
      assumption (can, here, face_prev, differs, both_differ, prev_prev)

  -- the writes of the code give the loop a new face, which names h
  pub closes : ClosesLoop m (loop_closed m h) h
  unfolding loop_closed
  closes = assumption (sets_loop_face m.half_edges h
      (length m.face_edges + 1) round.h_in round.next_in round.prev_in)

  module _ (new : Mesh) (c : ClosesLoop m new h) where
    next_off : (k : ℕ) → k < length m.half_edges → (k ≢ h) × (k ≢ next m h) × (k ≢ prev m h)
        → (next m k ≢ h) × (next m k ≢ next m h) × (next m k ≢ prev m h)
    next_off k within off =
        let back = (s.edges k within).prev_next in (
          λ z. off.2 (sym back ∙ ap (prev m) z),
          λ z. off.0 (sym back ∙ ap (prev m) z
              ∙ round.prev_next),
          λ z. off.1 (sym back ∙ ap (prev m) z ∙ round.prev_prev),
        )

    face_count : length new.face_edges ≡ length m.face_edges + 1
    face_count = ap length c.face_edges ∙ omega (arith, length-append m.face_edges (h ∷ []))

    last_named : face_edge new (length m.face_edges + 1) ≡ h
    last_named = let k : length m.face_edges + 1 - 1 ≡ length m.face_edges = omega arith in
        rw (k, c.face_edges) (get_or_at m.face_edges h [] 0 (length m.face_edges) refl)

    named : KeepsFaceEdges m new
    named f some within =
        rw c.face_edges (get_or_append_left m.face_edges (h ∷ []) 0 (f - 1) (omega arith))

    -- edges may still start where an edge did
    busy : KeepsBusy m new
    busy k within = let was = s.edges k within in
        record { within = rw c.outs was.origin_in; has_out = rw c.outs was.has_out }

    -- the three edges of the loop fit the edges beside them
    loop : IsSoundEdge new h × IsSoundEdge new (next m h) × IsSoundEdge new (prev m h)
    loop =
        loop_sound new h (next m h) (prev m h) (origin m h) (origin m (next m h))
        (origin m (prev m h)) (length m.face_edges + 1) (record {
          first = record {
            origin = c.origins h;
            next = c.nexts h;
            prev = c.prevs h;
            face = c.here h (inl refl);
          };
          second = record {
            origin = c.origins _;
            next = c.nexts _ ∙ round.next_next;
            prev = c.prevs _ ∙ round.prev_next;
            face = c.here _ (inr (inl refl));
          };
          third = record {
            origin = c.origins _;
            next = c.nexts _ ∙ round.next_prev;
            prev = c.prevs _ ∙ round.prev_prev;
            face = c.here _ (inr (inr refl));
          };
          within = rw c.edge_count (round.h_in, round.next_in, round.prev_in);
          apart = (λ q. round.next_differs (sym q), round.both_differ, round.prev_differs);
          ends = (
            c.origins (rev h) ∙ sym here.starts,
            c.origins (rev (next m h)) ∙ sym (s.edges _ round.next_in).starts
                ∙ ap (origin m) round.next_next,
            c.origins (rev (prev m h)) ∙ sym (s.edges _ round.prev_in).starts
                ∙ ap (origin m) round.next_prev,
          );
          busy = (busy h round.h_in, busy _ round.next_in, busy _ round.prev_in);
          face_in = omega (arith, face_count);
        }) last_named

    sound_off : (k : ℕ) → k < length m.half_edges → (k ≢ h) × (k ≢ next m h) × (k ≢ prev m h)
        → IsSoundEdge new k
    sound_off k within off =
        let was = s.edges k within in
        let n = next_off k within off in
        let face_is = c.other k off.0 off.1 off.2 in
        let start = busy k within in
        let more : length m.half_edges ≤ length new.half_edges = omega (arith, c.edge_count) in
        sound_from new k (record {
          origin_in = rw (c.origins k) start.within;
          face_in = rw (face_is, face_count) (omega (arith, was.face_in));
          has_out = rw (c.origins k) start.has_out;
        }) (next_kept m new k was (c.nexts k) (c.prevs _) (c.origins _) (c.origins _) face_is
        (c.other _ n.0 n.1 n.2) more)
        (prev_kept m new k was (c.prevs k) (c.nexts _) more) (λ inner.
        let some : 0 < face m k = rw (← face_is) inner in
        inner_kept m new k was some (c.nexts k) (c.prevs k) face_is (c.nexts _)
        (named (face m k) some was.face_in))

    -- an edge of another face is not in the loop
    off_by_face : (k : ℕ) → 0 < face m k → (k ≢ h) × (k ≢ next m h) × (k ≢ prev m h)
    off_by_face k some =
        let zero = can.outer in (
          λ z. absurd (omega (arith, ap (face m) z)),
          λ z. absurd (omega (arith, ap (face m) z, round.face_next)),
          λ z. absurd (omega (arith, ap (face m) z, round.face_prev)),
        )

    -- a sound mesh stays sound when an open triangle becomes a face
    pub sound_closed : AreSoundLinks new
    sound_closed = record {
      even = rw c.edge_count s.even;
      edges = λ k within.
          let k_in : k < length m.half_edges = rw c.edge_count at within in
          elim (is_round m h k) [
            | inl (inl i) ↦ rw i loop.0
            | inl (inr (inl i)) ↦ rw i loop.1
            | inl (inr (inr i)) ↦ rw i loop.2
            | inr off ↦ sound_off k k_in off
          ];
      vertices = λ v k is. let had = s.vertices v k (rw c.outs at is) in
          (rw c.edge_count had.0, c.origins k ∙ had.1);
      faces = λ f some within.
          let f_in : f ≤ length m.face_edges + 1 = rw face_count at within in
          elim (cases_eq f (length m.face_edges + 1)) [
            | inl i ↦ let is = ap (face_edge new) i ∙ last_named in
                rw (is, c.edge_count) (can.within, c.here h (inl refl) ∙ sym i)
            | inr differs ↦
                let small : f ≤ length m.face_edges = omega arith in
                let had = s.faces f some small in
                let off = off_by_face (face_edge m f) (omega (arith, had.1)) in
                rw (named f some small, c.edge_count) (had.0, c.other _ off.0 off.1 off.2 ∙ had.1)
          ];
      outer = λ k is.
          let was = sym c.outer_edge ∙ is in
          let had = s.outer k was in
          let off = can.unnamed k was in
          (rw c.edge_count had.0, c.other k off.0 off.1 off.2 ∙ had.1);
      has_outer = λ some. rw c.outer_edge (s.has_outer (rw c.edge_count at some));
    }

    -- a small mesh with room for one more face stays small
    pub small_closed : IsSmall m → length m.face_edges + 2 ≤ MAX_ELEMENTS → IsSmall new
    small_closed small room = record {
      vertices = rw (ap length c.outs) small.vertices;
      edges = rw c.edge_count small.edges;
      faces = omega (arith, face_count);
    }
