-- Turning an edge keeps a mesh sound.
-- Notions: IsOffFlip; six, left, right, away_by_face, next_away, prev_away, kept, origin_kept,
-- sound_after_flip.
use Rattle.std.proofs.Common.{◌≡◌, ◌≢◌, ◌⊎◌, ◌<◌, ◌∙◌}
use Rattle.std.proofs.Common.{ℕ, length, Some, refl, sym, ap, inl, inr, arith}
use Rattle.std.proofs.lemmas.Bool.{cases_eq}
use Rattle.half_edge_links.specs.{AreSixPlaces, AreSoundLinks, edge_at, face, face_edge, Flips}
use Rattle.half_edge_links.specs.{HalfEdge, IsFlippable, IsSoundEdge, Mesh, next, origin, out_edge}
use Rattle.half_edge_links.specs.{prev, rev}
use Rattle.half_edge_links.proofs.{Lists.Cases.◌or_else◌, Lists.Rev.rev-rev}
use Rattle.half_edge_links.proofs.Sound.Parts.{KeepsBusy, KeepsOutEdges, loop_sound, NamesFaces}
use Rattle.half_edge_links.proofs.Sound.Parts.{NamesOutEdges, NamesOuterEdge, sound_kept}
use Rattle.half_edge_links.proofs.Sound.Triangles.{IsTriangle, same_loop, six_round, triangle_at}

-- an edge is none of the six round e
pub record IsOffFlip (m : Mesh) (e h : ℕ) : Type 0 where
  pub edge : h ≢ e
  pub twin : h ≢ rev e
  pub edge_next : h ≢ next m e
  pub twin_next : h ≢ next m (rev e)
  pub edge_prev : h ≢ prev m e
  pub twin_prev : h ≢ prev m (rev e)

module _ (m new : Mesh) (e : ℕ) (s : AreSoundLinks m) (can : IsFlippable m e)
    (f : Flips m new e) where
  -- the edges of the two faces beside e are six different ones of the mesh
  pub six : AreSixPlaces (length m.half_edges) e (rev e) (next m e) (next m (rev e)) (prev m e)
      (prev m (rev e))
  six = six_round m e s can

  -- the face on the left of e is a loop of three edges
  pub left : IsTriangle m e
  left = triangle_at m e s can.within can.inner

  -- the face on the right of e is a loop of three edges
  pub right : IsTriangle m (rev e)
  right = triangle_at m (rev e) s six.b_in can.twin_inner

  -- an edge of another face is none of the six
  pub away_by_face : (h : ℕ) → face m h ≢ face m e → face m h ≢ face m (rev e) → IsOffFlip m e h
  away_by_face h a b =
      let l = left in
      let r = right in
      record {
        edge = λ same. a (cc);
        twin = λ same. b (cc);
        edge_next = λ same. a (cc);
        twin_next = λ same. b (cc);
        edge_prev = λ same. a (cc);
        twin_prev = λ same. b (cc);
      }

  away_face : (h : ℕ) → h < length m.half_edges → IsOffFlip m e h
      → (face m h ≢ face m e) × (face m h ≢ face m (rev e))
  away_face h within a = (
    λ same. elim (same_loop m e h s can.within within can.inner same) [
      | inl x ↦ a.edge x
      | inr y ↦ elim y [ inl x ↦ a.edge_next x | inr x ↦ a.edge_prev x ]
    ],
    λ same. elim (same_loop m (rev e) h s six.b_in within can.twin_inner same) [
      | inl x ↦ a.twin x
      | inr y ↦ elim y [ inl x ↦ a.twin_next x | inr x ↦ a.twin_prev x ]
    ],
  )

  -- the edge after one that is none of the six is none of them
  pub next_away : (h : ℕ) → h < length m.half_edges → IsOffFlip m e h → IsOffFlip m e (next m h)
  next_away h within a =
      let differ = away_face h within a in
      let same = sym (s.edges h within).same_face in
      away_by_face (next m h) (λ q. differ.0 (same ∙ q)) (λ q. differ.1 (same ∙ q))

  -- the edge before one that is none of the six is none of them
  pub prev_away : (h : ℕ) → h < length m.half_edges → IsOffFlip m e h → IsOffFlip m e (prev m h)
  prev_away h within a =
      let here = s.edges h within in
      let differ = away_face h within a in
      let same = ap (face m) (sym here.next_prev) ∙ (s.edges (prev m h) here.prev_in).same_face in
      away_by_face (prev m h) (λ q. differ.0 (same ∙ q)) (λ q. differ.1 (same ∙ q))

  -- an edge that is none of the six stays as it was
  pub kept : (h : ℕ) → IsOffFlip m e h → edge_at new.half_edges h ≡ edge_at m.half_edges h
  kept h a = f.other_edges h a.edge a.twin a.edge_next a.twin_next a.edge_prev a.twin_prev

  -- any edge but the two sides of e starts where it did
  pub origin_kept : (h : ℕ) → h ≢ e → h ≢ rev e → origin new h ≡ origin m h
  origin_kept h a b =
      elim (cases_eq h (next m e) or_else cases_eq h (next m (rev e)) or_else cases_eq h
      (prev m e) or_else cases_eq h (prev m (rev e))) [
        | inl same ↦ cc (f.edge_next.origin)
        | inr (c, inl same) ↦ cc (f.twin_next.origin)
        | inr (c, inr (d, inl same)) ↦ cc (f.edge_prev.origin)
        | inr (c, inr (d, inr (x, inl same))) ↦ cc (f.twin_prev.origin)
        | inr (c, inr (d, inr (x, inr y))) ↦
            ap (λ (i : HalfEdge). i.origin) (f.other_edges h a b c d x y)
      ]

  -- what a vertex names afterwards
  outs : (v : ℕ) → ((v ≢ origin m e) × (v ≢ origin m (rev e)) × (out_edge new v ≡ out_edge m v))
      ⊎ (((v ≡ origin m e) × (out_edge new v ≡ Some (next m (rev e))))
      ⊎ ((v ≡ origin m (rev e)) × (out_edge new v ≡ Some (next m e))))
  outs v =
      elim (cases_eq v (origin m (rev e)) or_else cases_eq v (origin m e)) [
        | inl same ↦ inr (inr (same, cc f.twin_origin_out))
        | inr (a, inl same) ↦ inr (inl (same, cc (f.origin_out (λ equal. a (cc)))))
        | inr (a, inr b) ↦ inl (b, a, f.other_outs v b a)
      ]

  has_out : KeepsOutEdges m new
  has_out v had =
      elim (outs v) [
        | inl a ↦ rw a.2 had
        | inr b ↦ elim b [ inl c ↦ rw c.1 refl | inr c ↦ rw c.1 refl ]
      ]

  sound_away : (h : ℕ) → h < length m.half_edges → IsOffFlip m e h → IsSoundEdge new h
  sound_away h within a =
      let here = s.edges h within in
      sound_kept m new h here (record {
        edge = kept h a;
        at_next = kept (next m h) (next_away h within a);
        at_prev = kept (prev m h) (prev_away h within a);
        at_rev = origin_kept (rev h) (λ same. a.twin (sym (rev-rev h) ∙ ap rev same))
            (λ same. a.edge (sym (rev-rev h) ∙ ap rev same ∙ rev-rev e));
        named = λ some. let differ = away_face h within a in
            f.other_faces (face m h) some differ.0 differ.1;
        out = has_out (origin m h) here.has_out;
        edges = omega (arith, f.edge_count);
        vertices = omega (arith, f.vertex_count);
        faces = omega (arith, f.face_count);
      })

  -- edges may still start where an edge did
  busy : KeepsBusy m new
  busy h within = let here = s.edges h within in record {
    within = rw f.vertex_count here.origin_in;
    has_out = has_out (origin m h) here.has_out;
  }

  -- the far end of one of the four edges beside e
  end_kept : (h : ℕ) → h < length m.half_edges → h ≢ e → h ≢ rev e
      → origin new (rev h) ≡ origin m (next m h)
  end_kept h within off_e off_twin =
      origin_kept (rev h) (λ q. off_twin (sym (rev-rev h) ∙ ap rev q))
      (λ q. off_e (sym (rev-rev h) ∙ ap rev q ∙ rev-rev e)) ∙ sym (s.edges h within).starts

  left_sound : IsSoundEdge new e × IsSoundEdge new (prev m (rev e)) × IsSoundEdge new (next m e)
  left_sound =
      loop_sound new e (prev m (rev e)) (next m e) (origin m (prev m e)) (origin m (prev m (rev e)))
      (origin m (next m e)) (face m e) (record {
        first = f.edge;
        second = f.twin_prev;
        third = f.edge_next;
        within = rw f.edge_count (six.a_in, six.f_in, six.c_in);
        apart = (six.af, λ q. six.cf (sym q), λ q. six.ac (sym q));
        ends = (
          f.twin.origin,
          end_kept (prev m (rev e)) six.f_in (λ q. six.af (sym q))
              (λ q. six.bf (sym q)) ∙ ap (origin m) right.next_prev
              ∙ sym (s.edges e six.a_in).starts,
          end_kept (next m e) six.c_in (λ q. six.ac (sym q)) (λ q. six.bc (sym q))
              ∙ ap (origin m) left.next_next,
        );
        busy = (busy (prev m e) six.e_in, busy (prev m (rev e)) six.f_in, busy (next m e) six.c_in);
        face_in = rw f.face_count (s.edges e six.a_in).face_in;
      }) f.left_face

  right_sound : IsSoundEdge new (rev e) × IsSoundEdge new (prev m e)
      × IsSoundEdge new (next m (rev e))
  right_sound =
      let start : origin m (next m (rev e)) ≡ origin m e =
      (s.edges (rev e) six.b_in).starts ∙ ap (origin m) (rev-rev e) in
      loop_sound new (rev e) (prev m e) (next m (rev e)) (origin m (prev m (rev e)))
      (origin m (prev m e)) (origin m (next m (rev e))) (face m (rev e)) (record {
        first = f.twin;
        second = f.edge_prev;
        third = f.twin_next;
        within = rw f.edge_count (six.b_in, six.e_in, six.d_in);
        apart = (six.be, λ q. six.de (sym q), λ q. six.bd (sym q));
        ends = (
          ap (origin new) (rev-rev e) ∙ f.edge.origin,
          end_kept (prev m e) six.e_in
              (λ q. six.ae (sym q)) (λ q. six.be (sym q))
              ∙ ap (origin m) left.next_prev ∙ sym start,
          end_kept (next m (rev e)) six.d_in (λ q. six.ad (sym q)) (λ q. six.bd (sym q))
              ∙ ap (origin m) right.next_next,
        );
        busy = (
          busy (prev m (rev e)) six.f_in,
          busy (prev m e) six.e_in,
          busy (next m (rev e)) six.d_in,
        );
        face_in = rw f.face_count (s.edges (rev e) six.b_in).face_in;
      }) f.right_face

  sound_at : (h : ℕ) → h < length m.half_edges → IsSoundEdge new h
  sound_at h within =
      elim (cases_eq e h or_else cases_eq (rev e) h or_else cases_eq (next m e) h or_else cases_eq
      (next m (rev e)) h or_else cases_eq (prev m e) h or_else cases_eq (prev m (rev e)) h) [
        | inl same ↦ rw (← same) left_sound.0
        | inr (a, inl same) ↦ rw (← same) right_sound.0
        | inr (a, inr (b, inl same)) ↦ rw (← same) left_sound.2
        | inr (a, inr (b, inr (c, inl same))) ↦ rw (← same) right_sound.2
        | inr (a, inr (b, inr (c, inr (d, inl same)))) ↦ rw (← same) right_sound.1
        | inr (a, inr (b, inr (c, inr (d, inr (x, inl same))))) ↦ rw (← same) left_sound.1
        | inr (a, inr (b, inr (c, inr (d, inr (x, inr y))))) ↦ sound_away h within (record {
          edge = λ q. a (sym q);
          twin = λ q. b (sym q);
          edge_next = λ q. c (sym q);
          twin_next = λ q. d (sym q);
          edge_prev = λ q. x (sym q);
          twin_prev = λ q. y (sym q);
        })
      ]

  vertices_kept : NamesOutEdges new
  vertices_kept v h named =
      elim (outs v) [
        | inl a ↦
            let was : out_edge m v ≡ Some h = cc in
            let had = s.vertices v h was in
            let origin_is = origin_kept h (λ same. a.0 (cc)) (λ same. a.1 (cc)) in
            (omega (arith, had.0, f.edge_count), cc)
        | inr (inl c) ↦
            let is : next m (rev e) ≡ h = cc in
            let side = (s.edges (rev e) six.b_in).starts in
            (omega (arith, six.d_in, f.edge_count), cc (f.twin_next.origin, rev-rev e))
        | inr (inr c) ↦
            let is : next m e ≡ h = cc in
            let side = (s.edges e six.a_in).starts in
            (omega (arith, six.c_in, f.edge_count), cc (f.edge_next.origin))
      ]

  faces_kept : NamesFaces new
  faces_kept g some within =
      elim (cases_eq g (face m e) or_else cases_eq g (face m (rev e))) [
        | inl same ↦
            let named : face_edge new g ≡ e = rw same (f.left_face) in
            (omega (arith, six.a_in, f.edge_count), cc (f.edge.face))
        | inr (a, inl same) ↦
            let named : face_edge new g ≡ rev e = rw same (f.right_face) in
            (omega (arith, six.b_in, f.edge_count), cc (f.twin.face))
        | inr (a, inr b) ↦
            let named = f.other_faces g some a b in
            let had = s.faces g some (omega (arith, f.face_count)) in
            let at = kept (face_edge m g) (away_by_face _ (λ q. a (cc)) (λ q. b (cc))) in
            (omega (arith, f.edge_count, had.0), cc)
      ]

  outer_kept : NamesOuterEdge new
  outer_kept h named =
      let had = s.outer h (cc) in
      let at = kept h (away_by_face h (λ q. absurd (omega (arith, can.inner)))
      (λ q. absurd (omega (arith, can.twin_inner)))) in
      (omega (arith, f.edge_count, had.0), cc)

  -- a sound mesh stays sound when an edge between two inner faces is turned
  pub sound_after_flip : AreSoundLinks new
  sound_after_flip = record {
    even = rw f.edge_count s.even;
    edges = λ h within. sound_at h (omega (arith, f.edge_count));
    vertices = vertices_kept;
    faces = faces_kept;
    outer = outer_kept;
    has_outer = λ some. rw f.outer_edge (s.has_outer (omega (arith, f.edge_count)));
  }
