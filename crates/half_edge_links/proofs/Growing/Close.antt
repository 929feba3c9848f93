-- A face of an outer edge, the next one and a new edge.
-- Notions: IsNewCorner; corner, closes, sound_after_close.
use Rattle.std.proofs.Common.{◌≡◌, ◌≢◌, ◌⊎◌, ◌+◌, ◌-◌, ◌<◌, ◌≤◌, [], ◌∷◌, ◌∙◌}
use Rattle.std.proofs.Common.{ℕ, length, refl, sym, ap, inl, inr, arith, length-append}
use Rattle.std.proofs.lemmas.Bool.{cases_eq}
use Rattle.std.proofs.lemmas.List.{get_or_append_left, get_or_at}
use Rattle.half_edge_links.specs.{AreSoundLinks, closed, Closes, face, face_edge, IsClosable}
use Rattle.half_edge_links.specs.{IsSoundEdge, Mesh, next, origin, prev, rev}
use Rattle.half_edge_links.proofs.{Faces.FlipLemmas.links_from, Growing.CloseReads.closes_edges}
use Rattle.half_edge_links.proofs.{Lists.Cases.◌or_else◌, Lists.Rev.rev_within}
use Rattle.half_edge_links.proofs.Sound.Parts.{EachEdgeIsSound, EachNextIsSound, grown_cases}
use Rattle.half_edge_links.proofs.Sound.Parts.{inner_kept, IsInnerSound, KeepsBusy, KeepsEnds}
use Rattle.half_edge_links.proofs.Sound.Parts.{KeepsFaceEdges, loop_sound, NamesFaces, next_at}
use Rattle.half_edge_links.proofs.Sound.Parts.{next_kept, next_of_sound, prev_sound, rev_of_even}
use Rattle.half_edge_links.proofs.Sound.Parts.{rev_of_odd, sound_from}

-- the edges round the place of a new face
pub record IsNewCorner (m : Mesh) (e : ℕ) : Type 0 where
  pub second_in : next m e < length m.half_edges
  pub before_in : prev m e < length m.half_edges
  pub after_in : next m (next m e) < length m.half_edges
  pub after_before : prev m (next m (next m e)) ≡ next m e
  pub second_back : prev m (next m e) ≡ e
  pub before_next : next m (prev m e) ≡ e
  pub end : origin m (next m (next m e)) ≡ origin m (rev (next m e))
  pub second_outer : face m (next m e) ≡ 0
  pub before_outer : face m (prev m e) ≡ 0
  pub after_outer : face m (next m (next m e)) ≡ 0
  pub before-second : prev m e ≢ next m e
  pub after-first : next m (next m e) ≢ e
  pub first-second : e ≢ next m e
  pub before-first : prev m e ≢ e

-- where an outer edge and the next one can get a face, the edges round its place are outer and
-- differ
pub corner : (m : Mesh) (e : ℕ) → AreSoundLinks m → IsClosable m e → IsNewCorner m e
corner m e s can =
    let here = s.edges e can.within in
    let second = s.edges (next m e) here.next_in in
    let outer = can.outer in
    let differs : next m (next m e) ≢ e =
    λ same. can.apart (sym second.starts ∙ ap (origin m) same) in
    let second_outer : face m (next m e) ≡ 0 = here.same_face ∙ outer in
    let before_outer : face m (prev m e) ≡ 0 =
    sym (s.edges (prev m e) here.prev_in).same_face ∙ ap (face m) here.next_prev ∙ outer in
    let after_outer : face m (next m (next m e)) ≡ 0 = second.same_face ∙ second_outer in
    let before_second : prev m e ≢ next m e =
    λ same. differs (sym (ap (next m) same) ∙ here.next_prev) in
    let first_second : e ≢ next m e = λ same. here.proper (sym same) in
    let before_first : prev m e ≢ e =
    λ same. here.proper (sym (ap (next m) same) ∙ here.next_prev) in
    assumption

-- a face of outer edge e, the next one and a new edge changes the links round it, and no others
pub closes : (m : Mesh) (e : ℕ) → AreSoundLinks m → IsClosable m e
    → Closes m (closed m e) e (length m.half_edges) (length m.face_edges)
unfolding closed
closes m e s can =
    let c = corner m e s can in
    let r = closes_edges m.half_edges e (next m e) (prev m e) (next m (next m e))
    (length m.face_edges + 1) can.within c.second_in c.before_in c.after_in c.before-second
    c.after-first c.first-second in
    let inside = links_from (closed m e) (length m.half_edges) _ r.inside in
    let outside = links_from (closed m e) (length m.half_edges + 1) _ r.outside in
    assumption (r, inside, outside)

module _ (m new : Mesh) (e : ℕ) (s : AreSoundLinks m) (can : IsClosable m e)
    (i : Closes m new e (length m.half_edges) (length m.face_edges)) where
  -- the edges round the place of the new face
  c : IsNewCorner m e
  c = corner m e s can

  rev_kept : KeepsEnds m new
  rev_kept h within = i.origins (rev h) (rev_within h _ s.even within)

  -- there are no fewer directed edges than before
  more : length m.half_edges ≤ length new.half_edges
  more = omega (arith, i.edge_count)

  face_count : length new.face_edges ≡ length m.face_edges + 1
  face_count = ap length i.face_edges ∙ length-append m.face_edges (e ∷ [])

  named_new : face_edge new (length m.face_edges + 1) ≡ e
  named_new = rw i.face_edges (get_or_at m.face_edges e [] 0 _ (omega arith))

  named_old : KeepsFaceEdges m new
  named_old k some within = rw i.face_edges
      (get_or_append_left m.face_edges (e ∷ []) 0 (k - 1) (omega (arith, some, within)))

  -- edges may still start where an edge did
  busy : KeepsBusy m new
  busy h within = let here = s.edges h within in
      record { within = rw i.out_edges here.origin_in; has_out = rw i.out_edges here.has_out }

  -- the edges of the new face
  round_sound : IsSoundEdge new e × IsSoundEdge new (next m e)
      × IsSoundEdge new (length m.half_edges)
  round_sound =
      let off_after : next m e ≢ next m (next m e) =
      λ q. (s.edges (next m e) c.second_in).proper (sym q) in
      loop_sound new e (next m e) (length m.half_edges) (origin m e) (origin m (next m e))
      (origin m (next m (next m e))) (length m.face_edges + 1) (record {
        first = record {
          origin = i.origins e can.within;
          next = i.other_next e can.within (λ q. c.before-first (sym q)) c.first-second;
          prev = i.prev_first;
          face = i.face_first;
        };
        second = record {
          origin = i.origins _ c.second_in;
          next = i.next_second;
          prev = i.other_prev _ c.second_in (λ q. c.first-second (sym q)) off_after ∙ c.second_back;
          face = i.face_second;
        };
        third = i.inside;
        within = (
          omega (arith, more, can.within),
          omega (arith, more, c.second_in),
          omega (arith, i.edge_count),
        );
        apart = (
          c.first-second,
          λ q. absurd (omega (arith, q, c.second_in)),
          λ q. absurd (omega (arith, q, can.within)),
        );
        ends = (
          rev_kept e can.within ∙ sym (s.edges e can.within).starts,
          rev_kept _ c.second_in ∙ sym c.end,
          ap (origin new) (rev_of_even (length m.half_edges) s.even) ∙ i.outside.origin,
        );
        busy = (busy e can.within, busy _ c.second_in, busy _ c.after_in);
        face_in = omega (arith, face_count);
      }) named_new

  -- an edge of the new face, the new outer edge, or another
  place : (h : ℕ) → h < length new.half_edges → IsSoundEdge new h
      ⊎ ((h ≡ length m.half_edges + 1) ⊎ ((h < length m.half_edges) × (h ≢ e) × (h ≢ next m e)))
  place h within =
      elim (cases_eq e h or_else cases_eq (next m e) h or_else grown_cases h (length m.half_edges)
      (rw i.edge_count at within)) [
        | inl same ↦ inl (rw (← same) round_sound.0)
        | inr (a, inl same) ↦ inl (rw (← same) round_sound.1)
        | inr (a, inr (b, inl old)) ↦ inr (inr (old, λ q. a (sym q), λ q. b (sym q)))
        | inr (a, inr (b, inr j)) ↦
            elim j [ inl is ↦ inl (rw is round_sound.2) | inr is ↦ inr (inl is) ]
      ]

  next_ok : EachNextIsSound new
  next_ok h within =
      elim (place h within) [
        | inl done ↦ next_of_sound new h done
        | inr (inl is) ↦ rw is (
            next_at new (length m.half_edges + 1) (next m (next m e)) i.outside.next
            (omega (arith, more, c.after_in)) i.prev_after (i.origins _ c.after_in
            ∙ sym (ap (origin new) (rev_of_odd (length m.half_edges) s.even) ∙ i.inside.origin))
            (i.other_faces _ c.after_in c.after-first (s.edges (next m e) c.second_in).proper
            ∙ c.after_outer ∙ sym i.outside.face) (λ q. absurd (omega (arith, q, c.after_in))))
        | inr (inr off) ↦
            let here = s.edges h off.0 in
            elim (cases_eq (prev m e) h) [
              | inl same ↦ rw (← same) (
                  next_at new (prev m e) (length m.half_edges + 1) i.next_before
                  (omega (arith, i.edge_count)) i.outside.prev
                  (i.outside.origin ∙ sym (ap (origin m) c.before_next)
                  ∙ (s.edges _ c.before_in).starts ∙ sym (rev_kept _ c.before_in))
                  (i.outside.face ∙ sym (i.other_faces _ c.before_in c.before-first c.before-second
                  ∙ c.before_outer)) (λ q. absurd (omega (arith, q, c.before_in))))
              | inr not_before ↦
                  let off_first : next m h ≢ e =
                  λ q. not_before (ap (prev m) (sym q) ∙ here.prev_next) in
                  let off_second : next m h ≢ next m e =
                  λ q. off.1 (sym here.prev_next ∙ ap (prev m) q ∙ c.second_back) in
                  let off_after : next m h ≢ next m (next m e) =
                  λ q. off.2 (sym here.prev_next ∙ ap (prev m) q ∙ c.after_before) in
                  next_kept m new h here (i.other_next h off.0 (λ q. not_before (sym q)) off.2)
                  (i.other_prev (next m h) here.next_in off_first off_after)
                  (i.origins (next m h) here.next_in) (rev_kept h off.0) (i.other_faces h off.0
                  off.1 off.2) (i.other_faces (next m h) here.next_in off_first off_second) more
            ]
      ]

  inner_ok : (h : ℕ) → h < length m.half_edges → h ≢ e → h ≢ next m e → 0 < face new h
      → IsInnerSound new h
  inner_ok h within not_first not_second some =
      let here = s.edges h within in
      let f = i.other_faces h within not_first not_second in
      let was : 0 < face m h = omega (arith, f, some) in
      inner_kept m new h here was
      (i.other_next h within
      (λ q. absurd (omega (arith, was, ap (face m) q, c.before_outer))) not_second)
      (i.other_prev h within not_first
      (λ q. absurd (omega (arith, was, ap (face m) q, c.after_outer))))
      f
      (i.other_next (next m h) here.next_in
      (λ q. absurd (omega (arith, was, here.same_face, ap (face m) q, c.before_outer)))
      (λ q. absurd (omega (arith, was, here.same_face, ap (face m) q, c.second_outer))))
      (named_old (face m h) was here.face_in)

  sound_at : EachEdgeIsSound new
  sound_at h within =
      elim (place h within) [
        | inl done ↦ done
        | inr (inl is) ↦
            let start = busy e can.within in
            let none : face new h ≡ 0 = ap (face new) is ∙ i.outside.face in
            sound_from new h (record {
              origin_in = rw (is, i.outside.origin) start.within;
              face_in = rw none (omega arith);
              has_out = rw (is, i.outside.origin) start.has_out;
            }) (next_ok h within) (prev_sound new next_ok h within)
            (λ some. absurd (omega (arith, some, none)))
        | inr (inr off) ↦
            let start = busy h off.0 in
            sound_from new h (record {
              origin_in = rw (i.origins h off.0) start.within;
              face_in = rw (i.other_faces h off.0 off.1 off.2, face_count)
                  (omega (arith, (s.edges h off.0).face_in));
              has_out = rw (i.origins h off.0) start.has_out;
            }) (next_ok h within) (prev_sound new next_ok h within) (inner_ok h off.0 off.1 off.2)
      ]

  -- an edge of an inner face keeps it
  inner_face_kept : (h : ℕ) → h < length m.half_edges → 0 < face m h → face new h ≡ face m h
  inner_face_kept h within some =
      i.other_faces h within (λ q. absurd (omega (arith, some, ap (face m) q, can.outer)))
      (λ q. absurd (omega (arith, some, ap (face m) q, c.second_outer)))

  faces_kept : NamesFaces new
  faces_kept k some within =
      elim (cases_eq k (length m.face_edges + 1)) [
        | inl same ↦ rw (same, named_new) (omega (arith, i.edge_count, can.within), i.face_first)
        | inr differs ↦
            let below : k ≤ length m.face_edges = omega (arith, face_count, within) in
            let had = s.faces k some below in
            rw (named_old k some below) (
              omega (arith, i.edge_count, had.0),
              inner_face_kept _ had.0 (omega (arith, had.1, some)) ∙ had.1,
            )
      ]

  -- a sound mesh stays sound when an outer edge, the next one and a new edge get a face
  pub sound_after_close : AreSoundLinks new
  sound_after_close = record {
    even = rw i.edge_count (let e = s.even in omega arith);
    edges = sound_at;
    vertices = λ u h is. let had = s.vertices u h (rw i.out_edges at is) in
        (omega (arith, i.edge_count, had.0), i.origins h had.0 ∙ had.1);
    faces = faces_kept;
    outer = λ h is.
        let at : length m.half_edges + 1 ≡ h = cc (i.outer_edge) in
        rw (← at) (omega (arith, i.edge_count), i.outside.face);
    has_outer = λ some. rw i.outer_edge refl;
  }
