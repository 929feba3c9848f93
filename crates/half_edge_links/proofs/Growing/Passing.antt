-- An edge of a line that passes the vertex at its end.
-- Notions: far_edge, IsBeside; beside, passed_places, passes, line_passes, outline_passed,
-- valid_passed, ends_passed_is.
use Rattle.std.proofs.Common.{◌≡◌, ◌≢◌, ◌⊎◌, ◌<◌, ◌∙◌}
use Rattle.std.proofs.Common.{ℕ, length, Some, None, refl, sym, ap, inr}
use Rattle.std.proofs.lemmas.List.{get_or-set_same, get_or-set_other, length-set}
use Rattle.half_edge_links.specs.{AreSoundLinks, HasStars, IsValidMesh, KeepsOneOutline, Mesh}
use Rattle.half_edge_links.specs.{MovesEdge, next, origin, Passes, prev, rev}
use Rattle.half_edge_links.specs.Pass.{IsPassable, passed, passed_edges}
use Rattle.half_edge_links.specs.Places.{ArePassedPlaces}
use Rattle.half_edge_links.proofs.Growing.LineSound.{apart_moved, ends_move, IsLineMove}
use Rattle.half_edge_links.proofs.Growing.LineSound.{outline_moved, sound_moved}
use Rattle.half_edge_links.proofs.Lists.Rev.{rev-rev, rev_differs, rev_same, rev_within}
use Rattle.half_edge_links.proofs.Relinking.Walks.{exchange_moved, IsMoved, star_walk}
use Rattle.half_edge_links.proofs.{Relinking.Walks.stars_exchanged, Sound.Valid.small_same}
use Rattle.half_edge_links.proofs.Sound.Relinks.{relinks}

-- the edge k from the far end, that is the edge before the other side of e
abbrev pub far_edge : Mesh → ℕ → ℕ
far_edge m e = prev m (rev e)

-- the edges beside an edge that passes a vertex
pub record IsBeside (m : Mesh) (e : ℕ) : Type 0 where
  pub edge_in : e < length m.half_edges
  pub twin_in : rev e < length m.half_edges
  pub back_in : next m e < length m.half_edges
  pub there_in : far_edge m e < length m.half_edges
  pub before_in : prev m (far_edge m e) < length m.half_edges
  pub back_is : next m e ≡ rev (far_edge m e)
  pub back_prev : prev m (next m e) ≡ e
  pub there_next : next m (far_edge m e) ≡ rev e
  pub before_next : next m (prev m (far_edge m e)) ≡ far_edge m e
  pub start : origin m (next m e) ≡ origin m (rev e)
  pub edge-twin : e ≢ rev e
  pub edge-before : e ≢ prev m (far_edge m e)
  pub edge-there : e ≢ far_edge m e
  pub before-there : prev m (far_edge m e) ≢ far_edge m e
  pub back-there : next m e ≢ far_edge m e
  pub back-twin : next m e ≢ rev e
  pub there-back : far_edge m e ≢ next m e
  pub there-twin : far_edge m e ≢ rev e
  pub before-twin : prev m (far_edge m e) ≢ rev e

-- where an edge can pass the vertex at its end, the edges beside it are in the mesh and differ
pub beside : (m : Mesh) (e : ℕ) → AreSoundLinks m → IsPassable m e → IsBeside m e
beside m e s can =
    let here = s.edges e can.within in
    let twin_in : rev e < length m.half_edges = rev_within e _ s.even can.within in
    let twin = s.edges (rev e) twin_in in
    let there = s.edges (far_edge m e) twin.prev_in in
    let back_is : next m e ≡ rev (far_edge m e) = sym (rev-rev (next m e)) ∙ ap rev (sym can.two) in
    let off : next m e ≢ far_edge m e = λ q. rev_differs (far_edge m e) (sym back_is ∙ q) in
    let end_is : origin m (far_edge m e) ≡ origin m (rev (prev m (far_edge m e))) =
    ap (origin m) (sym there.next_prev) ∙ (s.edges _ there.prev_in).starts in
    let edge_twin : e ≢ rev e = λ q. rev_differs e (sym q) in
    let edge_before : e ≢ prev m (far_edge m e) = λ q. off (ap (next m) q ∙ there.next_prev) in
    let edge_there : e ≢ far_edge m e = λ q. can.apart (back_is ∙ ap rev (sym q)) in
    let before_there : prev m (far_edge m e) ≢ far_edge m e =
    λ q. there.proper (ap (next m) (sym q) ∙ there.next_prev) in
    let there_back : far_edge m e ≢ next m e = λ q. off (sym q) in
    let there_twin : far_edge m e ≢ rev e = λ q. there.proper (twin.next_prev ∙ sym q) in
    let before_twin : prev m (far_edge m e) ≢ rev e = λ q. can.corners
    (ap (origin m) (sym (rev-rev e) ∙ ap rev (sym q)) ∙ sym end_is ∙ ap (origin m) can.two) in
    assumption

-- the edges beside an edge that can pass a vertex are those that the writes to the list ask for
pub passed_places : (m : Mesh) (e : ℕ) → AreSoundLinks m → IsPassable m e
    → ArePassedPlaces m.half_edges e (rev e) (far_edge m e) (next m e) (prev m (far_edge m e))
passed_places m e s can = let t = beside m e s can in assumption t

-- an edge that passes the vertex at its end changes the links beside it, and no others
pub passes : (m : Mesh) (e : ℕ) → AreSoundLinks m → IsPassable m e
    → Passes m (passed m e) e (far_edge m e) (next m e)
unfolding passed passed_edges
passes m e s can =
    let t = beside m e s can in
    let r = relinks m.half_edges e (rev e) (far_edge m e) (next m e) (prev m (far_edge m e))
    (far_edge m e) (rev e) (next m e) (far_edge m e) e (prev m (far_edge m e))
    (origin m (far_edge m e)) can.within t.twin_in t.there_in t.back_in t.before_in
    t.edge-before t.edge-there t.before-there t.back-there t.back-twin t.there-twin in
    let count = length-set m.out_edges (origin m (next m e)) (Some (next m e)) in
    let out = get_or-set_same m.out_edges (origin m (next m e)) (Some (next m e)) None
    (s.edges (next m e) t.back_in).origin_in in
    let others =
    λ (u : ℕ). get_or-set_other m.out_edges (origin m (next m e)) u (Some (next m e)) None in
    assumption (r, count, out, others)

module _ (m new : Mesh) (e : ℕ) (s : AreSoundLinks m) (can : IsPassable m e)
    (i : Passes m new e (far_edge m e) (next m e)) where
  -- the edges beside e
  t : IsBeside m e
  t = beside m e s can

  -- the edge from the far end goes from before the other side of e to behind e; the other side of e
  -- starts where it does
  pub line_passes : IsLineMove m new e (far_edge m e) (far_edge m e) (prev m (far_edge m e)) (rev e)
      e (next m e)
  line_passes =
      let starts_q : origin new (rev e) ≡ origin new (rev (prev m (far_edge m e))) =
      i.origin_twin ∙ sym (ap (origin m) t.before_next) ∙ (s.edges _ t.before_in).starts
      ∙ sym (i.other_origins _ (rev_within _ _ s.even t.before_in)
      (λ q. t.edge-before (sym (rev_same (prev m (far_edge m e)) e q)))) in
      let starts_k : origin new (far_edge m e) ≡ origin new (rev e) =
      i.other_origins _ t.there_in t.there-twin ∙ sym i.origin_twin in
      let starts_a : origin new (next m e) ≡ origin new (rev (far_edge m e)) =
      ap (origin new) t.back_is in
      let edge_named : (e ≡ prev m (far_edge m e)) ⊎ (e ≡ e) = inr refl in
      let before_named : (far_edge m e ≡ e) ⊎ (far_edge m e ≡ far_edge m e) = inr refl in
      let other_next = λ (h : ℕ) (within : h < length m.half_edges)
      (off_p : h ≢ prev m (far_edge m e)) (off_r : h ≢ e) (off_k : h ≢ far_edge m e).
      i.other_next h within off_r off_p off_k in
      let other_prev = λ (h : ℕ) (within : h < length m.half_edges) (off_q : h ≢ rev e)
      (off_k : h ≢ far_edge m e) (off_a : h ≢ next m e). i.other_prev h within off_a off_k off_q in
      assumption t

  -- the other side of e stands after the edge from the far end now, round its vertex
  turns : IsMoved (star_walk m) (star_walk new) (rev e) (next m e) (rev (far_edge m e))
      (far_edge m e) (rev (prev m (far_edge m e)))
  turns = record {
    there = λ h within. rw i.edge_count within;
    back = λ h within. rw i.edge_count at within;
    labels = i.other_origins;
    at_r = i.origin_twin;
    t_in = t.twin_in;
    p_in = t.back_in;
    r_in = t.there_in;
    was_after = ap rev t.back_prev;
    was_before = refl;
    were_joined = refl;
    are_joined = ap rev i.prev_back;
    is_after = ap rev i.prev_there;
    is_before = ap rev i.prev_twin;
    p_off = t.back-twin;
    q_off = λ q. t.edge-there (sym (rev_same (far_edge m e) e q));
    r_off = t.there-twin;
    s_off = λ q. t.edge-before (sym (rev_same (prev m (far_edge m e)) e q));
    other = λ h within off_l off_k off_t. (
      ap rev (i.other_prev h within off_l off_k off_t),
      λ q. off_l (sym (s.edges h within).next_prev ∙ ap (next m) (rev_same (prev m h) e q)),
    );
  }

  -- the outer face keeps one loop when an edge passes the vertex at its end
  pub outline_passed : KeepsOneOutline m new
  outline_passed = outline_moved m new _ _ _ _ _ _ _ s line_passes

  stars_passed : HasStars m → HasStars new
  stars_passed = stars_exchanged m new s _ _ _
      (exchange_moved (star_walk m) (star_walk new) _ _ _ _ _ turns)

-- a valid mesh stays valid when an edge of a line passes the vertex at its end
pub valid_passed : (m : Mesh) (e : ℕ) → IsValidMesh m → IsPassable m e → IsValidMesh (passed m e)
valid_passed m e valid can =
    let i = passes m e valid.sound can in
    let moves = line_passes m (passed m e) e valid.sound can i in
    record {
      sound = sound_moved m (passed m e) _ _ _ _ _ _ _ valid.sound moves;
      apart = apart_moved m (passed m e) _ _ _ _ _ _ _ valid.sound moves
          (λ same. can.corners (same ∙ ap (origin m) can.two)) valid.apart;
      stars = stars_passed m (passed m e) e valid.sound can i valid.stars;
      small = small_same m (passed m e) i.vertex_count i.edge_count
          (ap length i.face_edges) valid.small;
    }

-- an edge that passes the vertex at its end gets the far end of the next edge; no other ends change
pub ends_passed_is : (m new : Mesh) (e : ℕ) → AreSoundLinks m → IsPassable m e → new ≡ passed m e
    → MovesEdge m new e (origin m e) (origin m (rev (next m e)))
ends_passed_is m new e s can is = rw (is, ← can.two) (ends_move m (passed m e) _ _ _ _ _ _ _ s
    (line_passes m (passed m e) e s can (passes m e s can)))
