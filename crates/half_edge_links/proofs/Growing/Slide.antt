-- An edge that is moved to the far end of the next one.
-- Notions: IsTail; tail, slid_places, slides, line_slides, sound_after_slide, outline_slid,
-- ends_slid, stars_slid, apart_slid.
use Rattle.std.proofs.Common.{◌≡◌, ◌≢◌, ◌⊎◌, ◌<◌, ◌==◌, ◌∙◌}
use Rattle.std.proofs.Common.{ℕ, length, Some, None, refl, sym, ap, inl}
use Rattle.std.proofs.lemmas.Bool.{eq-eqb, eqb-true}
use Rattle.std.proofs.lemmas.List.{get_or-set_same, get_or-set_other, length-set}
use Rattle.half_edge_links.specs.{AreSoundLinks, HasApartEnds, HasStars, IsClosed, KeepsOneOutline}
use Rattle.half_edge_links.specs.{Mesh, MovesEdge, next, origin, prev, rev, slid, slid_edges}
use Rattle.half_edge_links.specs.{Grow.IsSlidable, Grow.Slides, Places.AreSlidPlaces}
use Rattle.half_edge_links.proofs.Growing.LineSound.{apart_moved, ends_move, IsLineMove}
use Rattle.half_edge_links.proofs.Growing.LineSound.{outline_moved, sound_moved}
use Rattle.half_edge_links.proofs.Lists.Rev.{rev-rev, rev_differs, rev_same, rev_within}
use Rattle.half_edge_links.proofs.Relinking.Walks.{exchange_moved, IsMoved, star_walk}
use Rattle.half_edge_links.proofs.{Relinking.Walks.stars_exchanged, Sound.Relinks.relinks}

-- the edges beside an edge that is moved
pub record IsTail (m : Mesh) (e : ℕ) : Type 0 where
  pub edge_in : e < length m.half_edges
  pub twin_in : rev e < length m.half_edges
  pub there_in : next m e < length m.half_edges
  pub back_in : next m (next m e) < length m.half_edges
  pub before_in : prev m (rev e) < length m.half_edges
  pub back_is : next m (next m e) ≡ rev (next m e)
  pub there_back : prev m (next m (next m e)) ≡ next m e
  pub there_prev : prev m (next m e) ≡ e
  pub before_next : next m (prev m (rev e)) ≡ rev e
  pub start : origin m (next m e) ≡ origin m (rev e)
  pub edge-twin : e ≢ rev e
  pub edge-before : e ≢ prev m (rev e)
  pub edge-there : e ≢ next m e
  pub edge-back : e ≢ next m (next m e)
  pub before-there : prev m (rev e) ≢ next m e
  pub before-twin : prev m (rev e) ≢ rev e
  pub there-back : next m e ≢ next m (next m e)
  pub back-there : next m (next m e) ≢ next m e
  pub back-twin : next m (next m e) ≢ rev e
  pub there-twin : next m e ≢ rev e

-- where an edge can be moved to the far end of the next one, the edges beside it are in the mesh
-- and differ
pub tail : (m : Mesh) (e : ℕ) → AreSoundLinks m → IsSlidable m e → IsTail m e
tail m e s can =
    let here = s.edges e can.within in
    let there = s.edges (next m e) here.next_in in
    let twin_in : rev e < length m.half_edges = rev_within e _ s.even can.within in
    let twin = s.edges (rev e) twin_in in
    let off_twin : next m (next m e) ≢ rev e =
    λ q. here.proper (sym (rev-rev (next m e)) ∙ ap rev (sym can.pendant ∙ q) ∙ rev-rev e) in
    let edge_twin : e ≢ rev e = λ q. rev_differs e (sym q) in
    let edge_before : e ≢ prev m (rev e) = λ q. can.apart (ap (next m) q ∙ twin.next_prev) in
    let edge_there : e ≢ next m e = λ q. here.proper (sym q) in
    let edge_back : e ≢ next m (next m e) =
    λ q. can.apart (sym (rev-rev (next m e)) ∙ ap rev (sym (q ∙ can.pendant))) in
    let before_there : prev m (rev e) ≢ next m e =
    λ q. off_twin (ap (next m) (sym q) ∙ twin.next_prev) in
    let before_twin : prev m (rev e) ≢ rev e =
    λ q. twin.proper (ap (next m) (sym q) ∙ twin.next_prev) in
    let there_back : next m e ≢ next m (next m e) = λ q. there.proper (sym q) in
    assumption

-- the edges beside an edge that can be moved are those that the writes to the list ask for
pub slid_places : (m : Mesh) (e : ℕ) → AreSoundLinks m → IsSlidable m e
    → AreSlidPlaces m.half_edges e (rev e) (next m e) (next m (next m e)) (prev m (rev e))
slid_places m e s can = let t = tail m e s can in assumption t

-- an edge that is moved to the far end of the next one changes the links beside it, and no others
pub slides : (m : Mesh) (e : ℕ) → AreSoundLinks m → IsSlidable m e
    → Slides m (slid m e) e (next m e) (next m (next m e))
unfolding slid slid_edges
slides m e s can =
    let t = tail m e s can in
    let r = relinks m.half_edges e (rev e) (next m e) (next m (next m e)) (prev m (rev e))
    (next m (next m e)) (next m e) (rev e) e (prev m (rev e)) (next m e)
    (origin m (next m (next m e))) can.within t.twin_in t.there_in t.back_in t.before_in
    t.edge-before t.edge-there t.before-there t.back-there t.back-twin t.there-twin in
    let count = length-set m.out_edges (origin m (next m e)) (Some (next m e)) in
    let out = get_or-set_same m.out_edges (origin m (next m e)) (Some (next m e)) None
    (s.edges (next m e) t.there_in).origin_in in
    let others =
    λ (u : ℕ). get_or-set_other m.out_edges (origin m (next m e)) u (Some (next m e)) None in
    assumption (r, count, out, others)

module _ (m new : Mesh) (e : ℕ) (s : AreSoundLinks m) (can : IsSlidable m e)
    (i : Slides m new e (next m e) (next m (next m e))) where
  -- the edges beside e
  t : IsTail m e
  t = tail m e s can

  -- the edge after e goes from behind e to before the other side of e, which starts at its far end
  pub line_slides : IsLineMove m new e (next m (next m e)) (next m e) e (next m (next m e))
      (prev m (rev e)) (rev e)
  line_slides =
      let rev_kept = λ (h : ℕ) (within : h < length m.half_edges) (off : h ≢ e). i.other_origins
      (rev h) (rev_within h _ s.even within) (λ q. off (rev_same h e q)) in
      let starts_q : origin new (next m (next m e)) ≡ origin new (rev e) =
      i.other_origins _ t.back_in t.back-twin ∙ sym i.origin_twin in
      let starts_k : origin new (next m e) ≡ origin new (rev (prev m (rev e))) =
      i.other_origins _ t.there_in t.there-twin ∙ t.start ∙ sym (ap (origin m) t.before_next)
      ∙ (s.edges _ t.before_in).starts
      ∙ sym (rev_kept _ t.before_in (λ q. t.edge-before (sym q))) in
      let starts_a : origin new (rev e) ≡ origin new (rev (next m e)) =
      i.origin_twin ∙ ap (origin m) t.back_is
      ∙ sym (rev_kept _ t.there_in (λ q. t.edge-there (sym q))) in
      let edge_named : (e ≡ e) ⊎ (e ≡ prev m (rev e)) = inl refl in
      let before_named : (prev m (rev e) ≡ prev m (rev e)) ⊎ (prev m (rev e) ≡ next m e) =
      inl refl in
      assumption t

  -- a sound mesh stays sound when an edge is moved to the far end of the next one
  pub sound_after_slide : AreSoundLinks new
  sound_after_slide = sound_moved m new _ _ _ _ _ _ _ s line_slides

  -- the outer face keeps one loop when an edge is moved to the far end of the next one
  pub outline_slid : KeepsOneOutline m new
  outline_slid = outline_moved m new _ _ _ _ _ _ _ s line_slides

  -- an edge that is moved to the far end of the next one gets that end; no other ends change
  pub ends_slid : MovesEdge m new e (origin m e) (origin m (next m (next m e)))
  ends_slid = ends_move m new _ _ _ _ _ _ _ s line_slides

  -- the other side of e stands between the two sides of the edge after e now, round its vertex
  turns : IsMoved (star_walk m) (star_walk new) (rev e) (next m e) (rev (prev m (rev e)))
      (next m (next m e)) (rev (next m e))
  turns = record {
    there = λ h within. rw i.edge_count within;
    back = λ h within. rw i.edge_count at within;
    labels = i.other_origins;
    at_r = i.origin_twin;
    t_in = t.twin_in;
    p_in = t.there_in;
    r_in = t.back_in;
    was_after = ap rev t.there_prev;
    was_before = refl;
    were_joined = ap rev t.there_back;
    are_joined = ap rev i.prev_there;
    is_after = ap rev i.prev_back;
    is_before = ap rev i.prev_twin;
    p_off = t.there-twin;
    q_off = λ q. t.edge-before (sym (rev_same (prev m (rev e)) e q));
    r_off = t.back-twin;
    s_off = λ q. t.edge-there (sym (rev_same (next m e) e q));
    other = λ h within off_k off_l off_t. (
      ap rev (i.other_prev h within off_l off_k off_t),
      λ q. off_k (sym (s.edges h within).next_prev ∙ ap (next m) (rev_same (prev m h) e q)),
    );
  }

  -- each vertex keeps one round of edges when an edge is moved to the far end of the next one
  pub stars_slid : HasStars m → HasStars new
  stars_slid = stars_exchanged m new s _ _ _
      (exchange_moved (star_walk m) (star_walk new) _ _ _ _ _ turns)

  -- no edge joins a vertex to itself once an edge is moved: it starts at no vertex with one edge
  pub apart_slid : HasStars m → HasApartEnds m → HasApartEnds new
  apart_slid stars = apart_moved m new _ _ _ _ _ _ _ s line_slides (λ same.
      let l : ℕ = next m (next m e) in
      let turned : rev (prev m l) ≡ l = ap rev t.there_back ∙ sym t.back_is in
      let closed : IsClosed m (λ k. k == l) = λ h within is. eq-eqb (rev (prev m h)) l
      (ap (λ k. rev (prev m k)) (eqb-true h l is) ∙ turned) in
      t.edge-back (eqb-true e l (stars (λ k. k == l) closed l e t.back_in can.within (sym same)
      (eq-eqb l l refl))))
