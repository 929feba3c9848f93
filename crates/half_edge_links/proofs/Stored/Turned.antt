-- An edge is turned among the records.
-- Notions: GoRound, StartAt, written; say_turned, shows_turned.
use Rattle.std.proofs.Common.{◌≡◌, ◌≢◌, ℕ, ◌<◌, List, length, get_or, set, refl, sym, ◌∙◌, inl, inr}
use Rattle.std.proofs.lemmas.Bool.{cases_eq}
use Rattle.half_edge_links.specs.{AreJoined, AreSixPlaces, edge_at, HalfEdge, IsLoopOfThree}
use Rattle.half_edge_links.specs.{Flip.turn_by, no_edge, shown, StoredEdge}
use Rattle.half_edge_links.proofs.Lists.Cases.{◌or_else◌}
use Rattle.half_edge_links.proofs.Lists.Writes.{get_or-set_six_a, get_or-set_six_b}
use Rattle.half_edge_links.proofs.Lists.Writes.{get_or-set_six_c, get_or-set_six_d}
use Rattle.half_edge_links.proofs.Lists.Writes.{get_or-set_six_e, get_or-set_six_f}
use Rattle.half_edge_links.proofs.Lists.Writes.{get_or-set_six_other, length-set_six}
use Rattle.half_edge_links.proofs.Stored.Keeps.{apart_joined, corner_shown, corners_of}
use Rattle.half_edge_links.proofs.Stored.Keeps.{count_corners, HaveOwnNexts, keeps_set, keeps_shown}
use Rattle.half_edge_links.proofs.Stored.Keeps.{SayOrigins, shown_is}

-- six directed edges follow each other round two triangles
pub record GoRound (hs : List HalfEdge) (e t en tn ep tp : ℕ) : Type 0 where
  pub after_e : (edge_at hs e).next ≡ en
  pub after_en : (edge_at hs en).next ≡ ep
  pub after_ep : (edge_at hs ep).next ≡ e
  pub after_t : (edge_at hs t).next ≡ tn
  pub after_tn : (edge_at hs tn).next ≡ tp
  pub after_tp : (edge_at hs tp).next ≡ t

-- where four edges start
pub record StartAt (hs : List HalfEdge) (en tn ep tp end start left right : ℕ) : Type 0 where
  pub end_is : end ≡ (edge_at hs en).origin
  pub start_is : start ≡ (edge_at hs tn).origin
  pub left_is : left ≡ (edge_at hs ep).origin
  pub right_is : right ≡ (edge_at hs tp).origin

module _ (hs : List HalfEdge) (cs : List ℕ) (e t en tn ep tp ef tf : ℕ) where
  -- directed edges after edge e, with other side t, was turned
  abbrev turned : List HalfEdge
  turned =
      set (set (set (set (set (set hs
      e (record { origin = (edge_at hs ep).origin; next = tp; prev = en; face = ef }))
      t (record { origin = (edge_at hs tp).origin; next = ep; prev = tn; face = tf }))
      en (record { origin = (edge_at hs en).origin; next = e; prev = tp; face = ef }))
      tn (record { origin = (edge_at hs tn).origin; next = t; prev = ep; face = tf }))
      ep (record { origin = (edge_at hs ep).origin; next = tn; prev = t; face = tf }))
      tp (record { origin = (edge_at hs tp).origin; next = en; prev = e; face = ef })

  module _ (end start left right : ℕ) where
    -- where the edges before those of the list start, once the edge was turned
    abbrev pub written : List ℕ
    written = set (set (set (set (set (set cs e end) t start) en right) tn left) ep right) tp left

    module _ (six : AreSixPlaces (length hs) e t en tn ep tp) (round : GoRound hs e t en tn ep tp)
        (count : length cs ≡ length hs) (apart : HaveOwnNexts hs) (say : SayOrigins hs cs)
        (at : StartAt hs en tn ep tp end start left right) where
      six_cs : AreSixPlaces (length cs) e t en tn ep tp
      six_cs = rw count six

      -- an edge has this next one, whose record says where it starts
      at_edge : (h n o : ℕ) (r : HalfEdge) → edge_at turned h ≡ r → r.next ≡ n → r.origin ≡ o
          → get_or written n 0 ≡ o
          → get_or written (edge_at turned h).next 0 ≡ (edge_at turned h).origin
      at_edge h n o r is next_is origin_is said = rw (is, next_is, origin_is) said

      -- what comes after one edge comes after no other
      off : (h k n : ℕ) → h < length hs → k < length hs → (edge_at hs k).next ≡ n → h ≢ k
          → (edge_at hs h).next ≢ n
      off h k n h_in k_in is differs = λ same. differs (apart h k h_in k_in (same ∙ sym is))

      -- the records say of each edge where it starts, once one was turned
      pub say_turned : SayOrigins turned written
      say_turned h new_in =
          let p = six_cs in
          let within : h < length hs = rw length-set_six at new_in in
          elim (cases_eq h e or_else cases_eq h t or_else cases_eq h en or_else cases_eq h tn
          or_else cases_eq h ep or_else cases_eq h tp) [
            | inl is ↦ rw is (at_edge e tp _ _ (get_or-set_six_a _ _ _ _ _ _ _ _ _ _ _ _ _ no_edge
                six) refl refl (get_or-set_six_f _ _ _ _ _ _ _ _ _ _ _ _ _ 0 p ∙ at.left_is))
            | inr (_, inl is) ↦
                rw is (at_edge t ep _ _ (get_or-set_six_b _ _ _ _ _ _ _ _ _ _ _ _ _ no_edge six)
                refl refl (get_or-set_six_e _ _ _ _ _ _ _ _ _ _ _ _ _ 0 p ∙ at.right_is))
            | inr (_, inr (_, inl is)) ↦
                rw is (at_edge en e _ _ (get_or-set_six_c _ _ _ _ _ _ _ _ _ _ _ _ _ no_edge six)
                refl refl (get_or-set_six_a _ _ _ _ _ _ _ _ _ _ _ _ _ 0 p ∙ at.end_is))
            | inr (_, inr (_, inr (_, inl is))) ↦
                rw is (at_edge tn t _ _ (get_or-set_six_d _ _ _ _ _ _ _ _ _ _ _ _ _ no_edge six)
                refl refl (get_or-set_six_b _ _ _ _ _ _ _ _ _ _ _ _ _ 0 p ∙ at.start_is))
            | inr (_, inr (_, inr (_, inr (_, inl is)))) ↦
                rw is (at_edge ep tn _ _ (get_or-set_six_e _ _ _ _ _ _ _ _ _ _ _ _ _ no_edge six)
                refl refl (get_or-set_six_d _ _ _ _ _ _ _ _ _ _ _ _ _ 0 p ∙ at.left_is))
            | inr (_, inr (_, inr (_, inr (_, inr (_, inl is))))) ↦
                rw is (at_edge tp en _ _ (get_or-set_six_f _ _ _ _ _ _ _ _ _ _ _ _ _ no_edge six)
                refl refl (get_or-set_six_c _ _ _ _ _ _ _ _ _ _ _ _ _ 0 p ∙ at.right_is))
            | inr (h1, inr (h2, inr (h3, inr (h4, inr (h5, inr h6))))) ↦
                rw (get_or-set_six_other _ _ _ _ _ _ _ _ _ _ _ _ _ no_edge h h1 h2 h3 h4 h5 h6) (
                get_or-set_six_other _ _ _ _ _ _ _ _ _ _ _ _ _ 0 (edge_at hs h).next
                (off h ep e within six.e_in round.after_ep h5) (off h tp t within six.f_in
                round.after_tp h6) (off h e en within six.a_in round.after_e h1)
                (off h t tn within six.b_in round.after_t h2) (off h en ep within six.c_in
                round.after_en h3) (off h tn tp within six.d_in round.after_tn h4)
                ∙ say h within)
          ]

-- the records after an edge was turned, with these six edges round it, show what the turn makes
turned_records : (rs : List StoredEdge) (e t en tn ep tp ef tf : ℕ) → AreJoined (shown rs)
    → AreSixPlaces (length (shown rs)) e t en tn ep tp → GoRound (shown rs) e t en tn ep tp →
    (edge_at (shown rs) tn).origin ≡ (edge_at (shown rs) e).origin
    → (edge_at (shown rs) en).origin ≡ (edge_at (shown rs) t).origin →
    (let hs = shown rs in let left = (edge_at hs ep).origin in let right = (edge_at hs tp).origin in
    shown (set (set (set (set (set (set rs
    e (record { prev_origin = (edge_at hs t).origin; next = tp; prev = en; face = ef }))
    t (record { prev_origin = (edge_at hs e).origin; next = ep; prev = tn; face = tf }))
    en (record { prev_origin = right; next = e; prev = tp; face = ef }))
    tn (record { prev_origin = left; next = t; prev = ep; face = tf }))
    ep (record { prev_origin = right; next = tn; prev = t; face = tf }))
    tp (record { prev_origin = left; next = en; prev = e; face = ef }))
    ≡ turned hs (corners_of rs) e t en tn ep tp ef tf)
turned_records rs e t en tn ep tp ef tf j six round start end =
    shown_is _ _ _ (
    keeps_set _ _ _ (keeps_set _ _ _ (keeps_set _ _ _ (keeps_set _ _ _ (keeps_set _ _ _
    (keeps_set _ _ _ (keeps_shown rs) e _ _ _ _ _) t _ _ _ _ _) en _ _ _ _ _) tn _ _ _ _ _) ep _
    _ _ _ _) tp _ _ _ _ _) (
    say_turned (shown rs) (corners_of rs) e t en tn ep tp ef tf _ _ _ _ six round (count_corners rs)
    (apart_joined (shown rs) j) (corner_shown rs) (record {
      end_is = sym end;
      start_is = sym start;
      left_is = refl;
      right_is = refl;
    }))

module _ (rs : List StoredEdge) (e t : ℕ) (j : AreJoined (shown rs))
    (a : IsLoopOfThree (shown rs) e) (b : IsLoopOfThree (shown rs) t) where
  -- the records after an edge was turned show what the turn makes
  pub shows_turned : (let hs = shown rs in let edge = edge_at hs e in let twin = edge_at hs t in
      AreSixPlaces (length hs) e t edge.next twin.next edge.prev twin.prev) →
      (let hs = shown rs in (edge_at hs (edge_at hs t).next).origin ≡ (edge_at hs e).origin)
      → (let hs = shown rs in (edge_at hs (edge_at hs e).next).origin ≡ (edge_at hs t).origin) →
      (let hs = shown rs in let edge = edge_at hs e in let twin = edge_at hs t in
      let left = (edge_at hs edge.prev).origin in let right = (edge_at hs twin.prev).origin in
      shown (set (set (set (set (set (set rs
      e
      (record { prev_origin = twin.origin; next = twin.prev; prev = edge.next; face = edge.face }))
      t
      (record { prev_origin = edge.origin; next = edge.prev; prev = twin.next; face = twin.face }))
      edge.next (record { prev_origin = right; next = e; prev = twin.prev; face = edge.face }))
      twin.next (record { prev_origin = left; next = t; prev = edge.prev; face = twin.face }))
      edge.prev (record { prev_origin = right; next = twin.next; prev = t; face = twin.face }))
      twin.prev (record { prev_origin = left; next = edge.next; prev = e; face = edge.face }))
      ≡ turn_by hs e t edge twin (edge_at hs edge.next) (edge_at hs edge.prev)
      (edge_at hs twin.next) (edge_at hs twin.prev))
  shows_turned six start end =
      let round : GoRound (shown rs) e t (edge_at (shown rs) e).next (edge_at (shown rs) t).next
      (edge_at (shown rs) e).prev (edge_at (shown rs) t).prev = record {
        after_e = refl;
        after_en = a.three;
        after_ep = j.next_prev e a.within;
        after_t = refl;
        after_tn = b.three;
        after_tp = j.next_prev t b.within;
      } in
      turned_records rs e t _ _ _ _ (edge_at (shown rs) e).face (edge_at (shown rs) t).face j six
      round start end
