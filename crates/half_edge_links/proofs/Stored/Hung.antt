-- Edges are hung and closed among the records.
-- Lemmas: shows_hung, shows_closed.
use Rattle.std.proofs.Common.{◌≡◌, ◌≢◌, ◌+◌, ◌<◌, [], ◌∷◌, ◌++◌, ◌∙◌}
use Rattle.std.proofs.Common.{ℕ, List, length, set, sym, ap, inl, inr}
use Rattle.std.proofs.lemmas.Bool.{cases_eq}
use Rattle.std.proofs.lemmas.List.{get_or-set_same, get_or-set_other, length-set}
use Rattle.half_edge_links.specs.{AreJoined, closed_edges, edge_at, HalfEdge, hung_edges, shown}
use Rattle.half_edge_links.specs.{stored_at, stored_corner, stored_face, stored_next, stored_prev}
use Rattle.half_edge_links.proofs.{Growing.CloseReads.closes_edges, Growing.Hang.origin_kept}
use Rattle.half_edge_links.proofs.Growing.Hang.{at_0, at_1, length-hung, next_other, next_x}
use Rattle.half_edge_links.proofs.{Lists.Cases.◌or_else◌, Sound.Parts.grown_cases}
use Rattle.half_edge_links.proofs.Lists.Writes.{two_at_0, two_at_1, two_before}
use Rattle.half_edge_links.proofs.Stored.Keeps.{apart_joined, corner_shown, corners_of}
use Rattle.half_edge_links.proofs.Stored.Keeps.{count_corners, keeps_corner, keeps_face, keeps_next}
use Rattle.half_edge_links.proofs.Stored.Keeps.{keeps_prev, keeps_push, keeps_shown, SayOrigins}
use Rattle.{half_edge_links.proofs.Stored.Keeps.shown_is, half_edge_links.specs.StoredEdge}

module _ (hs : List HalfEdge) (cs : List ℕ) (x v : ℕ) (x_in : x < length hs) (j : AreJoined hs)
    (count : length cs ≡ length hs) (say : SayOrigins hs cs) where
  abbrev y : ℕ
  y = (edge_at hs x).next

  abbrev hung_corners : List ℕ
  hung_corners = set cs y v ++ (edge_at hs x).origin ∷ [] ++ (edge_at hs y).origin ∷ []

  say_hung : SayOrigins (hung_edges hs x y v (length hs)) hung_corners
  say_hung h within =
      let y_in = j.next_in x x_in in
      let n : length (set cs y v) ≡ length hs = length-set cs y v ∙ count in
      elim (grown_cases h (length hs) (rw (length-hung hs x y v x_in y_in) at within)) [
        | inl old ↦ elim (cases_eq h x) [
          | inl is ↦ rw (is, next_x hs x y v x_in y_in, origin_kept hs x y v x_in y_in x x_in)
              (rw n at (two_at_0 (set cs y v) (edge_at hs x).origin (edge_at hs y).origin 0))
          | inr differs ↦ rw
              (next_other hs x y v x_in y_in h old differs, origin_kept hs x y v x_in y_in h old) (
              two_before (set cs y v) _ _ 0 (edge_at hs h).next (rw n (j.next_in h old))
              ∙ get_or-set_other cs y (edge_at hs h).next v 0
              (λ same. differs (apart_joined hs j h x old x_in same))
              ∙ say h old)
        ]
        | inr (inl there) ↦ rw (there, at_0 hs x y v x_in y_in)
            (rw n at (two_at_1 (set cs y v) (edge_at hs x).origin (edge_at hs y).origin 0))
        | inr (inr back) ↦ rw (back, at_1 hs x y v x_in y_in)
            (two_before (set cs y v) _ _ 0 y (rw n y_in) ∙ get_or-set_same cs y v 0 (rw count y_in))
      ]

-- the records after an edge was hung show it
pub shows_hung : (rs : List StoredEdge) (x v n : ℕ) → AreJoined (shown rs) → x < length (shown rs)
    → n ≡ length (shown rs) →
    (let hs = shown rs in let edge = edge_at hs x in
    shown (stored_corner (stored_prev (stored_next rs x n) edge.next (n + 1)) edge.next v
    ++ record { prev_origin = edge.origin; next = n + 1; prev = x; face = edge.face } ∷ []
    ++ record {
      prev_origin = (edge_at hs edge.next).origin;
      next = edge.next;
      prev = n;
      face = edge.face;
    } ∷ [])
    ≡ hung_edges hs x edge.next v (length hs))
unfolding hung_edges
shows_hung rs x v n j x_in count = rw count (shown_is _ _ _ (
    keeps_push _ _ _ (keeps_push _ _ _ (keeps_corner _ _ _
    (keeps_prev _ _ _ (keeps_next _ _ _ (keeps_shown rs) x _) _ _) _ v) _ _ _ _ _) _ _ _ _ _) (
    say_hung (shown rs) (corners_of rs) x v x_in j (count_corners rs) (corner_shown rs)))

module _ (hs : List HalfEdge) (cs : List ℕ) (e g : ℕ) (e_in : e < length hs) (j : AreJoined hs)
    (count : length cs ≡ length hs) (say : SayOrigins hs cs) where
  abbrev k : ℕ
  k = (edge_at hs e).next

  abbrev p : ℕ
  p = (edge_at hs e).prev

  abbrev after : ℕ
  after = (edge_at hs k).next

  abbrev closed_corners : List ℕ
  closed_corners = set (set cs after (edge_at hs e).origin) e (edge_at hs after).origin
      ++ (edge_at hs k).origin ∷ [] ++ (edge_at hs p).origin ∷ []

  say_closed : after ≢ e → SayOrigins (closed_edges hs e k p after (length hs) g) closed_corners
  say_closed apart h within =
      let k_in = j.next_in e e_in in
      let p_in = j.prev_in e e_in in
      let after_in = j.next_in k k_in in
      let p_k : p ≢ k =
      λ same. apart (ap (λ q. (edge_at hs q).next) (sym same) ∙ j.next_prev e e_in) in
      let e_k : e ≢ k = λ same. apart (ap (λ q. (edge_at hs q).next) (sym same) ∙ sym same) in
      let c = closes_edges hs e k p after g e_in k_in p_in after_in p_k apart e_k in
      let one : List ℕ = set cs after (edge_at hs e).origin in
      let two : List ℕ = set one e (edge_at hs after).origin in
      let n : length two ≡ length hs = length-set one e _ ∙ length-set cs after _ ∙ count in
      let e_one : e < length one = rw length-set (rw count e_in) in
      elim (grown_cases h (length hs) (rw c.count at within)) [
        | inl old ↦ elim (cases_eq h p or_else cases_eq h k) [
          | inl is ↦ rw (is, c.next_before, c.origins p p_in)
              (rw n at (two_at_1 two (edge_at hs k).origin (edge_at hs p).origin 0))
          | inr (_, inl is) ↦ rw (is, c.next_second, c.origins k k_in)
              (rw n at (two_at_0 two (edge_at hs k).origin (edge_at hs p).origin 0))
          | inr (h_p, inr h_k) ↦ rw (c.other_next h old h_p h_k, c.origins h old) (
              two_before two _ _ 0 (edge_at hs h).next (rw n (j.next_in h old))
              ∙ get_or-set_other one e (edge_at hs h).next _ 0
              (λ same. h_p (apart_joined hs j h p old p_in (same ∙ sym (j.next_prev e e_in))))
              ∙ get_or-set_other cs after (edge_at hs h).next _ 0
              (λ same. h_k (apart_joined hs j h k old k_in same))
              ∙ say h old)
        ]
        | inr (inl there) ↦ rw (there, c.inside)
            (two_before two _ _ 0 e (rw n e_in) ∙ get_or-set_same one e _ 0 e_one)
        | inr (inr back) ↦
            rw (back, c.outside) (two_before two _ _ 0 after (rw n after_in) ∙ get_or-set_other one
            e after _ 0 apart ∙ get_or-set_same cs after _ 0 (rw count after_in))
      ]

-- the records after a corner was closed show the new face
pub shows_closed : (rs : List StoredEdge) (e n g : ℕ) → AreJoined (shown rs)
    → e < length (shown rs) → n ≡ length (shown rs) →
    (let hs = shown rs in let edge = edge_at hs e in (edge_at hs edge.next).next ≢ e) →
    (let hs = shown rs in let edge = edge_at hs e in let second = edge_at hs edge.next in
    shown (stored_corner
    (stored_corner (stored_face (stored_face (stored_prev (stored_prev (stored_next
    (stored_next rs edge.prev (n + 1)) edge.next n) second.next (n + 1)) e n) e g) edge.next g)
    second.next edge.origin) e (edge_at hs second.next).origin
    ++ record { prev_origin = second.origin; next = e; prev = edge.next; face = g } ∷ []
    ++ record {
      prev_origin = (edge_at hs edge.prev).origin;
      next = second.next;
      prev = edge.prev;
      face = 0;
    } ∷ [])
    ≡ closed_edges hs e edge.next edge.prev second.next (length hs) g)
unfolding closed_edges
shows_closed rs e n g j e_in count off = rw count (shown_is _ _ _ (
    keeps_push _ _ _ (keeps_push _ _ _ (keeps_corner _ _ _ (keeps_corner _ _ _ (
    keeps_face _ _ _ (keeps_face _ _ _ (keeps_prev _ _ _ (keeps_prev _ _ _
    (keeps_next _ _ _ (keeps_next _ _ _ (keeps_shown rs) _ _) _ _) _ _) _ _) _ _) _ _) _ _) _ _)
    _ _ _ _ _) _ _ _ _ _) (
    say_closed (shown rs) (corners_of rs) e g e_in j (count_corners rs) (corner_shown rs) off))
