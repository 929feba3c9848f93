-- Single links are written among the records.
-- Lemmas: shows_loop_face, shows_origin, shows_first.
use Rattle.std.proofs.Common.{◌≡◌, ◌<◌, [], ◌∷◌, ◌++◌, ◌∙◌}
use Rattle.std.proofs.Common.{ℕ, List, length, refl, sym, ap, inl, inr}
use Rattle.std.proofs.lemmas.Bool.{cases_eq}
use Rattle.std.proofs.lemmas.List.{get_or-set_same, get_or-set_other}
use Rattle.half_edge_links.specs.{AreJoined, edge_at, HalfEdge, shown, stored_corner, stored_face}
use Rattle.half_edge_links.specs.{Remove.IsLinkedWithin, StoredEdge, with_loop_face, with_origin}
use Rattle.half_edge_links.proofs.Sound.FieldWrites.{next_link, origin_link, sets_loop_face}
use Rattle.half_edge_links.proofs.Sound.FieldWrites.{writes_origin}
use Rattle.half_edge_links.proofs.Stored.Keeps.{apart_joined, corner_shown, corners_of}
use Rattle.half_edge_links.proofs.Stored.Keeps.{count_corners, keeps_corner, keeps_face}
use Rattle.half_edge_links.proofs.Stored.Keeps.{keeps_origin, keeps_shown, shown_is}

-- a face that is written in the records of a loop is shown there
pub shows_loop_face : (rs : List StoredEdge) (h f : ℕ) → IsLinkedWithin (shown rs) h →
    (let edge = edge_at (shown rs) h in
    shown (stored_face (stored_face (stored_face rs h f) edge.next f) edge.prev f)
    ≡ with_loop_face (shown rs) h f)
unfolding with_loop_face
shows_loop_face rs h f linked =
    let w = sets_loop_face (shown rs) h f linked.edge linked.next linked.prev in
    shown_is _ (with_loop_face (shown rs) h f) (corners_of rs) (keeps_face _ _ _
    (keeps_face _ _ _ (keeps_face _ _ _ (keeps_shown rs) h f) _ f) _ f) (λ k within.
    rw (w.next k, w.origin k) (corner_shown rs k (rw w.count at within)))

-- where the record after an edge has a new origin, the edge starts there
pub shows_origin : (rs : List StoredEdge) (h v : ℕ) → AreJoined (shown rs) → h < length (shown rs)
    → shown (stored_corner rs (edge_at (shown rs) h).next v) ≡ with_origin (shown rs) h v
shows_origin rs h v j h_in =
    let w = writes_origin (shown rs) h v in
    let hs : List HalfEdge = shown rs in
    let cs : List ℕ = corners_of rs in
    shown_is _ (with_origin hs h v) _ (keeps_corner _ _ _ (keeps_origin _ _ _ (keeps_shown rs) h v)
    (edge_at hs h).next v) (λ k within.
    let k_in : k < length hs = rw w.count at within in
    rw (w.kept next_link refl k) (elim (cases_eq k h) [
      | inl is ↦ rw is (get_or-set_same cs (edge_at hs h).next v 0
          (rw (count_corners rs) (j.next_in h h_in)) ∙ sym (ap origin_link (w.here h_in)))
      | inr differs ↦ get_or-set_other cs (edge_at hs h).next (edge_at hs k).next v 0
          (λ same. differs (apart_joined hs j k h k_in h_in same)) ∙ corner_shown rs k k_in
          ∙ sym (ap origin_link (w.other k differs))
    ]))

-- the records of the first edge show it
pub shows_first : (rs : List StoredEdge) (a b : ℕ) → shown rs ≡ [] →
    shown (rs ++ record { prev_origin = b; next = 1; prev = 1; face = 0 } ∷ []
    ++ record { prev_origin = a; next = 0; prev = 0; face = 0 } ∷ [])
    ≡ record { origin = a; next = 1; prev = 1; face = 0 }
    ∷ record { origin = b; next = 0; prev = 0; face = 0 } ∷ []
unfolding shown
shows_first [] a b none = refl
shows_first (r ∷ rs) a b none = absurd (cc)
