-- Edges are taken out among the records.
-- Lemmas: shows_unlinked, shows_filled.
use Rattle.std.proofs.Common.{◌≡◌, ◌≢◌, ◌+◌, ◌%◌, ◌<◌, ◌≤◌, ◌∙◌}
use Rattle.std.proofs.Common.{ℕ, List, length, get_or, set, refl, sym, ap, inl, inr, arith}
use Rattle.std.proofs.lemmas.Bool.{cases_eq}
use Rattle.std.proofs.lemmas.List.{get_or-set_same, get_or-set_other, length-set}
use Rattle.std.specs.List.{swap_remove}
use Rattle.half_edge_links.specs.{AreJoined, edge_at, HalfEdge, no_edge, no_stored, pair_moved}
use Rattle.half_edge_links.specs.{shown, stored_at, stored_joined, stored_next, stored_prev}
use Rattle.half_edge_links.specs.{StoredEdge, with_unlinked}
use Rattle.half_edge_links.specs.{Places.AreUnlinkedPlaces, Places.IsHole, Remove.with_filled}
use Rattle.half_edge_links.proofs.{Lists.Cases.◌or_else◌, Removing.OpenSound.length-swap_remove}
use Rattle.half_edge_links.proofs.Removing.FillSound.{count_written, new_left, next_written}
use Rattle.half_edge_links.proofs.Removing.FillSound.{old_left, origin_written, pair_written}
use Rattle.half_edge_links.proofs.{Removing.FillSound.two_filled, Removing.UnlinkSound.prev_of}
use Rattle.half_edge_links.proofs.Removing.UnlinkSound.{both, length_both, next_both}
use Rattle.half_edge_links.proofs.Removing.UnlinkSound.{next_both_other, next_of, origin_both}
use Rattle.half_edge_links.proofs.Sound.FieldWrites.{next_link, origin_link}
use Rattle.half_edge_links.proofs.Stored.Keeps.{apart_joined, corner_at, corner_shown, corners_of}
use Rattle.half_edge_links.proofs.Stored.Keeps.{count_corners, keeps_joined, keeps_next, keeps_prev}
use Rattle.half_edge_links.proofs.Stored.Keeps.{keeps_remove, keeps_shown, SayOrigins, shown_is}
use Rattle.half_edge_links.proofs.Stored.Keeps.{Stores}
use Rattle.half_edge_links.proofs.Stored.Shown.{next_shown, prev_shown}

module _ (hs : List HalfEdge) (cs : List ℕ) (e t : ℕ) (j : AreJoined hs)
    (u : AreUnlinkedPlaces hs e t) (count : length cs ≡ length hs) (say : SayOrigins hs cs) where
  abbrev p : ℕ
  p = prev_of hs e

  abbrev q : ℕ
  q = next_of hs e

  abbrev x : ℕ
  x = prev_of hs t

  abbrev y : ℕ
  y = next_of hs t

  -- where edge h starts
  abbrev at : ℕ → ℕ
  at h = (edge_at hs h).origin

  abbrev unlinked_corners : List ℕ
  unlinked_corners = set (set (set (set cs y (at p)) q (at x)) e (at e)) t (at t)

  say_unlinked : SayOrigins (with_unlinked hs e t) unlinked_corners
  unfolding with_unlinked
  say_unlinked h new_in =
      let a : List HalfEdge = both hs p y y p in
      let b : List HalfEdge = both a x q q x in
      let c : List HalfEdge = both b e e e e in
      let d : List HalfEdge = both c t t t t in
      let na : length a ≡ length hs = length_both hs p y y p in
      let nb : length b ≡ length hs = length_both a x q q x ∙ na in
      let nc : length c ≡ length hs = length_both b e e e e ∙ nb in
      let within : h < length hs = rw (length_both c t t t t ∙ nc) at new_in in
      let origin_is : (edge_at d h).origin ≡ at h = origin_both c t t t t h
      ∙ origin_both b e e e e h ∙ origin_both a x q q x h ∙ origin_both hs p y y p h in
      let p_in : p < length hs = j.prev_in e u.edge_in in
      let x_in : x < length hs = j.prev_in t u.twin_in in
      let after_p : next_of hs p ≡ e = j.next_prev e u.edge_in in
      let after_x : next_of hs x ≡ t = j.next_prev t u.twin_in in
      let p_x : p ≢ x = λ z. u.differ (sym after_p ∙ ap (next_of hs) z ∙ after_x) in
      let y_q : y ≢ q = λ z. u.differ (sym (apart_joined hs j t e u.twin_in u.edge_in z)) in
      let c1 : List ℕ = set cs y (at p) in
      let c2 : List ℕ = set c1 q (at x) in
      let c3 : List ℕ = set c2 e (at e) in
      let n1 : length c1 ≡ length hs = length-set cs y _ ∙ count in
      let n2 : length c2 ≡ length hs = length-set c1 q _ ∙ n1 in
      let n3 : length c3 ≡ length hs = length-set c2 e _ ∙ n2 in
      rw origin_is
      (elim (cases_eq h e or_else cases_eq h t or_else cases_eq h p or_else cases_eq h x) [
        | inl is ↦
            rw (is, next_both_other c t t t t e u.differ ∙ next_both b e e e e (rw nb u.edge_in))
            (get_or-set_other c3 t e _ 0 u.differ ∙ get_or-set_same c2 e _ 0 (rw n2 u.edge_in))
        | inr (_, inl is) ↦ rw (is, next_both c t t t t (rw nc u.twin_in))
            (get_or-set_same c3 t _ 0 (rw n3 u.twin_in))
        | inr (h_e, inr (h_t, inl is)) ↦
            let p_t : p ≢ t = λ z. h_t (is ∙ z) in
            let y_e : y ≢ e = λ z. p_t (ap (prev_of hs) (sym z) ∙ j.prev_next t u.twin_in) in
            rw (
              is,
              next_both_other c t t t t p p_t ∙ next_both_other b e e e e p
                  (λ z. h_e (is ∙ z)) ∙ next_both_other a x q q x p p_x ∙ next_both hs p y y p p_in,
            ) (
            get_or-set_other c3 t y _ 0 u.twin_proper ∙ get_or-set_other c2 e y _ 0 y_e
            ∙ get_or-set_other c1 q y _ 0 y_q
            ∙ get_or-set_same cs y _ 0 (rw count (j.next_in t u.twin_in)))
        | inr (h_e, inr (h_t, inr (h_p, inl is))) ↦
            let x_e : x ≢ e = λ z. h_e (is ∙ z) in
            let q_t : q ≢ t = λ z. x_e (ap (prev_of hs) (sym z) ∙ j.prev_next e u.edge_in) in
            rw (
              is,
              next_both_other c t t t t x (λ z. h_t (is ∙ z))
                  ∙ next_both_other b e e e e x x_e ∙ next_both a x q q x (rw na x_in),
            ) (
            get_or-set_other c3 t q _ 0 q_t ∙ get_or-set_other c2 e q _ 0 u.edge_proper
            ∙ get_or-set_same c1 q _ 0 (rw n1 (j.next_in e u.edge_in)))
        | inr (h_e, inr (h_t, inr (h_p, inr h_x))) ↦
            let n : ℕ = next_of hs h in
            let off = λ (k m : ℕ) (k_in : k < length hs) (after : next_of hs k ≡ m) (differs :
            h ≢ k) (same : n ≡ m). differs
            (apart_joined hs j h k within k_in (same ∙ sym after)) in
            rw (next_both_other c t t t t h h_t ∙ next_both_other b e e e e h h_e
            ∙ next_both_other a x q q x h h_x ∙ next_both_other hs p y y p h h_p) (
            get_or-set_other c3 t n _ 0 (off x t x_in after_x h_x)
            ∙ get_or-set_other c2 e n _ 0 (off p e p_in after_p h_p)
            ∙ get_or-set_other c1 q n _ 0 (off e q u.edge_in refl h_e)
            ∙ get_or-set_other cs y n _ 0 (off t y u.twin_in refl h_t)
            ∙ say h within)
      ])

-- the records after an edge was taken out of its loops show it
pub shows_unlinked : (rs : List StoredEdge) (e t : ℕ) → AreJoined (shown rs)
    → AreUnlinkedPlaces (shown rs) e t →
    (let edge = stored_at rs e in let twin = stored_at rs t in
    shown (stored_joined (stored_joined (stored_joined (stored_joined rs edge.prev twin.next
    edge.prev_origin) twin.prev edge.next twin.prev_origin) e e
    (stored_at rs edge.next).prev_origin) t t (stored_at rs twin.next).prev_origin)
    ≡ with_unlinked (shown rs) e t)
unfolding with_unlinked
shows_unlinked rs e t j u =
    rw (
      corner_at rs _ e (j.prev_in e u.edge_in) (j.next_prev e u.edge_in),
      corner_at rs _ t (j.prev_in t u.twin_in) (j.next_prev t u.twin_in),
      corner_at rs e _ u.edge_in (next_shown rs e),
      corner_at rs t _ u.twin_in (next_shown rs t),
      ← (next_shown rs e),
      ← (next_shown rs t),
      ← (prev_shown rs e),
      ← (prev_shown rs t),
    ) (
    shown_is _ _ _ (keeps_joined _ _ _ (keeps_joined _ _ _ (keeps_joined _ _ _ (keeps_joined _ _ _
    (keeps_shown rs) _ _ _) _ _ _) e e _) t t _) (
    say_unlinked (shown rs) (corners_of rs) e t j u (count_corners rs) (corner_shown rs)))

module _ (hs : List HalfEdge) (cs : List ℕ) (last hole : ℕ) (j : AreJoined hs) (at_last : length hs
    ≡ last + 2) (i : IsHole hs hole) (count : length cs ≡ length hs) (say : SayOrigins hs cs) where
  abbrev filled_corners : List ℕ
  filled_corners = swap_remove (swap_remove cs (hole + 1) 0) hole 0

  say_filled : SayOrigins (with_filled hs last hole) filled_corners
  unfolding with_filled
  say_filled h new_in =
      let even = i.even in
      let hole_even = i.hole_even in
      let hole_in = i.within in
      let last_even : last % 2 ≡ 0 = omega arith in
      let below : hole ≤ last = omega arith in
      let written : List HalfEdge = pair_written hs last hole in
      let n_written : length written ≡ last + 2 = count_written hs last hole j at_last in
      let within : h < last =
      omega (
        arith,
        length-swap_remove (swap_remove written (hole + 1) no_edge) hole no_edge,
        length-swap_remove written (hole + 1) no_edge,
      ) in
      let g : ℕ = pair_moved hole last h in
      let live = old_left last hole last_even hole_even below h within in
      let g_in : g < length hs = rw at_last live.0 in
      let at : edge_at (with_filled hs last hole) h ≡ edge_at written g =
      two_filled last hole last_even hole_even below written no_edge h n_written within in
      let off : next_of hs g ≢ hole =
      λ z. live.1 (apart_joined hs j g hole g_in (omega arith) (z ∙ sym i.next_self)) in
      let off_twin : next_of hs g ≢ hole + 1 =
      λ z. live.2 (apart_joined hs j g (hole + 1) g_in hole_in (z ∙ sym i.twin_next_self)) in
      let k = new_left last hole last_even hole_even below (next_of hs g)
      (rw at_last at (j.next_in g g_in)) off off_twin in
      let n_cs : length cs ≡ last + 2 = count ∙ at_last in
      rw (
        ap next_link at ∙ next_written hs last hole j at_last g g_in,
        ap origin_link at ∙ origin_written hs last hole j at_last g,
      ) (
      two_filled last hole last_even hole_even below cs 0
      (pair_moved last hole (next_of hs g)) n_cs k.0 ∙ ap (λ q. get_or cs q 0) k.1 ∙ say g g_in)

-- the records after the last edge took the place of another show it
pub shows_filled : (rs : List StoredEdge) (last hole : ℕ) → AreJoined (shown rs)
    → length (shown rs) ≡ last + 2 → IsHole (shown rs) hole →
    (let hs = shown rs in let even = edge_at hs last in let odd = edge_at hs (last + 1) in
    shown (swap_remove (swap_remove
    (stored_prev (stored_next (stored_prev (stored_next rs even.prev hole) even.next hole)
    odd.prev (hole + 1)) odd.next (hole + 1)) (hole + 1) no_stored) hole no_stored)
    ≡ with_filled hs last hole)
unfolding with_filled
shows_filled rs last hole j at_last i =
    let hs : List HalfEdge = shown rs in
    let even : HalfEdge = edge_at hs last in
    let odd : HalfEdge = edge_at hs (last + 1) in
    let written : List StoredEdge =
    stored_prev (stored_next (stored_prev (stored_next rs even.prev hole) even.next hole)
    odd.prev (hole + 1)) odd.next (hole + 1) in
    let k : Stores written (pair_written hs last hole) (corners_of rs) = keeps_prev _ _ _
    (keeps_next _ _ _ (keeps_prev _ _ _ (keeps_next _ _ _ (keeps_shown rs) _ _) _ _) _ _) _ _ in
    let hole_in = i.within in
    let count : length written ≡ length hs =
    sym k.links.count ∙ count_written hs last hole j at_last ∙ sym at_last in
    shown_is _ _ _ (keeps_remove _ _ _ (keeps_remove _ _ _ k (hole + 1) (rw count hole_in)) hole
    (rw length-swap_remove (omega arith))) (
    say_filled (shown rs) (corners_of rs) last hole j at_last i (count_corners rs)
    (corner_shown rs))
