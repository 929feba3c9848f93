-- Edges are slid and pass a vertex among the records.
-- Notions: AreThree, relinked_corners; say_relinked, shows_slid, shows_passed.
use Rattle.std.proofs.Common.{◌≡◌, ◌≢◌, ℕ, ◌<◌, List, length, set, sym, ap, ◌∙◌, inl, inr}
use Rattle.std.proofs.lemmas.Bool.{cases_eq}
use Rattle.std.proofs.lemmas.List.{get_or-set_same, get_or-set_other, length-set}
use Rattle.half_edge_links.specs.{AreJoined, edge_at, HalfEdge, shown, slid_edges, stored_at}
use Rattle.half_edge_links.specs.{stored_corner, stored_joined, StoredEdge, with_next, with_prev}
use Rattle.half_edge_links.specs.{Pass.passed_edges, Places.ArePassedPlaces, Places.AreSlidPlaces}
use Rattle.half_edge_links.proofs.{Lists.Cases.◌or_else◌, Stored.Keeps.Stores}
use Rattle.half_edge_links.proofs.{Sound.FieldWrites.swap_prevs, Stored.Shown.next_shown}
use Rattle.half_edge_links.proofs.Sound.Relinks.{Relinks, relinks, three_joined}
use Rattle.half_edge_links.proofs.Stored.Keeps.{apart_joined, corner_at, corner_shown, corners_of}
use Rattle.half_edge_links.proofs.Stored.Keeps.{count_corners, keeps_corner, keeps_joined}
use Rattle.half_edge_links.proofs.Stored.Keeps.{keeps_origin, keeps_shown, SayOrigins, shown_is}

-- three places of a list that differ
pub record AreThree (n x y w : ℕ) : Type 0 where
  pub x_in : x < n
  pub y_in : y < n
  pub w_in : w < n
  pub x-y : x ≢ y
  pub x-w : x ≢ w
  pub y-w : y ≢ w

module _ (hs new : List HalfEdge) (cs : List ℕ) (e t k l z x y w p q r o : ℕ)
    (i : Relinks hs new e t k l z x y w p q r o) (j : AreJoined hs) (count : length cs ≡ length hs)
    (say : SayOrigins hs cs) where
  abbrev n_t : ℕ
  n_t = (edge_at hs t).next

  -- where the edges before those of the list start once e, z and k come before x, y and w, and t
  -- starts at o
  abbrev pub relinked_corners : List ℕ
  relinked_corners = set (set (set (set cs x (edge_at hs e).origin) y (edge_at hs z).origin) w
      (edge_at hs k).origin) n_t o

  -- the records say of each edge where it starts, if no other edges than e, z and k came before x,
  -- y and w
  pub say_relinked : e < length hs → t < length hs → k < length hs → z < length hs
      → AreThree (length hs) x y w → t ≢ e → t ≢ z → t ≢ k
      → ((h : ℕ) → h < length hs → h ≢ e → h ≢ z → h ≢ k → ((edge_at hs h).next ≢ x)
      × ((edge_at hs h).next ≢ y) × ((edge_at hs h).next ≢ w)) → SayOrigins new relinked_corners
  say_relinked e_in t_in k_in z_in three t_e t_z t_k off h new_in =
      let within : h < length hs = rw i.count at new_in in
      let a : List ℕ = set cs x (edge_at hs e).origin in
      let b : List ℕ = set a y (edge_at hs z).origin in
      let c : List ℕ = set b w (edge_at hs k).origin in
      let na : length a ≡ length hs = length-set cs x _ ∙ count in
      let nb : length b ≡ length hs = length-set a y _ ∙ na in
      let nc : length c ≡ length hs = length-set b w _ ∙ nb in
      let t_off = off t t_in t_e t_z t_k in
      let past = λ (q : ℕ) (off_x : q ≢ x) (off_y : q ≢ y) (off_w : q ≢ w) (off_t :
      q ≢ n_t). get_or-set_other c n_t q o 0 off_t ∙ get_or-set_other b w q _ 0 off_w
      ∙ get_or-set_other a y q _ 0 off_y ∙ get_or-set_other cs x q _ 0 off_x in
      elim (cases_eq h e or_else cases_eq h z or_else cases_eq h k or_else cases_eq h t) [
        | inl is ↦ rw (is, i.next_e, i.other_origin e e_in (λ q. t_e (sym q))) (
            get_or-set_other c n_t x o 0 (λ q. t_off.0 (sym q))
            ∙ get_or-set_other b w x _ 0 three.x-w ∙ get_or-set_other a y x _ 0 three.x-y
            ∙ get_or-set_same cs x _ 0 (rw count three.x_in))
        | inr (_, inl is) ↦ rw (is, i.next_z, i.other_origin z z_in (λ q. t_z (sym q))) (
            get_or-set_other c n_t y o 0 (λ q. t_off.1 (sym q))
            ∙ get_or-set_other b w y _ 0 three.y-w ∙ get_or-set_same a y _ 0 (rw na three.y_in))
        | inr (_, inr (_, inl is)) ↦ rw (is, i.next_k, i.other_origin k k_in (λ q. t_k (sym q))) (
            get_or-set_other c n_t w o 0 (λ q. t_off.2 (sym q))
            ∙ get_or-set_same b w _ 0 (rw nb three.w_in))
        | inr (_, inr (_, inr (_, inl is))) ↦ rw (is, i.other_next t t_in t_e t_z t_k, i.origin_t)
            (get_or-set_same c n_t o 0 (rw nc (j.next_in t t_in)))
        | inr (h_e, inr (h_z, inr (h_k, inr h_t))) ↦
            let h_off = off h within h_e h_z h_k in
            rw (i.other_next h within h_e h_z h_k, i.other_origin h within h_t) (
            past (edge_at hs h).next h_off.0 h_off.1 h_off.2
            (λ q. h_t (apart_joined hs j h t within t_in q)) ∙ say h within)
      ]

module _ (rs : List StoredEdge) (e t k l z : ℕ) (j : AreJoined (shown rs)) where
  abbrev hs : List HalfEdge
  hs = shown rs

  keeps_three : (x y w : ℕ) → x < length hs → y < length hs
      → Stores (stored_joined (stored_joined (stored_joined rs e x (edge_at hs e).origin) z y
      (edge_at hs z).origin) k w (edge_at hs k).origin)
      (with_prev (with_prev (with_prev (with_next (with_next (with_next hs e x) z y) k w) x e) y z)
      w k) (set (set (set (corners_of rs) x (edge_at hs e).origin) y (edge_at hs z).origin) w
      (edge_at hs k).origin)
  keeps_three x y w x_in y_in = rw (three_joined hs e x z y k w x_in y_in) at (keeps_joined _ _ _
      (keeps_joined _ _ _ (keeps_joined _ _ _ (keeps_shown rs) e x (edge_at hs e).origin) z y
      (edge_at hs z).origin) k w (edge_at hs k).origin)

  -- the records after an edge was slid show it
  pub shows_slid : AreSlidPlaces (shown rs) e t k l z
      → shown (stored_corner (stored_joined (stored_joined (stored_joined rs e l
      (stored_at rs k).prev_origin) z k (stored_at rs t).prev_origin) k t
      (stored_at rs l).prev_origin) (stored_at rs t).next
      (stored_at rs (stored_at rs l).next).prev_origin)
      ≡ slid_edges (shown rs) e t k l z
  unfolding slid_edges
  shows_slid p =
      let k_in : k < length hs = rw p.there_is (j.next_in e p.edge_in) in
      let l_in : l < length hs = rw p.back_is (j.next_in k k_in) in
      let z_in : z < length hs = rw p.before_is (j.prev_in t p.twin_in) in
      let next_z : (edge_at hs z).next ≡ t = rw p.before_is (j.next_prev t p.twin_in) in
      let r = relinks hs e t k l z l k t e z k (edge_at hs l).origin p.edge_in p.twin_in k_in l_in
      z_in p.edge-before p.edge-there p.before-there p.back-there p.back-twin p.there-twin in
      let three : AreThree (length hs) l k t = assumption in
      rw (
        corner_at rs e k p.edge_in (sym p.there_is),
        corner_at rs z t z_in next_z,
        corner_at rs k l k_in (sym p.back_is),
        corner_at rs l _ l_in (next_shown rs l),
        ← (next_shown rs t),
      ) (shown_is _ _ _ (keeps_corner _ _ _ (keeps_origin _ _ _ (keeps_three l k t l_in k_in) _ _)
      _ _) (
      say_relinked hs _ (corners_of rs) e t k l z l k t e z k (edge_at hs l).origin r j
      (count_corners rs) (corner_shown rs) p.edge_in p.twin_in k_in z_in three
      (λ q. p.edge-twin (sym q)) (λ q. p.before-twin (sym q)) (λ q. p.there-twin (sym q))
      (λ h within h_e h_z h_k. (
        λ q. h_k (apart_joined hs j h k within k_in (q ∙ p.back_is)),
        λ q. h_e (apart_joined hs j h e within p.edge_in (q ∙ p.there_is)),
        λ q. h_z (apart_joined hs j h z within z_in (q ∙ sym next_z)),
      ))))

  -- the records after an edge passed a vertex show it
  pub shows_passed : ArePassedPlaces (shown rs) e t k l z
      → shown (stored_corner (stored_joined (stored_joined (stored_joined rs e k
      (stored_at rs l).prev_origin) z t (stored_at rs k).prev_origin) k l
      (stored_at rs t).prev_origin) (stored_at rs t).next (stored_at rs t).prev_origin)
      ≡ passed_edges (shown rs) e t k l z
  unfolding passed_edges
  shows_passed p =
      let l_in : l < length hs = rw p.back_is (j.next_in e p.edge_in) in
      let k_in : k < length hs = rw p.there_is (j.prev_in t p.twin_in) in
      let z_in : z < length hs = rw p.before_is (j.prev_in k k_in) in
      let next_k : (edge_at hs k).next ≡ t = rw p.there_is (j.next_prev t p.twin_in) in
      let next_z : (edge_at hs z).next ≡ k = rw p.before_is (j.next_prev k k_in) in
      let r = relinks hs e t k l z k t l k e z (edge_at hs k).origin p.edge_in p.twin_in k_in l_in
      z_in p.edge-before p.edge-there p.before-there p.back-there p.back-twin p.there-twin in
      let three : AreThree (length hs) k t l = record {
        x_in = k_in;
        y_in = p.twin_in;
        w_in = l_in;
        x-y = p.there-twin;
        x-w = λ q. p.back-there (sym q);
        y-w = λ q. p.back-twin (sym q);
      } in
      let n : List HalfEdge = with_next (with_next (with_next hs e k) z t) k l in
      let order = swap_prevs (with_prev n k e) t z l k (λ q. p.back-twin (sym q))
      ∙ ap (λ q. with_prev q t z) (swap_prevs n k e l k (λ q. p.back-there (sym q))) in
      rw (
        corner_at rs e l p.edge_in (sym p.back_is),
        corner_at rs z k z_in next_z,
        corner_at rs k t k_in next_k,
        ← (next_shown rs t),
      ) (shown_is _ _ _ (keeps_corner _ _ _ (keeps_origin _ _ _ (rw order at
      (keeps_three k t l k_in p.twin_in)) _ _) _ _) (
      say_relinked hs _ (corners_of rs) e t k l z k t l k e z (edge_at hs k).origin r j
      (count_corners rs) (corner_shown rs) p.edge_in p.twin_in k_in z_in three
      (λ q. p.edge-twin (sym q)) (λ q. p.before-twin (sym q)) (λ q. p.there-twin (sym q))
      (λ h within h_e h_z h_k. (
        λ q. h_z (apart_joined hs j h z within z_in (q ∙ sym next_z)),
        λ q. h_k (apart_joined hs j h k within k_in (q ∙ sym next_k)),
        λ q. h_e (apart_joined hs j h e within p.edge_in (q ∙ p.back_is)),
      ))))
