-- What a list of records keeps through writes to it: the links of directed edges, and where the
-- edge before each starts.
-- Notions: Suit, HasLinksOf, IsCornerOf, Stores, SayOrigins, HaveOwnNexts; corners_of, keeps_shown,
-- count_corners, apart_joined, corner_shown, corner_at, shown_is, keeps_set, keeps_push,
-- keeps_remove, keeps_next, keeps_prev, keeps_face, keeps_corner, keeps_origin, keeps_joined.
use Rattle.std.proofs.Common.{◌≡◌, ◌+◌, ◌-◌, ◌<◌, [], ◌∷◌, ◌++◌, ◌∙◌}
use Rattle.std.proofs.Common.{ℕ, List, length, get_or, set, map, refl, sym, ap, inl, inr, arith}
use Rattle.std.proofs.Common.{length-append}
use Rattle.std.proofs.lemmas.Bool.{cases_eq, cases_lt}
use Rattle.std.proofs.lemmas.List.{get_or-set_same, get_or-set_other, length-set, set_past}
use Rattle.std.proofs.lemmas.List.{set-get_or, ext_get_or, length-map, get_or-map, get_or_past}
use Rattle.std.proofs.lemmas.List.{get_or_append_left, get_or_push}
use Rattle.std.specs.List.{swap_remove}
use Rattle.half_edge_links.specs.{AreJoined, edge_at, HalfEdge, no_edge, no_stored, shown}
use Rattle.half_edge_links.specs.{stored_at, stored_corner, stored_face, stored_joined, stored_next}
use Rattle.half_edge_links.specs.{stored_prev, StoredEdge, with_face, with_next, with_origin}
use Rattle.half_edge_links.specs.{with_prev}
use Rattle.half_edge_links.proofs.Removing.OpenSound.{get_or-swap_remove_other}
use Rattle.half_edge_links.proofs.Removing.OpenSound.{get_or-swap_remove_same, length-swap_remove}
use Rattle.half_edge_links.proofs.Stored.Shown.{face_shown, length_shown, next_shown, origin_shown}
use Rattle.half_edge_links.proofs.Stored.Shown.{prev_shown, shown_at}

-- two lists have as many items, each of which suits the other
pub record Suit {X Y : Type 0} (P : X → Y → Type 0) (d : X) (e : Y) (xs : List X)
    (ys : List Y) : Type 0 where
  pub count : length xs ≡ length ys
  pub each : (h : ℕ) → P (get_or xs h d) (get_or ys h e)

module _ {X Y : Type 0} (P : X → Y → Type 0) (d : X) (e : Y) (xs : List X) (ys : List Y)
    (s : Suit P d e xs ys) where
  -- lists suit each other after a write to each
  suit_set : (h : ℕ) (x : X) (y : Y) → P x y → Suit P d e (set xs h x) (set ys h y)
  suit_set h x y fits = record {
    count = length-set xs h x ∙ s.count ∙ sym (length-set ys h y);
    each = λ k. elim (cases_eq k h) [
      | inr differs ↦
          rw (get_or-set_other xs h k x d differs, get_or-set_other ys h k y e differs) (s.each k)
      | inl is ↦ elim (cases_lt h (length xs)) [
        | inl within ↦ rw (
          is,
          get_or-set_same xs h x d within,
          get_or-set_same ys h y e (rw (← s.count) within),
        ) fits
        | inr past ↦ rw (set_past xs h x past, set_past ys h y (rw (← s.count) past)) (s.each k)
      ]
    ];
  }

  -- lists suit each other after a push to each
  suit_push : (x : X) (y : Y) → P x y → P d e → Suit P d e (xs ++ x ∷ []) (ys ++ y ∷ [])
  suit_push x y fits none =
      let n = length-append xs (x ∷ []) in
      let m = length-append ys (y ∷ []) in
      let count = s.count in
      record {
        count = n ∙ ap (λ q. q + 1) count ∙ sym m;
        each = λ k. elim (cases_lt k (length xs)) [
          | inl within ↦ rw (
            get_or_append_left xs (x ∷ []) d k within,
            get_or_append_left ys (y ∷ []) e k (rw (← count) within),
          ) (s.each k)
          | inr past ↦ elim (cases_eq (length xs) k) [
            | inl is ↦ rw (get_or_push xs x d k is, get_or_push ys y e k (sym count ∙ is)) fits
            | inr more ↦ rw (
              get_or_past (xs ++ x ∷ []) k d (omega arith),
              get_or_past (ys ++ y ∷ []) k e (omega arith),
            ) none
          ]
        ];
      }

  -- lists suit each other after the last item of each took a place
  suit_remove : (h : ℕ) → h < length xs → P d e
      → Suit P d e (swap_remove xs h d) (swap_remove ys h e)
  suit_remove h h_in none =
      let n = length-swap_remove xs h d in
      let m = length-swap_remove ys h e in
      let count = s.count in
      record {
        count = omega arith;
        each = λ k. elim (cases_lt (k + 1) (length xs)) [
          | inl within ↦ elim (cases_eq k h) [
            | inl is ↦ rw (
              is,
              get_or-swap_remove_same xs h d (rw is at within),
              get_or-swap_remove_same ys h e (rw (is, count) at within),
              count,
            )
                (s.each (length ys - 1))
            | inr differs ↦ rw (
              get_or-swap_remove_other xs h k d within differs,
              get_or-swap_remove_other ys h k e (rw count at within) differs,
            ) (s.each k)
          ]
          | inr past ↦ rw (
            get_or_past (swap_remove xs h d) k d (omega arith),
            get_or_past (swap_remove ys h e) k e (omega arith),
          ) none
        ];
      }

-- the links of a directed edge are those of its record
pub record HasLinksOf (e : HalfEdge) (r : StoredEdge) : Type 0 where
  pub next : e.next ≡ r.next
  pub prev : e.prev ≡ r.prev
  pub face : e.face ≡ r.face

-- the edge before that of a record starts here
abbrev pub IsCornerOf : StoredEdge → ℕ → Type 0
IsCornerOf r c = r.prev_origin ≡ c

-- a list of records has the links of directed edges hs, and of each the edge before starts as cs
-- says
pub record Stores (rs : List StoredEdge) (hs : List HalfEdge) (cs : List ℕ) : Type 0 where
  pub links : Suit HasLinksOf no_edge no_stored hs rs
  pub corners : Suit IsCornerOf no_stored 0 rs cs

-- where the edges before those of a list start
pub corners_of : List StoredEdge → List ℕ
corners_of rs = map (λ (r : StoredEdge). r.prev_origin) rs

-- a list keeps the edges that it shows
pub keeps_shown : (rs : List StoredEdge) → Stores rs (shown rs) (corners_of rs)
unfolding corners_of
keeps_shown rs = record {
  links = record {
    count = length_shown rs;
    each = λ h. record { next = next_shown rs h; prev = prev_shown rs h; face = face_shown rs h };
  };
  corners = record {
    count = sym (length-map rs (λ (r : StoredEdge). r.prev_origin));
    each = λ h. elim (cases_lt h (length rs)) [
      | inl within ↦ sym (get_or-map (λ (r : StoredEdge). r.prev_origin) rs h no_stored 0 within)
      | inr past ↦ ap (λ (r : StoredEdge). r.prev_origin) (get_or_past rs h no_stored past)
          ∙ sym (get_or_past (map (λ (r : StoredEdge). r.prev_origin) rs) h 0 (rw length-map past))
    ];
  };
}

-- as many records say where an edge starts as there are
pub count_corners : (rs : List StoredEdge) → length (corners_of rs) ≡ length (shown rs)
count_corners rs = sym (length_shown rs ∙ (keeps_shown rs).corners.count)

-- the record of an edge's next one says where that edge starts
abbrev pub SayOrigins : List HalfEdge → List ℕ → Type 0
SayOrigins hs cs = (h : ℕ) → h < length hs → get_or cs (edge_at hs h).next 0 ≡ (edge_at hs h).origin

-- no two edges come before one
abbrev pub HaveOwnNexts : List HalfEdge → Type 0
HaveOwnNexts hs = (h k : ℕ) → h < length hs → k < length hs
    → (edge_at hs h).next ≡ (edge_at hs k).next → h ≡ k

-- no two edges of a joined list come before one
pub apart_joined : (hs : List HalfEdge) → AreJoined hs → HaveOwnNexts hs
apart_joined hs j h k h_in k_in same =
    sym (j.prev_next h h_in) ∙ ap (λ n. (edge_at hs n).prev) same ∙ j.prev_next k k_in

-- the record of the next one of each edge that is shown says where that edge starts
pub corner_shown : (rs : List StoredEdge) → SayOrigins (shown rs) (corners_of rs)
corner_shown rs h within =
    sym (origin_shown rs h (rw length_shown at within) ∙ (keeps_shown rs).corners.each _)

-- the record of the edge after k says where k starts
pub corner_at : (rs : List StoredEdge) (k n : ℕ) → k < length (shown rs)
    → (edge_at (shown rs) k).next ≡ n → (stored_at rs n).prev_origin ≡ (edge_at (shown rs) k).origin
corner_at rs k n within is = (keeps_shown rs).corners.each n
    ∙ ap (λ q. get_or (corners_of rs) q 0) (sym is) ∙ corner_shown rs k within

same_edge : (e : HalfEdge) (r : StoredEdge) (o : ℕ) → HasLinksOf e r → o ≡ e.origin
    → record { origin = o; next = r.next; prev = r.prev; face = r.face } ≡ e
same_edge e r o same is = rw (is, ← same.next, ← same.prev, ← same.face) refl

-- where the record of each edge's next one says where that edge starts, the list shows the edges
pub shown_is : (rs : List StoredEdge) (hs : List HalfEdge) (cs : List ℕ) → Stores rs hs cs
    → SayOrigins hs cs → shown rs ≡ hs
shown_is rs hs cs k right =
    ext_get_or no_edge (shown rs) hs (length_shown rs ∙ sym k.links.count) (λ h within.
    let h_in : h < length rs = rw length_shown at within in
    let links = k.links.each h in
    shown_at rs h h_in ∙ same_edge (edge_at hs h) (stored_at rs h) _ links (k.corners.each _
    ∙ ap (λ n. get_or cs n 0) (sym links.next) ∙ right h (rw k.links.count h_in)))

module _ (rs : List StoredEdge) (hs : List HalfEdge) (cs : List ℕ) (k : Stores rs hs cs) where
  -- an edge with new links is written
  pub keeps_set : (h c o n p f : ℕ)
      → Stores (set rs h (record { prev_origin = c; next = n; prev = p; face = f }))
      (set hs h (record { origin = o; next = n; prev = p; face = f })) (set cs h c)
  keeps_set h c o n p f = record {
    links = suit_set HasLinksOf no_edge no_stored hs rs k.links h _ _
        (record { next = refl; prev = refl; face = refl });
    corners = suit_set IsCornerOf no_stored 0 rs cs k.corners h _ c refl;
  }

  -- an edge is pushed
  pub keeps_push : (c o n p f : ℕ)
      → Stores (rs ++ record { prev_origin = c; next = n; prev = p; face = f } ∷ [])
      (hs ++ record { origin = o; next = n; prev = p; face = f } ∷ []) (cs ++ c ∷ [])
  keeps_push c o n p f = record {
    links = suit_push HasLinksOf no_edge no_stored hs rs k.links _ _
        (record { next = refl; prev = refl; face = refl })
        (record { next = refl; prev = refl; face = refl });
    corners = suit_push IsCornerOf no_stored 0 rs cs k.corners _ c refl refl;
  }

  -- the last record takes the place of another
  pub keeps_remove : (h : ℕ) → h < length rs
      → Stores (swap_remove rs h no_stored) (swap_remove hs h no_edge) (swap_remove cs h 0)
  keeps_remove h within = record {
    links = suit_remove HasLinksOf no_edge no_stored hs rs k.links h (rw k.links.count within)
        (record { next = refl; prev = refl; face = refl });
    corners = suit_remove IsCornerOf no_stored 0 rs cs k.corners h within refl;
  }

  -- a record is written, where the edge before it starts as before
  keeps_links : (h : ℕ) (r : StoredEdge) (e : HalfEdge) → HasLinksOf e r
      → r.prev_origin ≡ (stored_at rs h).prev_origin → Stores (set rs h r) (set hs h e) cs
  keeps_links h r e same kept = record {
    links = suit_set HasLinksOf no_edge no_stored hs rs k.links h e r same;
    corners = rw set-get_or at (suit_set IsCornerOf no_stored 0 rs cs k.corners h r (get_or cs h 0)
        (kept ∙ k.corners.each h));
  }

  -- the edge after one is written
  pub keeps_next : (h x : ℕ) → Stores (stored_next rs h x) (with_next hs h x) cs
  unfolding stored_next with_next
  keeps_next h x = let was = k.links.each h in
      keeps_links h _ _ (record { next = refl; prev = was.prev; face = was.face }) refl

  -- the edge before one is written
  pub keeps_prev : (h x : ℕ) → Stores (stored_prev rs h x) (with_prev hs h x) cs
  unfolding stored_prev with_prev
  keeps_prev h x = let was = k.links.each h in
      keeps_links h _ _ (record { next = was.next; prev = refl; face = was.face }) refl

  -- the face of an edge is written
  pub keeps_face : (h x : ℕ) → Stores (stored_face rs h x) (with_face hs h x) cs
  unfolding stored_face with_face
  keeps_face h x = let was = k.links.each h in
      keeps_links h _ _ (record { next = was.next; prev = was.prev; face = refl }) refl

  -- where the edge before one starts is written
  pub keeps_corner : (h x : ℕ) → Stores (stored_corner rs h x) hs (set cs h x)
  unfolding stored_corner
  keeps_corner h x =
      let was = k.links.each h in
      record {
        links = rw set-get_or at (suit_set HasLinksOf no_edge no_stored hs rs k.links h
            (edge_at hs h) (record (stored_at rs h) { prev_origin = x })
            (record { next = was.next; prev = was.prev; face = was.face }));
        corners = suit_set IsCornerOf no_stored 0 rs cs k.corners h _ x refl;
      }

  -- where an edge starts is written among the directed edges alone
  pub keeps_origin : (h x : ℕ) → Stores rs (with_origin hs h x) cs
  unfolding with_origin
  keeps_origin h x =
      let was = k.links.each h in
      record {
        links = rw set-get_or at (suit_set HasLinksOf no_edge no_stored hs rs k.links h
            (record (edge_at hs h) { origin = x }) (stored_at rs h)
            (record { next = was.next; prev = was.prev; face = was.face }));
        corners = k.corners;
      }

-- an edge is put after another
pub keeps_joined : (rs : List StoredEdge) (hs : List HalfEdge) (cs : List ℕ) → Stores rs hs cs
    → (h n o : ℕ) → Stores (stored_joined rs h n o) (with_prev (with_next hs h n) n h) (set cs n o)
keeps_joined rs hs cs k h n o =
    keeps_corner _ _ _ (keeps_prev _ _ _ (keeps_next rs hs cs k h n) n h) n o
