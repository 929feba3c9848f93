-- Reads of the directed edges after a write of one link.
-- Notions: next_link, prev_link, face_link, origin_link, WritesEdge, SetsLoopFace; writes_next,
-- writes_prev, writes_face, writes_origin, swap_writes, swap_prevs, sets_loop_face.
use Rattle.std.proofs.Common.{◌≡◌, ◌≢◌, ◌⊎◌, ℕ, ◌<◌, List, length, set, refl, sym, ap, ◌∙◌}
use Rattle.std.proofs.Common.{inl, inr}
use Rattle.std.proofs.lemmas.Bool.{cases_eq, cases_lt}
use Rattle.std.proofs.lemmas.List.{get_or-set_same, get_or-set_other, length-set, set_past}
use Rattle.std.proofs.lemmas.List.{set-set, set_comm}
use Rattle.half_edge_links.specs.{edge_at, HalfEdge, no_edge, with_face, with_loop_face, with_next}
use Rattle.half_edge_links.specs.{with_origin, with_prev}

-- the four links of an edge
abbrev pub next_link : HalfEdge → ℕ
next_link e = e.next

-- the edge before an edge, as one of its links
abbrev pub prev_link : HalfEdge → ℕ
prev_link e = e.prev

-- the face of an edge, as one of its links
abbrev pub face_link : HalfEdge → ℕ
face_link e = e.face

-- the origin of an edge, as one of its links
abbrev pub origin_link : HalfEdge → ℕ
origin_link e = e.origin

-- edge h is x now, and a link that x shares with what edge h was is that of each edge as before
pub record WritesEdge (old new : List HalfEdge) (h : ℕ) (x : HalfEdge) : Type 0 where
  pub count : length new ≡ length old
  pub here : h < length old → edge_at new h ≡ x
  pub other : (k : ℕ) → k ≢ h → edge_at new k ≡ edge_at old k
  pub kept : (link : HalfEdge → ℕ) → link x ≡ link (edge_at old h) → (k : ℕ)
      → link (edge_at new k) ≡ link (edge_at old k)

writes : (hs : List HalfEdge) (h : ℕ) (x : HalfEdge) → WritesEdge hs (set hs h x) h x
writes hs h x = record {
  count = length-set hs h x;
  here = get_or-set_same hs h x no_edge;
  other = λ k differs. get_or-set_other hs h k x no_edge differs;
  kept = λ link same k. elim (cases_eq k h) [
    | inl is ↦ elim (cases_lt h (length hs)) [
      | inl within ↦ rw is (ap link (get_or-set_same hs h x no_edge within) ∙ same)
      | inr past ↦ ap (λ l. link (edge_at l k)) (set_past hs h x past)
    ]
    | inr differs ↦ ap link (get_or-set_other hs h k x no_edge differs)
  ];
}

module _ (hs : List HalfEdge) (h x : ℕ) where
  -- a write of the next edge of h changes this link of h alone
  pub writes_next : WritesEdge hs (with_next hs h x) h (record (edge_at hs h) { next = x })
  unfolding with_next
  writes_next = writes hs h _

  -- a write of the edge before h changes this link of h alone
  pub writes_prev : WritesEdge hs (with_prev hs h x) h (record (edge_at hs h) { prev = x })
  unfolding with_prev
  writes_prev = writes hs h _

  -- a write of the face of h changes this link of h alone
  pub writes_face : WritesEdge hs (with_face hs h x) h (record (edge_at hs h) { face = x })
  unfolding with_face
  writes_face = writes hs h _

  -- a write of the origin of h changes this link of h alone
  pub writes_origin : WritesEdge hs (with_origin hs h x) h (record (edge_at hs h) { origin = x })
  unfolding with_origin
  writes_origin = writes hs h _

-- writes of a next edge and of an edge before can change places
pub swap_writes : (hs : List HalfEdge) (p x n y : ℕ) → p < length hs
    → with_next (with_prev hs p x) n y ≡ with_prev (with_next hs n y) p x
unfolding with_next with_prev
swap_writes hs p x n y p_in =
    let a : HalfEdge = record (edge_at hs p) { prev = x } in
    let b : HalfEdge = record (edge_at hs n) { next = y } in
    elim (cases_eq n p) [
      | inl same ↦
          let c : HalfEdge = record (edge_at hs p) { next = y } in
          let d : HalfEdge = record (edge_at hs p) { next = y; prev = x } in
          rw (
            same,
            get_or-set_same hs p a no_edge p_in,
            get_or-set_same hs p c no_edge p_in,
          ) (set-set hs p a d ∙ sym (set-set hs p c d))
      | inr off ↦ rw (
        get_or-set_other hs p n a no_edge off,
        get_or-set_other hs n p b no_edge (λ q. off (sym q)),
      ) (set_comm hs p n a b (λ q. off (sym q)))
    ]

-- writes of the edges before two edges can change places
pub swap_prevs : (hs : List HalfEdge) (h x k y : ℕ) → h ≢ k
    → with_prev (with_prev hs h x) k y ≡ with_prev (with_prev hs k y) h x
unfolding with_prev
swap_prevs hs h x k y off =
    let a : HalfEdge = record (edge_at hs h) { prev = x } in
    let b : HalfEdge = record (edge_at hs k) { prev = y } in
    rw (
      get_or-set_other hs h k a no_edge (λ q. off (sym q)),
      get_or-set_other hs k h b no_edge off,
    ) (set_comm hs h k a b off)

-- the loop of h gets face x
pub record SetsLoopFace (old new : List HalfEdge) (h x : ℕ) : Type 0 where
  pub count : length new ≡ length old
  pub next : (k : ℕ) → (edge_at new k).next ≡ (edge_at old k).next
  pub prev : (k : ℕ) → (edge_at new k).prev ≡ (edge_at old k).prev
  pub origin : (k : ℕ) → (edge_at new k).origin ≡ (edge_at old k).origin
  pub face : (k : ℕ) → (k ≡ h) ⊎ ((k ≡ (edge_at old h).next) ⊎ (k ≡ (edge_at old h).prev))
      → (edge_at new k).face ≡ x
  pub other : (k : ℕ) → k ≢ h → k ≢ (edge_at old h).next → k ≢ (edge_at old h).prev
      → (edge_at new k).face ≡ (edge_at old k).face

-- edge k has face x after a write of x, if it had it before or is the one that is written
face_more : (hs : List HalfEdge) (h x k : ℕ) → h < length hs → (k ≡ h) ⊎ ((edge_at hs k).face ≡ x)
    → (edge_at (with_face hs h x) k).face ≡ x
face_more hs h x k within had =
    let w = writes_face hs h x in
    elim (cases_eq k h) [
      | inl is ↦ rw is (ap face_link (w.here within))
      | inr differs ↦ elim had
          [ inl is ↦ absurd (differs is) | inr was ↦ ap face_link (w.other k differs) ∙ was ]
    ]

-- writes at an edge, the next one and the one before give all three face x, and change nothing else
pub sets_loop_face : (hs : List HalfEdge) (h x : ℕ) → h < length hs → (edge_at hs h).next
    < length hs → (edge_at hs h).prev < length hs → SetsLoopFace hs (with_loop_face hs h x) h x
unfolding with_loop_face
sets_loop_face hs h x h_in n_in p_in =
    let a : List HalfEdge = with_face hs h x in
    let b : List HalfEdge = with_face a (edge_at hs h).next x in
    let one = writes_face hs h x in
    let two = writes_face a (edge_at hs h).next x in
    let three = writes_face b (edge_at hs h).prev x in
    let n_in_a : (edge_at hs h).next < length a = rw one.count n_in in
    let p_in_b : (edge_at hs h).prev < length b = rw (two.count, one.count) p_in in
    record {
      count = three.count ∙ two.count ∙ one.count;
      next = λ k. three.kept next_link refl k ∙ two.kept next_link refl k
          ∙ one.kept next_link refl k;
      prev = λ k. three.kept prev_link refl k ∙ two.kept prev_link refl k
          ∙ one.kept prev_link refl k;
      origin = λ k. three.kept origin_link refl k ∙ two.kept origin_link refl k
          ∙ one.kept origin_link refl k;
      face = λ k round. elim round [
        | inl is ↦ face_more b _ x k p_in_b
            (inr (face_more a _ x k n_in_a (inr (face_more hs h x k h_in (inl is)))))
        | inr (inl is) ↦ face_more b _ x k p_in_b (inr (face_more a _ x k n_in_a (inl is)))
        | inr (inr is) ↦ face_more b _ x k p_in_b (inl is)
      ];
      other = λ k p q r. ap face_link (three.other k r ∙ two.other k q ∙ one.other k p);
    }
