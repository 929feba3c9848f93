-- Taking an edge out of its loops leaves the rest of a mesh sound.
-- Notions: next_of, prev_of, both, IsAfter, IsBefore; length_both, next_both, next_both_other,
-- prev_both, prev_both_other, origin_both, face_both, unlinks, some_same, halves, after_cases,
-- t_in, at_e, at_t, after, before, inner_next, inner_prev, sides, sides_back, sound_but.
use Rattle.std.proofs.Common.{◌≡◌, ◌≢◌, ◌⊎◌, ◌+◌, ◌-◌, ◌%◌, ◌<◌, ◌∙◌}
use Rattle.std.proofs.Common.{ℕ, List, length, get_or, set, Option, Some, None, IsSome, refl, sym}
use Rattle.std.proofs.Common.{ap, inl, inr, arith}
use Rattle.std.proofs.lemmas.Bool.{cases_eq}
use Rattle.std.proofs.lemmas.Bool.Decides.{nat_tests}
use Rattle.std.proofs.lemmas.List.{get_or-set_same, get_or-set_other, length-set}
use Rattle.half_edge_links.specs.{AreSoundLinks, edge_at, face, face_edge, HalfEdge, IsSoundBut}
use Rattle.half_edge_links.specs.{IsSoundEdge, Mesh, next, origin, out_edge, prev, rev, unlinked}
use Rattle.half_edge_links.specs.{with_next, with_prev, with_unlinked}
use Rattle.half_edge_links.specs.Remove.{out_after, outer_after, outer_beside, Unlinks}
use Rattle.half_edge_links.proofs.{Lists.Cases.◌or_else◌, Removing.Conditions.IsUnlinkable}
use Rattle.half_edge_links.proofs.Lists.Orbits.{reached}
use Rattle.half_edge_links.proofs.Lists.Rev.{rev-rev, rev_differs, rev_within}
use Rattle.half_edge_links.proofs.Sound.FieldWrites.{face_link, next_link, origin_link, prev_link}
use Rattle.half_edge_links.proofs.Sound.FieldWrites.{writes_next, writes_prev}
use Rattle.half_edge_links.proofs.Sound.Parts.{inner_kept, next_at, sound_from}

-- the edge after edge k in a list of directed edges
abbrev pub next_of : List HalfEdge → ℕ → ℕ
next_of hs k = (edge_at hs k).next

-- the edge before edge k in a list of directed edges
abbrev pub prev_of : List HalfEdge → ℕ → ℕ
prev_of hs k = (edge_at hs k).prev

-- a write of both links
abbrev pub both : List HalfEdge → ℕ → ℕ → ℕ → ℕ → List HalfEdge
both hs h x k y = with_prev (with_next hs h x) k y

module _ (hs : List HalfEdge) (h x k y : ℕ) where
  -- the writes of both links leave the length
  pub length_both : length (both hs h x k y) ≡ length hs
  length_both = (writes_prev (with_next hs h x) k y).count ∙ (writes_next hs h x).count

  -- the edge after h is the written one
  pub next_both : h < length hs → next_of (both hs h x k y) h ≡ x
  next_both within = (writes_prev (with_next hs h x) k y).kept next_link refl h
      ∙ ap next_link ((writes_next hs h x).here within)

  -- the edge after any other edge than h stays
  pub next_both_other : (j : ℕ) → j ≢ h → next_of (both hs h x k y) j ≡ next_of hs j
  next_both_other j differs = (writes_prev (with_next hs h x) k y).kept next_link refl j
      ∙ ap next_link ((writes_next hs h x).other j differs)

  -- the edge before k is the written one
  pub prev_both : k < length hs → prev_of (both hs h x k y) k ≡ y
  prev_both within = ap prev_link
      ((writes_prev (with_next hs h x) k y).here (rw (writes_next hs h x).count within))

  -- the edge before any other edge than k stays
  pub prev_both_other : (j : ℕ) → j ≢ k → prev_of (both hs h x k y) j ≡ prev_of hs j
  prev_both_other j differs = ap prev_link ((writes_prev (with_next hs h x) k y).other j differs)
      ∙ (writes_next hs h x).kept prev_link refl j

  -- the writes of both links leave the origins
  pub origin_both : (j : ℕ) → (edge_at (both hs h x k y) j).origin ≡ (edge_at hs j).origin
  origin_both j = (writes_prev (with_next hs h x) k y).kept origin_link refl j
      ∙ (writes_next hs h x).kept origin_link refl j

  -- the writes of both links leave the faces
  pub face_both : (j : ℕ) → (edge_at (both hs h x k y) j).face ≡ (edge_at hs j).face
  face_both j = (writes_prev (with_next hs h x) k y).kept face_link refl j
      ∙ (writes_next hs h x).kept face_link refl j

module _ (m : Mesh) (e : ℕ) (s : AreSoundLinks m) (can : IsUnlinkable m e) where
  -- the writes of the code take the edge and its other side out of their loops
  pub unlinks : Unlinks m (unlinked m e) e (rev e)
  unfolding unlinked with_unlinked
  unlinks =
      let t : ℕ = rev e in
      let t_in = rev_within e (length m.half_edges) s.even can.within in
      let at_e = s.edges e can.within in
      let at_t = s.edges (rev e) t_in in
      let p : ℕ = prev m e in
      let q : ℕ = next m e in
      let x : ℕ = prev m (rev e) in
      let y : ℕ = next m (rev e) in
      let hs : List HalfEdge = m.half_edges in
      let a : List HalfEdge = both hs p y y p in
      let b : List HalfEdge = both a x q q x in
      let c : List HalfEdge = both b e e e e in
      let na : length a ≡ length hs = length_both hs p y y p in
      let nb : length b ≡ length hs = length_both a x q q x ∙ na in
      let nc : length c ≡ length hs = length_both b e e e e ∙ nb in
      let et : e ≢ rev e = λ z. rev_differs e (sym z) in
      let q_e : q ≢ e = λ z. can.ends (sym (ap (origin m) z) ∙ at_e.starts) in
      let y_t : y ≢ t =
      λ z. can.ends (sym (at_t.starts ∙ ap (origin m) (rev-rev e)) ∙ ap (origin m) z) in
      let p_e : p ≢ e = λ z. q_e (sym (ap (next m) z) ∙ at_e.next_prev) in
      let x_t : x ≢ t = λ z. y_t (sym (ap (next m) z) ∙ at_t.next_prev) in
      let p_x : p ≢ x = λ z. et (sym at_e.next_prev ∙ ap (next m) z ∙ at_t.next_prev) in
      let y_q : y ≢ q = λ z. et (sym at_e.prev_next ∙ sym (ap (prev m) z) ∙ at_t.prev_next) in
      let to_in : origin m (rev e) < length (set m.out_edges (origin m e) (out_after e y)) =
      rw length-set at_t.origin_in in
      record {
        edge_count = length_both c t t t t ∙ nc;
        vertex_count = simp length-set;
        face_edges = refl;
        origins = λ k. origin_both c t t t t k ∙ origin_both b e e e e k ∙ origin_both a x q q x k
            ∙ origin_both hs p y y p k;
        faces = λ k. face_both c t t t t k ∙ face_both b e e e e k ∙ face_both a x q q x k
            ∙ face_both hs p y y p k;
        before = λ d. next_both_other c t t t t p d ∙ next_both_other b e e e e p p_e
            ∙ next_both_other a x q q x p p_x ∙ next_both hs p y y p at_e.prev_in;
        twin_before = λ d. next_both_other c t t t t x x_t ∙ next_both_other b e e e e x d
            ∙ next_both a x q q x (rw na at_t.prev_in);
        other_next = λ k k_e k_t k_p k_x. next_both_other c t t t t k k_t ∙ next_both_other b e e e
            e k k_e ∙ next_both_other a x q q x k k_x ∙ next_both_other hs p y y p k k_p;
        after = λ d. prev_both_other c t t t t q d ∙ prev_both_other b e e e e q q_e
            ∙ prev_both a x q q x (rw na at_e.next_in);
        twin_after = λ d. prev_both_other c t t t t y y_t ∙ prev_both_other b e e e e y d
            ∙ prev_both_other a x q q x y y_q ∙ prev_both hs p y y p at_t.next_in;
        other_prev = λ k k_e k_t k_q k_y. prev_both_other c t t t t k k_t ∙ prev_both_other b e e e
            e k k_e ∙ prev_both_other a x q q x k k_q ∙ prev_both_other hs p y y p k k_y;
        next_self = next_both_other c t t t t e et ∙ next_both b e e e e (rw nb can.within);
        prev_self = prev_both_other c t t t t e et ∙ prev_both b e e e e (rw nb can.within);
        twin_next_self = next_both c t t t t (rw nc t_in);
        twin_prev_self = prev_both c t t t t (rw nc t_in);
        out = get_or-set_other _ _ _ _ None can.ends ∙ get_or-set_same _ _ _ None at_e.origin_in;
        twin_out = get_or-set_same _ _ _ None to_in;
        other_outs = λ v v_a v_b. get_or-set_other _ _ v _ None v_b
            ∙ get_or-set_other _ _ v _ None v_a;
        outer_edge = refl;
      }

-- numbers that are there and equal as optional ones are equal
pub some_same : (a b : ℕ) → (let o : Option ℕ = Some a in o) ≡ Some b → a ≡ b
some_same a b same = cc

-- the two sides of an edge
pub halves : (e : ℕ)
    → ((e ≡ e - e % 2) × (rev e ≡ e - e % 2 + 1)) ⊎ ((e ≡ e - e % 2 + 1) × (rev e ≡ e - e % 2))
halves e = grind (arith, nat_tests)

beside_cases : (t n p : ℕ) → ((n ≢ t) × (outer_beside t n p ≡ Some n))
    ⊎ (((n ≡ t) × (p ≢ t) × (outer_beside t n p ≡ Some p))
    ⊎ ((n ≡ t) × (p ≡ t) × (outer_beside t n p ≡ None)))
beside_cases t n p = grind (arith, nat_tests)

-- the outer face names one beside edge e once e is out, if it named e or its reverse t, or else
-- what it did
pub after_cases : (h e t n p : ℕ)
    → (((h ≡ e) ⊎ (h ≡ t)) × (outer_after (Some h) e t n p ≡ outer_beside t n p))
    ⊎ ((h ≢ e) × (h ≢ t) × (outer_after (Some h) e t n p ≡ Some h))
after_cases h e t n p = grind (arith, nat_tests)

-- what the rest of a mesh is when edge e, with other side t, was taken out
module _ (m new : Mesh) (e : ℕ) (s : AreSoundLinks m) (can : IsUnlinkable m e)
    (u : Unlinks m new e (rev e)) where
  -- the other side of e is in the mesh
  pub t_in : rev e < length m.half_edges
  t_in = rev_within e (length m.half_edges) s.even can.within

  -- edge e was sound
  pub at_e : IsSoundEdge m e
  at_e = s.edges e can.within

  -- the other side of e was sound
  pub at_t : IsSoundEdge m (rev e)
  at_t = s.edges (rev e) t_in

  -- the edge after e is not e
  q_e : next m e ≢ e
  q_e z = can.ends (sym (ap (origin m) z) ∙ at_e.starts)

  -- the edge after the other side of e is not that side
  y_t : next m (rev e) ≢ rev e
  y_t z = can.ends (sym (at_t.starts ∙ ap (origin m) (rev-rev e)) ∙ ap (origin m) z)

  -- the edge before e is not e
  p_e : prev m e ≢ e
  p_e z = q_e (sym (ap (next m) z) ∙ at_e.next_prev)

  y_starts : origin m (next m (rev e)) ≡ origin m e
  y_starts = at_t.starts ∙ ap (origin m) (rev-rev e)

  p_face : face m (prev m e) ≡ 0
  p_face = sym (s.edges (prev m e) at_e.prev_in).same_face ∙ ap (face m) at_e.next_prev ∙ can.outer

  x_face : face m (prev m (rev e)) ≡ 0
  x_face = sym (s.edges (prev m (rev e)) at_t.prev_in).same_face ∙ ap (face m) at_t.next_prev
      ∙ can.twin_outer

  -- an edge that is left, and what is after it now
  pub record IsAfter (h n : ℕ) : Type 0 where
    pub n_in : n < length m.half_edges
    pub n_e : n ≢ e
    pub n_t : n ≢ rev e
    pub next_is : next new h ≡ n
    pub prev_is : prev new n ≡ h
    pub starts : origin m n ≡ origin m (rev h)
    pub same_face : face m n ≡ face m h
    pub differs : n ≢ h

  after_p : prev m e ≢ rev e → IsAfter (prev m e) (next m (rev e))
  after_p p_t =
      let y_e : next m (rev e) ≢ e = λ z. p_t (ap (prev m) (sym z) ∙ at_t.prev_next) in
      record {
        n_in = at_t.next_in;
        n_e = y_e;
        n_t = y_t;
        next_is = u.before p_t;
        prev_is = u.twin_after y_e;
        starts = y_starts ∙ sym (ap (origin m) at_e.next_prev)
            ∙ (s.edges (prev m e) at_e.prev_in).starts;
        same_face = at_t.same_face ∙ can.twin_outer ∙ sym p_face;
        differs = can.start_free;
      }

  after_x : prev m (rev e) ≢ e → IsAfter (prev m (rev e)) (next m e)
  after_x x_e =
      let q_t : next m e ≢ rev e = λ z. x_e (ap (prev m) (sym z) ∙ at_e.prev_next) in
      record {
        n_in = at_e.next_in;
        n_e = q_e;
        n_t = q_t;
        next_is = u.twin_before x_e;
        prev_is = u.after q_t;
        starts = at_e.starts ∙ sym (ap (origin m) at_t.next_prev)
            ∙ (s.edges (prev m (rev e)) at_t.prev_in).starts;
        same_face = at_e.same_face ∙ can.outer ∙ sym x_face;
        differs = λ z. can.end_free (sym z);
      }

  after_other : (h : ℕ) → h < length m.half_edges → h ≢ e → h ≢ rev e → h ≢ prev m e
      → h ≢ prev m (rev e) → IsAfter h (next m h)
  after_other h within h_e h_t h_p h_x =
      let here = s.edges h within in
      let n_e : next m h ≢ e = λ z. h_p (sym here.prev_next ∙ ap (prev m) z) in
      let n_t : next m h ≢ rev e = λ z. h_x (sym here.prev_next ∙ ap (prev m) z) in
      let n_q : next m h ≢ next m e =
      λ z. h_e (sym here.prev_next ∙ ap (prev m) z ∙ at_e.prev_next) in
      let n_y : next m h ≢ next m (rev e) =
      λ z. h_t (sym here.prev_next ∙ ap (prev m) z ∙ at_t.prev_next) in
      let next_is = u.other_next h h_e h_t h_p h_x in
      let prev_is : prev new (next m h) ≡ h =
      u.other_prev (next m h) n_e n_t n_q n_y ∙ here.prev_next in
      assumption (here, n_e, n_t, next_is, prev_is)

  -- what is after an edge that is left
  pub after : (h : ℕ) → h < length m.half_edges → h ≢ e → h ≢ rev e → (n : ℕ) × IsAfter h n
  after h within h_e h_t =
      elim (cases_eq h (prev m e) or_else cases_eq h (prev m (rev e))) [
        | inl is ↦ (next m (rev e), rw (← is) at (after_p (λ z. h_t (is ∙ z))))
        | inr (h_p, inl is) ↦ (next m e, rw (← is) at (after_x (λ z. h_e (is ∙ z))))
        | inr (h_p, inr h_x) ↦ (next m h, after_other h within h_e h_t h_p h_x)
      ]

  -- an edge that is left, and what is before it now
  pub record IsBefore (h b : ℕ) : Type 0 where
    pub b_in : b < length m.half_edges
    pub b_e : b ≢ e
    pub b_t : b ≢ rev e
    pub prev_is : prev new h ≡ b
    pub next_is : next new b ≡ h

  -- from each edge, also those taken out, one comes back by the edge before
  back : (h : ℕ) → h < length m.half_edges
      → (next new h < length m.half_edges) × (prev new (next new h) ≡ h)
  back h within =
      elim (cases_eq h e or_else cases_eq h (rev e)) [
        | inl is ↦ rw (is, u.next_self) (can.within, u.prev_self)
        | inr (h_e, inl is) ↦ rw (is, u.twin_next_self) (t_in, u.twin_prev_self)
        | inr (h_e, inr h_t) ↦ let a = after h within h_e h_t in
            rw a.1.next_is (a.1.n_in, a.1.prev_is)
      ]

  -- each edge but the two sides of e has an edge before it now
  pub before : (h : ℕ) → h < length m.half_edges → h ≢ e → h ≢ rev e → (b : ℕ) × IsBefore h b
  before h within h_e h_t =
      let b = reached (next new) (length m.half_edges) (λ k k_in. (back k k_in).0)
      (λ k l k_in l_in same. sym (back k k_in).1 ∙ ap (prev new) same
      ∙ (back l l_in).1) h within in (
        b.0,
        record {
          b_in = b.1;
          b_e = λ z. h_e (sym b.2 ∙ ap (next new) z ∙ u.next_self);
          b_t = λ z. h_t (sym b.2 ∙ ap (next new) z ∙ u.twin_next_self);
          prev_is = ap (prev new) (sym b.2) ∙ (back b.0 b.1).1;
          next_is = b.2;
        },
      )

  -- the loop of an inner face is as it was
  pub inner_next : (h : ℕ) → h < length m.half_edges → 0 < face m h → next new h ≡ next m h
  inner_next h within inner =
      u.other_next h (λ z. absurd (omega (arith, can.outer, ap (face m) z)))
      (λ z. absurd (omega (arith, can.twin_outer, ap (face m) z)))
      (λ z. absurd (omega (arith, p_face, ap (face m) z)))
      (λ z. absurd (omega (arith, x_face, ap (face m) z)))

  -- an edge of an inner face keeps the edge before it
  pub inner_prev : (h : ℕ) → h < length m.half_edges → 0 < face m h → prev new h ≡ prev m h
  inner_prev h within inner =
      u.other_prev h (λ z. absurd (omega (arith, can.outer, ap (face m) z)))
      (λ z. absurd (omega (arith, can.twin_outer, ap (face m) z)))
      (λ z. absurd (omega (arith, at_e.same_face, can.outer, ap (face m) z)))
      (λ z. absurd (omega (arith, at_t.same_face, can.twin_outer, ap (face m) z)))

  some_after : (gone other : ℕ) → other ≢ gone → out_after gone other ≡ Some other
  some_after gone other differs = grind (arith, nat_tests)

  none_after : (gone other : ℕ) → other ≡ gone → out_after gone other ≡ None
  none_after gone other same = grind (arith, nat_tests)

  has_out : (h : ℕ) → h < length m.half_edges → h ≢ e → h ≢ rev e
      → IsSome (out_edge new (origin m h))
  has_out h within h_e h_t =
      elim (cases_eq (origin m h) (origin m e)) [
        | inl is ↦ elim (cases_eq (next m (rev e)) e) [
          | inl alone ↦ absurd (h_e (can.start_alone alone h within is))
          | inr differs ↦ rw (is, u.out, some_after e (next m (rev e)) differs) refl
        ]
        | inr a ↦ elim (cases_eq (origin m h) (origin m (rev e))) [
          | inl is ↦ elim (cases_eq (next m e) (rev e)) [
            | inl alone ↦ absurd (h_t (can.end_alone alone h within is))
            | inr differs ↦ rw (is, u.twin_out, some_after (rev e) (next m e) differs) refl
          ]
          | inr b ↦ rw (u.other_outs (origin m h) a b) (s.edges h within).has_out
        ]
      ]

  sound_edge : (h : ℕ) → h < length m.half_edges → h ≢ e → h ≢ rev e → IsSoundEdge new h
  sound_edge h within h_e h_t =
      let here = s.edges h within in
      let a = after h within h_e h_t in
      let b = before h within h_e h_t in
      sound_from new h (record {
        origin_in = rw (u.origins h, u.vertex_count) here.origin_in;
        face_in = rw (u.faces h, ap length u.face_edges) here.face_in;
        has_out = rw (u.origins h) (has_out h within h_e h_t);
      })
      (next_at new h a.0 a.1.next_is (rw u.edge_count a.1.n_in) a.1.prev_is
      (u.origins a.0 ∙ a.1.starts ∙ sym (u.origins (rev h)))
      (u.faces a.0 ∙ a.1.same_face ∙ sym (u.faces h)) a.1.differs)
      (record {
        prev_in = rw (b.1.prev_is, u.edge_count) b.1.b_in;
        next_prev = ap (next new) b.1.prev_is ∙ b.1.next_is;
      }) (λ inner.
      let was : 0 < face m h = rw (← u.faces h) inner in
      inner_kept m new h here was (inner_next h within was) (inner_prev h within was) (u.faces h)
      (inner_next (next m h) here.next_in (omega (arith, here.same_face)))
      (ap (λ l. get_or l (face m h - 1) 0) u.face_edges))

  -- the two sides of e, in order
  pub sides : (h : ℕ) → h ≢ e - e % 2 → h ≢ e - e % 2 + 1 → (h ≢ e) × (h ≢ rev e)
  sides h a b = elim (halves e) [
    | inl i ↦ (λ z. a (z ∙ i.0), λ z. b (z ∙ i.1))
    | inr i ↦ (λ z. b (z ∙ i.0), λ z. a (z ∙ i.1))
  ]

  -- an edge that is not e or its other side is none of the two in order
  pub sides_back : (h : ℕ) → h ≢ e → h ≢ rev e → (h ≢ e - e % 2) × (h ≢ e - e % 2 + 1)
  sides_back h a b = elim (halves e) [
    | inl i ↦ (λ z. a (z ∙ sym i.0), λ z. b (z ∙ sym i.1))
    | inr i ↦ (λ z. b (z ∙ sym i.1), λ z. a (z ∙ sym i.0))
  ]

  at_sides : (P : ℕ → Type 0) → P e → P (rev e) → P (e - e % 2) × P (e - e % 2 + 1)
  at_sides P a b = elim (halves e) [
    | inl i ↦ (rw (← i.0) a, rw (← i.1) b)
    | inr i ↦ (rw (← i.1) b, rw (← i.0) a)
  ]

  named_now : (v h : ℕ) → out_edge new v ≡ Some h
      → (h < length m.half_edges) × (origin m h ≡ v) × (h ≢ e) × (h ≢ rev e)
  named_now v h named =
      elim (cases_eq v (origin m e)) [
        | inl is ↦ elim (cases_eq (next m (rev e)) e) [
          | inl alone ↦ let none = sym named ∙ ap (out_edge new) is ∙ u.out
              ∙ none_after e (next m (rev e)) alone in absurd (cc)
          | inr differs ↦
              let same : h ≡ next m (rev e) = some_same _ _ (sym named ∙ ap (out_edge new) is
              ∙ u.out ∙ some_after e (next m (rev e)) differs) in
              rw same (at_t.next_in, y_starts ∙ sym is, differs, y_t)
        ]
        | inr a ↦ elim (cases_eq v (origin m (rev e))) [
          | inl is ↦ elim (cases_eq (next m e) (rev e)) [
            | inl alone ↦ let none = sym named ∙ ap (out_edge new) is ∙ u.twin_out
                ∙ none_after (rev e) (next m e) alone in absurd (cc)
            | inr differs ↦
                let same : h ≡ next m e = some_same _ _ (sym named ∙ ap (out_edge new) is
                ∙ u.twin_out ∙ some_after (rev e) (next m e) differs) in
                rw same (at_e.next_in, at_e.starts ∙ sym is, q_e, differs)
          ]
          | inr b ↦
              let had = s.vertices v h (sym (u.other_outs v a b) ∙ named) in (
                had.0,
                had.1,
                λ z. a (sym had.1 ∙ ap (origin m) z),
                λ z. b (sym had.1 ∙ ap (origin m) z),
              )
        ]
      ]

  beside_now : (h : ℕ) → outer_beside (rev e) (next m e) (prev m e) ≡ Some h
      → (h < length m.half_edges) × (face m h ≡ 0) × (h ≢ e) × (h ≢ rev e)
  beside_now h named =
      elim (beside_cases (rev e) (next m e) (prev m e)) [
        | inl i ↦ let same : h ≡ next m e = some_same _ _ (sym named ∙ i.1) in
            rw same (at_e.next_in, at_e.same_face ∙ can.outer, q_e, i.0)
        | inr (inl i) ↦ let same : h ≡ prev m e = some_same _ _ (sym named ∙ i.2) in
            rw same (at_e.prev_in, p_face, p_e, i.1)
        | inr (inr i) ↦ let none = sym named ∙ i.2 in absurd (cc)
      ]

  outer_now : (o : Option ℕ) (h : ℕ) → m.outer_edge ≡ o
      → outer_after o e (rev e) (next m e) (prev m e) ≡ Some h
      → (h < length m.half_edges) × (face m h ≡ 0) × (h ≢ e) × (h ≢ rev e)
  outer_now None h was named = absurd (cc)
  outer_now (Some k) h was named =
      let had = s.outer k was in
      elim (after_cases k e (rev e) (next m e) (prev m e)) [
        | inl i ↦ beside_now h (sym i.1 ∙ named)
        | inr i ↦ let same : h ≡ k = some_same _ _ (sym named ∙ i.2) in
            rw same (had.0, had.1, i.0, i.1)
      ]

  some_outer_now : (o : Option ℕ) → IsSome o → 2 < length m.half_edges
      → IsSome (outer_after o e (rev e) (next m e) (prev m e))
  some_outer_now None had more = absurd (cc)
  some_outer_now (Some k) had more =
      elim (after_cases k e (rev e) (next m e) (prev m e)) [
        | inl i ↦ rw i.1 (elim (beside_cases (rev e) (next m e) (prev m e)) [
          | inl a ↦ rw a.1 refl
          | inr (inl a) ↦ rw a.2 refl
          | inr (inr a) ↦ absurd (omega (arith, can.whole a.0 a.1))
        ])
        | inr i ↦ rw i.2 refl
      ]

  -- the mesh is sound but for the two sides of e, to which nothing else refers
  pub sound_but : IsSoundBut new (e - e % 2)
  sound_but =
      let n = at_sides (λ k. next new k ≡ k) u.next_self u.twin_next_self in
      let b = at_sides (λ k. prev new k ≡ k) u.prev_self u.twin_prev_self in
      let even = s.even in
      let e_in = can.within in
      record {
        even = rw u.edge_count s.even;
        hole_even = omega arith;
        within = rw u.edge_count (omega arith);
        edges = λ h within h_a h_b. let off = sides h h_a h_b in
            sound_edge h (rw u.edge_count at within) off.0 off.1;
        next_next = λ h within h_a h_b.
            let off = sides h h_a h_b in
            let a = after h (rw u.edge_count at within) off.0 off.1 in
            rw a.1.next_is (sides_back a.0 a.1.n_e a.1.n_t);
        prev_prev = λ h within h_a h_b.
            let off = sides h h_a h_b in
            let a = before h (rw u.edge_count at within) off.0 off.1 in
            rw a.1.prev_is (sides_back a.0 a.1.b_e a.1.b_t);
        next_self = n.0;
        prev_self = b.0;
        twin_next_self = n.1;
        twin_prev_self = b.1;
        origins = λ h within. rw (u.origins h, u.vertex_count)
            (s.edges h (rw u.edge_count at within)).origin_in;
        faces_in = λ h within. rw (u.faces h, ap length u.face_edges)
            (s.edges h (rw u.edge_count at within)).face_in;
        vertices = λ v h named.
            let now = named_now v h named in
            let off = sides_back h now.2 now.3 in
            (rw u.edge_count now.0, u.origins h ∙ now.1, off.0, off.1);
        faces = λ f some within.
            let had = s.faces f some (rw (ap length u.face_edges) at within) in
            let named : face_edge new f ≡ face_edge m f =
            ap (λ l. get_or l (f - 1) 0) u.face_edges in
            let off = sides_back (face_edge m f)
            (λ z. absurd (omega (arith, had.1, can.outer, ap (face m) z)))
            (λ z. absurd (omega (arith, had.1, can.twin_outer, ap (face m) z))) in
            rw (named, u.edge_count, u.faces (face_edge m f)) (had.0, had.1, off.0, off.1);
        outer = λ h named.
            let now = outer_now m.outer_edge h refl (sym u.outer_edge ∙ named) in
            let off = sides_back h now.2 now.3 in
            (rw u.edge_count now.0, u.faces h ∙ now.1, off.0, off.1);
        has_outer = λ more.
            let more' : 2 < length m.half_edges = rw u.edge_count at more in
            rw u.outer_edge (some_outer_now m.outer_edge (s.has_outer (omega arith)) more');
      }
