-- An edge of a mesh without inner faces gets another place along the outer face, and one end of the
-- edge beside it another vertex: what is kept.
-- Notions: IsLineMove; sound_moved, outline_moved, apart_moved, ends_move.
use Rattle.std.proofs.Common.{◌≡◌, ◌≢◌, ◌⊎◌, ℕ, ◌<◌, [], length, Some, refl, sym, ap, ◌∙◌}
use Rattle.std.proofs.Common.{inl, inr, arith}
use Rattle.std.proofs.lemmas.Bool.{cases_eq}
use Rattle.half_edge_links.specs.{AreSoundLinks, face, HasApartEnds, KeepsOneOutline, Mesh}
use Rattle.half_edge_links.specs.{MovesEdge, next, origin, out_edge, prev, rev}
use Rattle.half_edge_links.proofs.{Lists.Cases.◌or_else◌, Relinking.Walks.outline_exchanged}
use Rattle.half_edge_links.proofs.Lists.Rev.{rev-rev, rev_differs, rev_same, rev_within}
use Rattle.half_edge_links.proofs.Relinking.Walks.{exchange_moved, IsMoved, outer_walk}
use Rattle.half_edge_links.proofs.Sound.Ends.{ends_moved}
use Rattle.half_edge_links.proofs.Sound.Parts.{EachNextIsSound, HasNoFace, IsInMesh, IsNextSound}
use Rattle.half_edge_links.proofs.Sound.Parts.{next_at, next_kept, prev_sound, sound_from}
use Rattle.half_edge_links.proofs.Sound.Parts.{still_named, still_out}

-- edge k goes from between p and q to between r and a along the outer face; the other side of edge
-- e starts where edge x does now, and the vertex where it started names the edge after e
pub record IsLineMove (m new : Mesh) (e x k p q r a : ℕ) : Type 0 where
  pub one_face : m.face_edges ≡ []
  pub edge_in : e < length m.half_edges
  pub twin_in : rev e < length m.half_edges
  pub start_in : x < length m.half_edges
  pub after_in : next m e < length m.half_edges
  pub start : origin m (next m e) ≡ origin m (rev e)
  pub after_off : next m e ≢ rev e
  pub k_in : k < length m.half_edges
  pub p_in : p < length m.half_edges
  pub q_in : q < length m.half_edges
  pub r_in : r < length m.half_edges
  pub a_in : a < length m.half_edges
  pub was_p : next m p ≡ k
  pub was_k : next m k ≡ q
  pub was_r : next m r ≡ a
  pub p-k : p ≢ k
  pub k-q : k ≢ q
  pub r-k : r ≢ k
  pub k-a : k ≢ a
  pub p-q : p ≢ q
  pub edge_named : (e ≡ p) ⊎ (e ≡ r)
  pub before_named : (prev m (rev e) ≡ r) ⊎ (prev m (rev e) ≡ k)
  pub next_p : next new p ≡ q
  pub next_r : next new r ≡ k
  pub next_k : next new k ≡ a
  pub prev_q : prev new q ≡ p
  pub prev_k : prev new k ≡ r
  pub prev_a : prev new a ≡ k
  pub other_next : (h : ℕ) → h < length m.half_edges → h ≢ p → h ≢ r → h ≢ k
      → next new h ≡ next m h
  pub other_prev : (h : ℕ) → h < length m.half_edges → h ≢ q → h ≢ k → h ≢ a
      → prev new h ≡ prev m h
  pub starts_q : origin new q ≡ origin new (rev p)
  pub starts_k : origin new k ≡ origin new (rev r)
  pub starts_a : origin new a ≡ origin new (rev k)
  pub origin_twin : origin new (rev e) ≡ origin m x
  pub other_origins : (h : ℕ) → h < length m.half_edges → h ≢ rev e → origin new h ≡ origin m h
  pub faces : (h : ℕ) → h < length m.half_edges → face new h ≡ face m h
  pub edge_count : length new.half_edges ≡ length m.half_edges
  pub vertex_count : length new.out_edges ≡ length m.out_edges
  pub out : out_edge new (origin m (next m e)) ≡ Some (next m e)
  pub other_outs : (u : ℕ) → u ≢ origin m (next m e) → out_edge new u ≡ out_edge m u
  pub face_edges : new.face_edges ≡ m.face_edges
  pub outer_edge : new.outer_edge ≡ m.outer_edge

module _ (m new : Mesh) (e x k p q r a : ℕ) (s : AreSoundLinks m)
    (i : IsLineMove m new e x k p q r a) where
  face_zero : HasNoFace m
  face_zero h within = omega (arith, (s.edges h within).face_in, ap length i.one_face)

  zero_after : (h : ℕ) → h < length m.half_edges → face new h ≡ 0
  zero_after h within = i.faces h within ∙ face_zero h within

  -- an old edge that starts where edge h does now
  origin_of : (h : ℕ) → h < length m.half_edges
      → (g : ℕ) × (g < length m.half_edges) × (origin new h ≡ origin m g)
  origin_of h within =
      elim (cases_eq h (rev e)) [
        | inl same ↦ (x, i.start_in, ap (origin new) same ∙ i.origin_twin)
        | inr differs ↦ (h, within, i.other_origins h within differs)
      ]

  in_mesh : (h : ℕ) → h < length m.half_edges → IsInMesh new h
  in_mesh h within =
      let o = origin_of h within in
      let there = s.edges o.0 o.1 in
      record {
        origin_in = rw (o.2, i.vertex_count) there.origin_in;
        face_in = rw (zero_after h within) (omega arith);
        has_out = rw o.2 (still_out m new _ _ i.out i.other_outs _ there.has_out);
      }

  -- where n comes after h, starts where h ends and is another edge, h fits the edge after it
  fits : (h n : ℕ) → h < length m.half_edges → n < length m.half_edges → next new h ≡ n
      → prev new n ≡ h → origin new n ≡ origin new (rev h) → n ≢ h → IsNextSound new h
  fits h n h_in n_in at back starts differs = next_at new h n at (rw i.edge_count n_in) back starts
      (zero_after n n_in ∙ sym (zero_after h h_in)) differs

  old_prev : (h n : ℕ) → h < length m.half_edges → next m h ≡ n → prev m n ≡ h
  old_prev h n h_in at = ap (prev m) (sym at) ∙ (s.edges h h_in).prev_next

  next_ok : EachNextIsSound new
  next_ok h new_in =
      let within : h < length m.half_edges = rw i.edge_count at new_in in
      let here = s.edges h within in
      elim (cases_eq h p or_else cases_eq h r or_else cases_eq h k) [
        | inl is ↦ rw is (fits p q i.p_in i.q_in i.next_p i.prev_q i.starts_q (λ z. i.p-q (sym z)))
        | inr (_, inl is) ↦
            rw is (fits r k i.r_in i.k_in i.next_r i.prev_k i.starts_k (λ z. i.r-k (sym z)))
        | inr (_, inr (_, inl is)) ↦
            rw is (fits k a i.k_in i.a_in i.next_k i.prev_a i.starts_a (λ z. i.k-a (sym z)))
        | inr (off_p, inr (off_r, inr off_k)) ↦
            let at = λ (n g : ℕ) (back : prev m n ≡ g) (z : next m h ≡ n).
            sym here.prev_next ∙ ap (prev m) z ∙ back in
            next_kept m new h here (i.other_next h within off_p off_r off_k)
            (i.other_prev _ here.next_in (λ z. off_k (at q k (old_prev k q i.k_in i.was_k) z))
            (λ z. off_p (at k p (old_prev p k i.p_in i.was_p) z))
            (λ z. off_r (at a r (old_prev r a i.r_in i.was_r) z)))
            (i.other_origins _ here.next_in (λ z. elim i.before_named
            [ inl y ↦ off_r (at (rev e) r y z) | inr y ↦ off_k (at (rev e) k y z) ]))
            (i.other_origins (rev h) (rev_within h _ s.even within) (λ z. elim i.edge_named
            [ inl y ↦ off_p (rev_same h e z ∙ y) | inr y ↦ off_r (rev_same h e z ∙ y) ]))
            (i.faces h within) (i.faces _ here.next_in) (omega (arith, i.edge_count))
      ]

  -- a sound mesh stays sound
  pub sound_moved : AreSoundLinks new
  sound_moved =
      record {
        even = rw i.edge_count s.even;
        edges = λ h within.
            let old : h < length m.half_edges = rw i.edge_count at within in
            sound_from new h (in_mesh h old) (next_ok h within) (prev_sound new next_ok h within)
            (λ some. absurd (omega (arith, some, zero_after h old)));
        vertices = still_named m new _ _ i.out i.other_outs s
            (omega (arith, i.edge_count, i.after_in)) (i.other_origins _ i.after_in i.after_off)
            (λ h within off. (
              omega (arith, i.edge_count, within),
              i.other_origins h within (λ q. off (ap (origin m) q ∙ sym i.start)),
            ));
        faces = λ k some within. absurd
            (omega (arith, ap length (i.face_edges ∙ i.one_face), some, within));
        outer = λ h is.
            let had = s.outer h (sym i.outer_edge ∙ is) in
            (omega (arith, i.edge_count, had.0), zero_after h had.0);
        has_outer = λ some. rw i.outer_edge (s.has_outer (omega (arith, i.edge_count)));
      }

  outer_moves : IsMoved (outer_walk m) (outer_walk new) k p q r a
  outer_moves = record {
    there = λ h o. (rw i.edge_count o.0, zero_after h o.0);
    back = λ h o. let within : h < length m.half_edges = rw i.edge_count at o.0 in
        (within, face_zero h within);
    labels = λ h o off. refl;
    at_r = refl;
    t_in = (i.k_in, face_zero k i.k_in);
    p_in = (i.p_in, face_zero p i.p_in);
    r_in = (i.r_in, face_zero r i.r_in);
    was_after = i.was_p;
    was_before = i.was_k;
    were_joined = i.was_r;
    are_joined = i.next_p;
    is_after = i.next_r;
    is_before = i.next_k;
    p_off = i.p-k;
    q_off = λ z. i.k-q (sym z);
    r_off = i.r-k;
    s_off = λ z. i.k-a (sym z);
    other = λ h o off_p off_r off_k. (
      i.other_next h o.0 off_p off_r off_k,
      λ z. off_p (sym (old_prev h k o.0 z) ∙ old_prev p k i.p_in i.was_p),
    );
  }

  -- the outer face keeps one loop
  pub outline_moved : KeepsOneOutline m new
  outline_moved = outline_exchanged m new s _ _ _
      (exchange_moved (outer_walk m) (outer_walk new) k p q r a outer_moves)

  start_kept : origin new e ≡ origin m e
  start_kept = i.other_origins e i.edge_in (λ z. rev_differs e (sym z))

  -- no edge joins a vertex to itself, if e does not start where its end goes
  pub apart_moved : origin m e ≢ origin m x → HasApartEnds m → HasApartEnds new
  apart_moved differs apart h within =
      let h_in : h < length m.half_edges = omega (arith, within, i.edge_count) in
      let moved : origin new e ≢ origin new (rev e) =
      λ z. differs (sym start_kept ∙ z ∙ i.origin_twin) in
      elim (cases_eq h (rev e) or_else cases_eq h e) [
        | inl same ↦ λ z. moved
            (ap (origin new) (sym (rev-rev e) ∙ ap rev (sym same)) ∙ sym z ∙ ap (origin new) same)
        | inr (_, inl same) ↦
            λ z. moved (ap (origin new) (sym same) ∙ z ∙ ap (λ j. origin new (rev j)) same)
        | inr (off_twin, inr off) ↦ λ z. apart h h_in (sym (i.other_origins h h_in off_twin) ∙ z
            ∙ i.other_origins (rev h) (rev_within _ _ s.even h_in) (λ y. off (rev_same h e y)))
      ]

  -- the end of e moves, and no other ends change
  pub ends_move : MovesEdge m new e (origin m e) (origin m x)
  ends_move = ends_moved m new e (origin m e) (origin m x) s i.edge_in i.edge_count start_kept
      i.origin_twin (λ h within off off_twin. i.other_origins h within off_twin)
