-- Putting a vertex into a face keeps a mesh sound.
-- Notions: IsOffFace; round, rev0, rev1, rev2, rev3, rev4, rev5, kept, away_by_face, next_away,
-- prev_away, origin_kept, sound_after_insert.
use Rattle.std.proofs.Common.{◌≡◌, ◌≢◌, ◌+◌, ◌%◌, ◌<◌, ◌≤◌, ◌∙◌}
use Rattle.std.proofs.Common.{ℕ, length, refl, sym, ap, inl, inr, arith}
use Rattle.std.proofs.lemmas.Bool.{cases_eq}
use Rattle.half_edge_links.specs.{AreSoundLinks, edge_at, face, face_edge, HalfEdge, HasLinks}
use Rattle.half_edge_links.specs.{Inserts, IsAlone, IsInnerEdge, IsSoundEdge, Mesh, next, origin}
use Rattle.half_edge_links.specs.{prev, rev}
use Rattle.half_edge_links.proofs.{Lists.Cases.◌or_else◌, Lists.Rev.rev_within}
use Rattle.half_edge_links.proofs.Sound.Parts.{EachEdgeIsSound, KeepsBusy, KeepsOutEdges}
use Rattle.half_edge_links.proofs.Sound.Parts.{late_cases, loop_sound, NamesFaces, NamesOutEdges}
use Rattle.half_edge_links.proofs.Sound.Parts.{NamesOuterEdge, rev_of_even, rev_of_odd, sound_kept}
use Rattle.half_edge_links.proofs.Sound.Parts.{still_named, still_out}
use Rattle.half_edge_links.proofs.Sound.Triangles.{IsTriangle, same_loop, triangle_at}

-- an edge is none of those round the face
pub record IsOffFace (m : Mesh) (a h : ℕ) : Type 0 where
  pub first : h ≢ a
  pub second : h ≢ next m a
  pub third : h ≢ prev m a

module _ (m new : Mesh) (v f a n g : ℕ) (s : AreSoundLinks m) (inner : IsInnerEdge m a)
    (alone : IsAlone m v) (at_f : f ≡ face m a) (at_n : n ≡ length m.half_edges)
    (at_g : g ≡ length m.face_edges) (i : Inserts m new v f a n g) where
  -- the face is a loop of three edges
  pub round : IsTriangle m a
  round = triangle_at m a s inner.0 inner.1

  n_even : n % 2 ≡ 0
  n_even = rw at_n s.even

  -- the other side of the first new edge is the second
  pub rev0 : rev n ≡ n + 1
  rev0 = rev_of_even n n_even

  -- the other side of the second new edge is the first
  pub rev1 : rev (n + 1) ≡ n
  rev1 = rev_of_odd n n_even

  -- the other side of the third new edge is the fourth
  pub rev2 : rev (n + 2) ≡ n + 3
  rev2 = rev_of_even (n + 2) (omega (arith, n_even)) ∙ omega arith

  -- the other side of the fourth new edge is the third
  pub rev3 : rev (n + 3) ≡ n + 2
  rev3 = let q : n + 2 + 1 ≡ n + 3 = omega arith in
      rw (← q) (rev_of_odd (n + 2) (omega (arith, n_even)))

  -- the other side of the fifth new edge is the sixth
  pub rev4 : rev (n + 4) ≡ n + 5
  rev4 = rev_of_even (n + 4) (omega (arith, n_even)) ∙ omega arith

  -- the other side of the sixth new edge is the fifth
  pub rev5 : rev (n + 5) ≡ n + 4
  rev5 = let q : n + 4 + 1 ≡ n + 5 = omega arith in
      rw (← q) (rev_of_odd (n + 4) (omega (arith, n_even)))

  -- an old edge that is none of those round the face stays as it was
  pub kept : (h : ℕ) → h < n → IsOffFace m a h → edge_at new.half_edges h ≡ edge_at m.half_edges h
  kept h within w = i.other_edges h within w.first w.second w.third

  -- an edge of another face is none of those round the face
  pub away_by_face : (h : ℕ) → face m h ≢ f → IsOffFace m a h
  away_by_face h differs =
      let t = round in
      let is = sym at_f in
      record {
        first = λ same. differs (cc);
        second = λ same. differs (cc);
        third = λ same. differs (cc);
      }

  face_differs : (h : ℕ) → h < n → IsOffFace m a h → face m h ≢ f
  face_differs h within w same =
      elim (same_loop m a h s inner.0 (rw (← at_n) within) inner.1 (same ∙ at_f)) [
        | inl x ↦ w.first x
        | inr y ↦ elim y [ inl x ↦ w.second x | inr x ↦ w.third x ]
      ]

  -- the edge after one that is none of those round the face is none of them
  pub next_away : (h : ℕ) → h < n → IsOffFace m a h → IsOffFace m a (next m h)
  next_away h within w = away_by_face (next m h)
      (λ q. face_differs h within w (sym (s.edges h (rw (← at_n) within)).same_face ∙ q))

  -- the edge before one that is none of those round the face is none of them
  pub prev_away : (h : ℕ) → h < n → IsOffFace m a h → IsOffFace m a (prev m h)
  prev_away h within w =
      let here = s.edges h (rw (← at_n) within) in
      away_by_face (prev m h) (λ q. face_differs h within w
      (ap (face m) (sym here.next_prev) ∙ (s.edges (prev m h) here.prev_in).same_face ∙ q))

  -- each old edge starts where it did
  pub origin_kept : (h : ℕ) → h < n → origin new h ≡ origin m h
  origin_kept h within =
      elim (cases_eq h a or_else cases_eq h (next m a) or_else cases_eq h (prev m a)) [
        | inl same ↦ cc (i.first.origin)
        | inr (x, inl same) ↦ cc (i.second.origin)
        | inr (x, inr (y, inl same)) ↦ cc (i.third.origin)
        | inr (x, inr (y, inr z)) ↦ ap (λ (w : HalfEdge). w.origin) (i.other_edges h within x y z)
      ]

  has_out : KeepsOutEdges m new
  has_out = still_out m new v (n + 1) i.out i.other_outs

  rev_in : (h : ℕ) → h < n → rev h < n
  rev_in h within = rev_within h n n_even within

  sound_away : (h : ℕ) → h < n → IsOffFace m a h → IsSoundEdge new h
  sound_away h within w =
      let within' : h < length m.half_edges = omega arith in
      let here = s.edges h within' in
      sound_kept m new h here (record {
        edge = kept h within w;
        at_next = kept (next m h) (omega (arith, here.next_in)) (next_away h within w);
        at_prev = kept (prev m h) (omega (arith, here.prev_in)) (prev_away h within w);
        at_rev = origin_kept (rev h) (rev_in h within);
        named = λ some. i.kept_faces (face m h) some (omega (arith, here.face_in))
            (face_differs h within w);
        out = has_out (origin m h) here.has_out;
        edges = omega (arith, i.edge_count);
        vertices = omega (arith, i.vertex_count);
        faces = omega (arith, i.face_count);
      })

  busy_old : KeepsBusy m new
  busy_old h within = let here = s.edges h within in record {
    within = rw i.vertex_count here.origin_in;
    has_out = has_out (origin m h) here.has_out;
  }

  -- old edge h, edge b from its end to v and edge d from v to its start go round a face
  face_sound : (h b d y k : ℕ) → h < n → (n ≤ b) × (b < n + 6) → (n ≤ d) × (d < n + 6) → b ≢ d → k
      ≤ g + 2 → origin m (next m h) ≡ y → HasLinks new h (origin m h) b d k → HasLinks new b y d h k
      → HasLinks new d v h b k → origin new (rev b) ≡ v → origin new (rev d) ≡ origin m h
      → face_edge new k ≡ h → IsSoundEdge new h × IsSoundEdge new b × IsSoundEdge new d
  face_sound h b d y k h_in b_in d_in b_d k_in at_y first second third at_b at_d =
      let old : h < length m.half_edges = omega (arith, at_n) in
      let here = s.edges h old in
      loop_sound new h b d (origin m h) y v k (record {
        first = first;
        second = second;
        third = third;
        within = (
          omega (arith, i.edge_count),
          omega (arith, i.edge_count, b_in.1),
          omega (arith, i.edge_count, d_in.1),
        );
        apart = (λ q. absurd (omega (arith, b_in.0)), b_d, λ q. absurd (omega (arith, d_in.0)));
        ends = (origin_kept (rev h) (rev_in h h_in) ∙ sym here.starts ∙ at_y, at_b, at_d);
        busy = (
          busy_old h old,
          rw at_y at (busy_old (next m h) here.next_in),
          record { within = rw i.vertex_count alone.0; has_out = rw i.out refl },
        );
        face_in = omega (arith, i.face_count);
      })

  first_sound : IsSoundEdge new a × IsSoundEdge new (n + 2) × IsSoundEdge new (n + 1)
  first_sound = face_sound a (n + 2) (n + 1) _ f (omega (arith, at_n, round.h_in))
      (omega arith, omega arith) (omega arith, omega arith) (λ q. absurd (omega arith))
      (omega (arith, at_f, at_g, (s.edges a inner.0).face_in)) refl i.first i.from_second i.to_first
      (ap (origin new) rev2 ∙ i.to_second.origin)
      (ap (origin new) rev1 ∙ i.from_first.origin) i.named

  second_sound : IsSoundEdge new (next m a) × IsSoundEdge new (n + 4) × IsSoundEdge new (n + 3)
  second_sound = face_sound (next m a) (n + 4) (n + 3) _ (g + 1)
      (omega (arith, at_n, round.next_in)) (omega arith, omega arith) (omega arith, omega arith)
      (λ q. absurd (omega arith)) (omega arith) (ap (origin m) round.next_next) i.second
      i.from_third i.to_second (ap (origin new) rev4 ∙ i.to_third.origin)
      (ap (origin new) rev3 ∙ i.from_second.origin) i.second_face

  third_sound : IsSoundEdge new (prev m a) × IsSoundEdge new n × IsSoundEdge new (n + 5)
  third_sound = face_sound (prev m a) n (n + 5) _ (g + 2) (omega (arith, at_n, round.prev_in))
      (omega arith, omega arith) (omega arith, omega arith) (λ q. absurd (omega arith))
      (omega arith) (ap (origin m) round.next_prev) i.third i.from_first i.to_third (ap (origin new)
      rev0 ∙ i.to_first.origin) (ap (origin new) rev5 ∙ i.from_third.origin) i.third_face

  sound_at : EachEdgeIsSound new
  sound_at h within =
      elim (late_cases h n (omega (arith, i.edge_count))) [
        | inl old ↦
            elim (cases_eq a h or_else cases_eq (next m a) h or_else cases_eq (prev m a) h) [
              | inl same ↦ rw (← same) first_sound.0
              | inr (x, inl same) ↦ rw (← same) second_sound.0
              | inr (x, inr (y, inl same)) ↦ rw (← same) third_sound.0
              | inr (x, inr (y, inr z)) ↦ sound_away h old
                  (record
                  { first = λ q. x (sym q); second = λ q. y (sym q); third = λ q. z (sym q) })
            ]
        | inr (inl is) ↦ rw is third_sound.1
        | inr (inr (inl is)) ↦ rw is first_sound.1
        | inr (inr (inr (inl is))) ↦ rw is second_sound.1
        | inr (inr (inr (inr (inl is)))) ↦ rw is first_sound.2
        | inr (inr (inr (inr (inr e)))) ↦
            elim e [ inl is ↦ rw is second_sound.2 | inr is ↦ rw is third_sound.2 ]
      ]

  vertices_kept : NamesOutEdges new
  vertices_kept = still_named m new v (n + 1) i.out i.other_outs s (omega (arith, i.edge_count))
      i.to_first.origin (λ h within off. (
        omega (arith, i.edge_count, at_n, within),
        origin_kept h (omega (arith, at_n, within)),
      ))

  faces_kept : NamesFaces new
  faces_kept k some within =
      elim (cases_eq k f or_else cases_eq k (g + 1) or_else cases_eq k (g + 2)) [
        | inl same ↦
            let named : face_edge new k ≡ a = rw same i.named in
            (omega (arith, i.edge_count, round.h_in), cc (i.first.face))
        | inr (x, inl same) ↦
            let named : face_edge new k ≡ next m a = rw same i.second_face in
            (omega (arith, i.edge_count, round.next_in), cc (i.second.face))
        | inr (x, inr (y, inl same)) ↦
            let named : face_edge new k ≡ prev m a = rw same i.third_face in
            (omega (arith, i.edge_count, round.prev_in), cc (i.third.face))
        | inr (x, inr (y, inr z)) ↦
            let named = i.kept_faces k some (omega (arith, i.face_count)) x in
            let had = s.faces k some (omega (arith, i.face_count)) in
            let at = kept (face_edge m k) (omega (arith, had.0)) (away_by_face _ (λ q. x (cc))) in
            (omega (arith, i.edge_count, had.0), cc)
      ]

  outer_kept : NamesOuterEdge new
  outer_kept h named =
      let had = s.outer h (sym i.outer_edge ∙ named) in
      let at = kept h (omega (arith, had.0))
      (away_by_face h (λ q. absurd (omega (arith, at_f, inner.1)))) in
      (omega (arith, i.edge_count, had.0), cc)

  -- a sound mesh stays sound when a lonely vertex is put into an inner face
  pub sound_after_insert : AreSoundLinks new
  sound_after_insert = record {
    even = rw i.edge_count (let e = n_even in omega arith);
    edges = sound_at;
    vertices = vertices_kept;
    faces = faces_kept;
    outer = outer_kept;
    has_outer = λ some. rw i.outer_edge (s.has_outer (omega (arith, round.h_in)));
  }
