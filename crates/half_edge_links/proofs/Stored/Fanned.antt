-- A vertex is put into a face among the records.
-- Lemmas: say_fanned, shows_fanned.
use Rattle.std.proofs.Common.{◌≡◌, ◌≢◌, ◌+◌, ◌<◌, ◌≤◌, [], ◌∷◌, ◌++◌, ◌∙◌}
use Rattle.std.proofs.Common.{ℕ, List, length, get_or, set, refl, sym, inl, inr, arith, add-zero}
use Rattle.std.proofs.lemmas.Bool.{cases_eq, cases_lt}
use Rattle.half_edge_links.specs.{AreJoined, edge_at, HalfEdge, IsLoopOfThree, no_edge, shown}
use Rattle.half_edge_links.specs.{Insert.fan_by, stored_at, StoredEdge}
use Rattle.half_edge_links.proofs.{Lists.Cases.◌or_else◌, Lists.Pushes.written}
use Rattle.half_edge_links.proofs.Lists.Pushes.{AreThreePlaces, grown_at, grown_at_0, grown_at_i}
use Rattle.half_edge_links.proofs.Lists.Pushes.{grown_at_j, grown_at_k, grown_other, length-grown}
use Rattle.half_edge_links.proofs.Stored.Keeps.{apart_joined, corner_at, corner_shown, corners_of}
use Rattle.half_edge_links.proofs.Stored.Keeps.{count_corners, HaveOwnNexts, keeps_push, keeps_set}
use Rattle.half_edge_links.proofs.Stored.Keeps.{keeps_shown, SayOrigins, shown_is}
use Rattle.half_edge_links.proofs.Stored.Shown.{face_shown, next_shown, prev_shown}

module _ (hs : List HalfEdge) (cs : List ℕ) (v a b c f g : ℕ) where
  abbrev n : ℕ
  n = length hs

  -- directed edges after vertex v was put into a face, whose edges are a, b and c
  abbrev fanned : List HalfEdge
  fanned =
      set (set (set hs
      a (record { origin = (edge_at hs a).origin; next = n + 2; prev = n + 1; face = f }))
      b (record { origin = (edge_at hs b).origin; next = n + 4; prev = n + 3; face = g + 1 }))
      c (record { origin = (edge_at hs c).origin; next = n; prev = n + 5; face = g + 2 })
      ++ record { origin = (edge_at hs a).origin; next = n + 5; prev = c; face = g + 2 } ∷ []
      ++ record { origin = v; next = a; prev = n + 2; face = f } ∷ []
      ++ record { origin = (edge_at hs b).origin; next = n + 1; prev = a; face = f } ∷ []
      ++ record { origin = v; next = b; prev = n + 4; face = g + 1 } ∷ []
      ++ record { origin = (edge_at hs c).origin; next = n + 3; prev = b; face = g + 1 } ∷ []
      ++ record { origin = v; next = c; prev = n; face = g + 2 } ∷ []

  module _ (at_a at_b at_c : ℕ) where
    -- where the edges before those of the list start then
    abbrev corners : List ℕ
    corners = set (set (set cs a v) b v) c v ++ at_c ∷ [] ++ at_b ∷ [] ++ at_a ∷ [] ++ at_c ∷ []
        ++ at_b ∷ [] ++ at_a ∷ []

    module _ (p : AreThreePlaces (length hs) a b c) (count : length cs ≡ length hs)
        (apart : HaveOwnNexts hs) (say : SayOrigins hs cs)
        (next_in : (h : ℕ) → h < length hs → (edge_at hs h).next < length hs)
        (next_a : (edge_at hs a).next ≡ b) (next_b : (edge_at hs b).next ≡ c)
        (next_c : (edge_at hs c).next ≡ a) (is_a : at_a ≡ (edge_at hs a).origin)
        (is_b : at_b ≡ (edge_at hs b).origin) (is_c : at_c ≡ (edge_at hs c).origin) where
      -- an edge has this next one, whose record says where it starts
      at_edge : (h m o : ℕ) (r : HalfEdge) → edge_at fanned h ≡ r → r.next ≡ m → r.origin ≡ o
          → get_or corners m 0 ≡ o
          → get_or corners (edge_at fanned h).next 0 ≡ (edge_at fanned h).origin
      at_edge h m o r is next_is origin_is said = rw (is, next_is, origin_is) said

      -- the three are different places of the other list too
      p_cs : AreThreePlaces (length cs) a b c
      p_cs = rw count p

      pushed : (q : ℕ)
          → get_or corners (n + q) 0 ≡ get_or (at_c ∷ at_b ∷ at_a ∷ at_c ∷ at_b ∷ at_a ∷ []) q 0
      unfolding written
      pushed q = rw (← count) (grown_at cs _ _ _ _ _ _ _ _ _ _ _ _ 0 p_cs q)

      say_before : (h : ℕ) → h < n
          → get_or corners (edge_at fanned h).next 0 ≡ (edge_at fanned h).origin
      unfolding written
      say_before h within =
          let off =
          λ (k m : ℕ) (k_in : k < n) (is : (edge_at hs k).next ≡ m) (differs : h ≢ k) (same :
          (edge_at hs h).next ≡ m). differs (apart h k within k_in (same ∙ sym is)) in
          elim (cases_eq h a or_else cases_eq h b or_else cases_eq h c) [
            | inl is ↦ rw is (at_edge a (n + 2) _ _
                (grown_at_i hs _ _ _ _ _ _ _ _ _ _ _ _ no_edge p) refl refl (pushed 2 ∙ is_a))
            | inr (_, inl is) ↦ rw is (at_edge b (n + 4) _ _
                (grown_at_j hs _ _ _ _ _ _ _ _ _ _ _ _ no_edge p) refl refl (pushed 4 ∙ is_b))
            | inr (_, inr (_, inl is)) ↦
                rw is (at_edge c n _ _ (grown_at_k hs _ _ _ _ _ _ _ _ _ _ _ _ no_edge p) refl refl
                (rw add-zero at (pushed 0) ∙ is_c))
            | inr (h_a, inr (h_b, inr h_c)) ↦
                rw (grown_other hs _ _ _ _ _ _ _ _ _ _ _ _ no_edge p h within h_a h_b h_c) (
                grown_other cs _ _ _ _ _ _ _ _ _ _ _ _ 0 p_cs (edge_at hs h).next
                (rw count (next_in h within)) (off c a p.k_in next_c h_c)
                (off a b p.i_in next_a h_a) (off b c p.j_in next_b h_b)
                ∙ say h within)
          ]

      say_pushed : (h : ℕ) → n ≤ h → h < n + 6
          → get_or corners (edge_at fanned h).next 0 ≡ (edge_at fanned h).origin
      unfolding written
      say_pushed h past new_in =
          elim (cases_eq h n or_else cases_eq h (n + 1) or_else cases_eq h (n + 2) or_else cases_eq
          h (n + 3) or_else cases_eq h (n + 4) or_else cases_eq h (n + 5)) [
            | inl is ↦ rw is (at_edge n (n + 5) _ _
                (grown_at_0 hs _ _ _ _ _ _ _ _ _ _ _ _ no_edge p) refl refl (pushed 5 ∙ is_a))
            | inr (_, inl is) ↦
                rw is (at_edge (n + 1) a _ _ (grown_at hs _ _ _ _ _ _ _ _ _ _ _ _ no_edge p 1) refl
                refl (grown_at_i cs _ _ _ _ _ _ _ _ _ _ _ _ 0 p_cs))
            | inr (_, inr (_, inl is)) ↦ rw is (at_edge (n + 2) (n + 1) _ _
                (grown_at hs _ _ _ _ _ _ _ _ _ _ _ _ no_edge p 2) refl refl (pushed 1 ∙ is_b))
            | inr (_, inr (_, inr (_, inl is))) ↦
                rw is (at_edge (n + 3) b _ _ (grown_at hs _ _ _ _ _ _ _ _ _ _ _ _ no_edge p 3) refl
                refl (grown_at_j cs _ _ _ _ _ _ _ _ _ _ _ _ 0 p_cs))
            | inr (_, inr (_, inr (_, inr (_, inl is)))) ↦ rw is (at_edge (n + 4) (n + 3) _ _
                (grown_at hs _ _ _ _ _ _ _ _ _ _ _ _ no_edge p 4) refl refl (pushed 3 ∙ is_c))
            | inr (_, inr (_, inr (_, inr (_, inr (_, inl is))))) ↦
                rw is (at_edge (n + 5) c _ _ (grown_at hs _ _ _ _ _ _ _ _ _ _ _ _ no_edge p 5) refl
                refl (grown_at_k cs _ _ _ _ _ _ _ _ _ _ _ _ 0 p_cs))
            | inr (h0, inr (h1, inr (h2, inr (h3, inr (h4, inr h5))))) ↦ absurd (omega arith)
          ]

      -- the records say of each edge where it starts, once a vertex was put into a face
      pub say_fanned : SayOrigins fanned corners
      unfolding written
      say_fanned h new_in = elim (cases_lt h n) [
        | inl within ↦ say_before h within
        | inr past ↦
            say_pushed h past (rw (length-grown hs _ _ _ _ _ _ _ _ _ _ _ _ no_edge p) at new_in)
      ]

-- the records after vertex v was put into a face with the edges a, b and c show what this makes
fanned_records : (rs : List StoredEdge) (v n a b c f g : ℕ) → AreJoined (shown rs)
    → AreThreePlaces (length (shown rs)) a b c → n ≡ length (shown rs) →
    (edge_at (shown rs) a).next ≡ b → (edge_at (shown rs) b).next ≡ c
    → (edge_at (shown rs) c).next ≡ a →
    shown (set (set (set rs
    a (record { prev_origin = v; next = n + 2; prev = n + 1; face = f }))
    b (record { prev_origin = v; next = n + 4; prev = n + 3; face = g + 1 }))
    c (record { prev_origin = v; next = n; prev = n + 5; face = g + 2 })
    ++ record { prev_origin = (stored_at rs a).prev_origin; next = n + 5; prev = c; face = g + 2 }
    ∷ []
    ++ record { prev_origin = (stored_at rs c).prev_origin; next = a; prev = n + 2; face = f } ∷ []
    ++ record { prev_origin = (stored_at rs b).prev_origin; next = n + 1; prev = a; face = f } ∷ []
    ++ record { prev_origin = (stored_at rs a).prev_origin; next = b; prev = n + 4; face = g + 1 }
    ∷ []
    ++ record { prev_origin = (stored_at rs c).prev_origin; next = n + 3; prev = b; face = g + 1 }
    ∷ []
    ++ record { prev_origin = (stored_at rs b).prev_origin; next = c; prev = n; face = g + 2 } ∷ [])
    ≡ fanned (shown rs) (corners_of rs) v a b c f g
fanned_records rs v n a b c f g j p count next_a next_b next_c =
    let hs : List HalfEdge = shown rs in
    rw count (shown_is _ _ _ (
    keeps_push _ _ _
    (keeps_push _ _ _ (keeps_push _ _ _ (keeps_push _ _ _ (keeps_push _ _ _ (keeps_push _ _ _ (
    keeps_set _ _ _
    (keeps_set _ _ _ (keeps_set _ _ _ (keeps_shown rs) a _ _ _ _ _) b _ _ _ _ _) c _ _ _ _ _)
    _ _ _ _ _) _ _ _ _ _) _ _ _ _ _) _ _ _ _ _) _ _ _ _ _) _ _ _ _ _) (
    say_fanned hs (corners_of rs) v a b c f g _ _ _ p (count_corners rs) (apart_joined hs j)
    (corner_shown rs) j.next_in next_a next_b next_c (corner_at rs a b p.i_in next_a)
    (corner_at rs b c p.j_in next_b) (corner_at rs c a p.k_in next_c)))

-- the records after a vertex was put into a face show what this makes
pub shows_fanned : (rs : List StoredEdge) (v e n g : ℕ) → AreJoined (shown rs)
    → IsLoopOfThree (shown rs) e → n ≡ length (shown rs) →
    (let hs = shown rs in let first = stored_at rs e in let second = stored_at rs first.next in
    let third = stored_at rs first.prev in
    shown (set (set (set rs
    e (record { prev_origin = v; next = n + 2; prev = n + 1; face = first.face }))
    first.next (record { prev_origin = v; next = n + 4; prev = n + 3; face = g + 1 }))
    first.prev (record { prev_origin = v; next = n; prev = n + 5; face = g + 2 })
    ++ record { prev_origin = first.prev_origin; next = n + 5; prev = first.prev; face = g + 2 }
    ∷ []
    ++ record { prev_origin = third.prev_origin; next = e; prev = n + 2; face = first.face } ∷ []
    ++ record { prev_origin = second.prev_origin; next = n + 1; prev = e; face = first.face } ∷ []
    ++ record { prev_origin = first.prev_origin; next = first.next; prev = n + 4; face = g + 1 }
    ∷ []
    ++ record { prev_origin = third.prev_origin; next = n + 3; prev = first.next; face = g + 1 }
    ∷ []
    ++ record { prev_origin = second.prev_origin; next = first.prev; prev = n; face = g + 2 } ∷ [])
    ≡ (let first = edge_at hs e in fan_by hs v first.face (length hs) g e first
    (edge_at hs first.next) (edge_at hs first.prev)))
shows_fanned rs v e n g j a count =
    let e_in = a.within in
    let p : AreThreePlaces (length (shown rs)) e (edge_at (shown rs) e).next
    (edge_at (shown rs) e).prev = record {
      i_in = e_in;
      j_in = j.next_in e e_in;
      k_in = j.prev_in e e_in;
      ij = λ same. a.next_differs (sym same);
      ik = λ same. a.prev_differs (sym same);
      jk = a.both_differ;
    } in
    simp (← next_shown, ← prev_shown, ← face_shown) (fanned_records rs v n e _ _
    (edge_at (shown rs) e).face g j p count refl a.three (j.next_prev e e_in))
