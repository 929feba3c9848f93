-- The outer face keeps one loop where an edge of the hull, or one with a free end, goes.
-- Lemmas: outline_moved, outline_peeled, outline_removed.
use Rattle.std.proofs.Common.{◌≡◌, ◌≢◌, [], ◌∷◌, ◌<◌, ◌∙◌}
use Rattle.std.proofs.Common.{ℕ, List, length, refl, sym, ap, inl, inr, arith}
use Rattle.std.proofs.lemmas.Bool.{cases_eq}
use Rattle.half_edge_links.specs.{AreSoundLinks, face, HasOneOutline, IsInner, IsPendant}
use Rattle.half_edge_links.specs.{KeepsOneOutline, Mesh, MovesVertex, next, Opens, Peels, prev}
use Rattle.half_edge_links.specs.{Removes, rev}
use Rattle.half_edge_links.proofs.{Lists.Named.◌and◌, Removing.RemoveSound.sound_removed}
use Rattle.half_edge_links.proofs.{Lists.Rev.rev_within, Removing.PeelLemmas.removable_opened}
use Rattle.half_edge_links.proofs.{OuterLoop.Outline.outline_same, Removing.OpenSound.sound_opened}
use Rattle.half_edge_links.proofs.Relinking.Rounds.{Exchange, HasOneRound, one_round, round_renamed}
use Rattle.half_edge_links.proofs.Relinking.Rounds.{stand, stand_first, stand_off, stand_second}
use Rattle.half_edge_links.proofs.Relinking.Walks.{outer_goes, outer_walk, round_of_outline}
use Rattle.half_edge_links.proofs.Removing.Conditions.{IsHullEdge, IsUnlinkable}
use Rattle.half_edge_links.proofs.Removing.Track.{face_at, former, former_is, IsLeft, left_walk}
use Rattle.half_edge_links.proofs.Removing.Track.{name, name_in, next_at, next_before}
use Rattle.half_edge_links.proofs.Removing.Track.{next_twin_before, old_at}
use Rattle.half_edge_links.proofs.Sound.Triangles.{same_loop, triangle_at}

-- the outer face keeps one loop when the last vertex takes the index of another
pub outline_moved : (m new : Mesh) (v : ℕ) → MovesVertex m new v → KeepsOneOutline m new
outline_moved m new v c =
    outline_same m new (record {
      there = λ h within outer. (rw c.edge_count within, c.faces h ∙ outer, c.nexts h);
      was = λ h within outer. (rw (← c.edge_count) within, sym (c.faces h) ∙ outer);
    })

-- the outer face has one loop if its edges lie on one round under the indexes before a removal
outline_left : (m new : Mesh) (e : ℕ) (s : AreSoundLinks m) (can : IsUnlinkable m e)
    (r : Removes m new e) → HasOneRound (left_walk m new e s can r (outer_walk new))
    → HasOneOutline new
outline_left m new e s can r one among closed h g h_in g_in h_outer g_outer =
    round_renamed (outer_walk new) (name m new e s can r) (former m new e s can r) (IsLeft m e)
    (outer_goes new (sound_removed m new e r)) (λ k outer. old_at m new e s can r k outer.0) one
    among (λ k live. closed k live.0 live.1) h g (h_in, h_outer) (g_in, g_outer) refl

-- an edge of the hull goes with its face
module _ (m mid new : Mesh) (h : ℕ) (s : AreSoundLinks m) (can : IsHullEdge m h)
    (o : Opens m mid (face m h)) (r : Removes mid new h) where
  inner : IsInner m (face m h)
  inner = (can.inner, (s.edges h can.within).face_in)

  -- the mesh in which the face of h is open is sound
  sm : AreSoundLinks mid
  sm = sound_opened m mid (face m h) s inner o

  -- edge h can be taken out of its loops there
  gap : IsUnlinkable mid h
  gap = removable_opened m mid h s can o

  -- the new index of an edge that is left
  abbrev to : ℕ → ℕ
  to k = name mid new h sm gap r k

  -- an edge other than the two sides of h is left
  left : (k : ℕ) → k < length m.half_edges → k ≢ h → k ≢ rev h → IsLeft mid h k
  left k within p q = record { within = rw o.edge_count within; other = p; other_side = q }

  -- an outer edge is none of the face that goes
  off_face : (k : ℕ) → face m k ≡ 0 → (g : ℕ) → face m g ≡ face m h → k ≢ g
  off_face k outer g is q = absurd (omega (arith, outer, ap (face m) q, is, can.inner))

  -- the other two sides of the face are outer now, between the edges beside the side that goes
  exchange : Exchange (outer_walk m) (left_walk mid new h sm gap r (outer_walk new))
      ((rev h, next m (rev h)) ∷ [])
      ((prev m (rev h), next m h ∷ prev m h ∷ [], next m (rev h)) ∷ []) []
  exchange =
      let t = triangle_at m h s can.within can.inner in
      let twin_in : rev h < length m.half_edges = rev_within h _ s.even can.within in
      let twin = s.edges (rev h) twin_in in
      let end : ℕ = next m (rev h) in
      let stands : List (ℕ × ℕ) = (rev h, end) ∷ [] in
      let off = λ (k : ℕ) (differs : k ≢ rev h). stand_off stands k (differs and tt) in
      let at_twin : stand stands (rev h) ≡ end = stand_first (rev h) end [] in
      let before_outer : face m (prev m (rev h)) ≡ 0 =
      sym (s.edges _ twin.prev_in).same_face ∙ ap (face m) twin.next_prev ∙ can.outer in
      let second : IsLeft mid h (next m h) =
      left _ t.next_in t.next_differs (λ q. off_face _ can.outer _ t.face_next (sym q)) in
      let third : IsLeft mid h (prev m h) =
      left _ t.prev_in t.prev_differs (λ q. off_face _ can.outer _ t.face_prev (sym q)) in
      let live : (k : ℕ) → IsLeft mid h k → face mid k ≡ 0 → IsLeft mid h k
      × ((to k < length new.half_edges) × (face new (to k) ≡ 0)) = λ k l outer.
      (l, (name_in mid new h sm gap r k l, face_at mid new h sm gap r k l ∙ outer)) in
      let lives : (k : ℕ) → k < length m.half_edges → face m k ≡ 0 → k ≢ rev h → IsLeft mid h k
      × ((to k < length new.half_edges) × (face new (to k) ≡ 0)) = λ k within outer differs. live k
      (left k within (off_face k outer h refl) differs) (o.other k within (λ q. absurd
      (omega (arith, outer, q, inner.0))) (λ q. absurd
      (omega (arith, outer, q, inner.0, inner.1))) ∙ outer) in
      let goes = λ (k j : ℕ) (j_left : IsLeft mid h j) (is : next new (to k) ≡ to j).
      ap (former mid new h sm gap r) is ∙ former_is mid new h sm gap r j j_left in
      let end_off : end ≢ rev h = twin.proper in
      let end_left = left end twin.next_in
      (off_face end (twin.same_face ∙ can.outer) h refl) end_off in
      let start_off : prev m (rev h) ≢ rev h = λ q. end_off (ap (next m) (sym q) ∙ twin.next_prev)
      in
      let start_left = left _ twin.prev_in (off_face _ before_outer h refl) start_off in
      record {
        lives = λ k outer none. lives k outer.0 outer.1 none.0;
        left = (off end end_off ∙ sym at_twin) and tt;
        stretched = ((twin.prev_in, before_outer) and (start_off and tt)
            and ap (stand stands) twin.next_prev ∙ at_twin
            and goes _ _ second (next_twin_before mid new h sm gap r _ start_left
            (sym (o.prev (rev h))) ∙ ap to (o.next h))
            and (live _ second (o.gone _ t.next_in t.face_next) and refl)
            and goes _ _ third (next_at mid new h sm gap r _ second
            (λ q. t.both_differ (q ∙ o.prev h))
            (λ q. off_face _ before_outer _ t.face_next (sym (q ∙ o.prev (rev h))))
            ∙ ap to (o.next _ ∙ t.next_next))
            and (live _ third (o.gone _ t.prev_in t.face_prev) and refl)
            and goes _ _ end_left (next_before mid new h sm gap r _ third (sym (o.prev h))
            ∙ ap to (o.next (rev h)))) and tt;
        other = λ k outer off_start off_twin.
            let here = s.edges k outer.0 in
            let next_off : next m k ≢ rev h =
            λ q. off_start (sym here.prev_next ∙ ap (prev m) q) in
            goes k _ (left _ here.next_in (off_face _ (here.same_face ∙ outer.1) h refl) next_off)
            (next_at mid new h sm gap r k (left k outer.0 (off_face k outer.1 h refl) off_twin)
            (λ q. off_face k outer.1 _ t.face_prev (q ∙ o.prev h))
            (λ q. off_start (q ∙ o.prev (rev h))) ∙ ap to (o.next k))
            ∙ sym (off (next m k) next_off);
        kept = λ k is off_second off_third.
            let k_in : k < length m.half_edges = rw (← o.edge_count) is.0.within in
            let now : face mid k ≡ 0 = sym (face_at mid new h sm gap r k is.0) ∙ is.1.1 in
            let off_here : face m k ≢ face m h =
            λ q. elim (same_loop m h k s can.within k_in can.inner q) [
              | inl z ↦ is.0.other z
              | inr (inl z) ↦ off_second z
              | inr (inr z) ↦ off_third z
            ] in
            let was : face m k ≡ 0 = elim (cases_eq (face m k) (length m.face_edges)) [
              | inl last ↦ absurd (omega (arith, o.last k k_in last off_here, now, inner.0))
              | inr differs ↦ sym (o.other k k_in off_here differs) ∙ now
            ] in
            (k_in, was) and (is.0.other_side and tt) and refl;
        alone = tt;
      }

-- the outer face keeps one loop when an edge of the hull is peeled off
pub outline_peeled : (m new : Mesh) (h : ℕ) → AreSoundLinks m → IsHullEdge m h → Peels m new h
    → KeepsOneOutline m new
outline_peeled m new h s can p one =
    let mid_sound = sm m p.opened new h s can p.opens p.removes in
    let can_mid = gap m p.opened new h s can p.opens p.removes in
    outline_left p.opened new h mid_sound can_mid p.removes (one_round (outer_walk m)
    (left_walk p.opened new h mid_sound can_mid p.removes (outer_walk new)) (outer_goes m s) _ _ _
    (exchange m p.opened new h s can p.opens p.removes) (round_of_outline m one))

-- an edge whose side b follows its side a goes
module _ (m new : Mesh) (e : ℕ) (s : AreSoundLinks m) (can : IsUnlinkable m e) (r : Removes m new e)
    (a b : ℕ) (a_in : a < length m.half_edges) (b_in : b < length m.half_edges) (free : next m a
    ≡ b) (other : (k : ℕ) → k < length m.half_edges → k ≢ a → k ≢ b → IsLeft m e k) (back : (k : ℕ)
    → IsLeft m e k → (k ≢ a) × (k ≢ b)) (jump : (k : ℕ) → IsLeft m e k → k ≡ prev m a
    → next new (name m new e s can r k) ≡ name m new e s can r (next m b)) (onward : (k : ℕ)
    → IsLeft m e k → k ≢ prev m a → k ≢ prev m b → next new (name m new e s can r k)
    ≡ name m new e s can r (next m k)) where
  free_exchange : Exchange (outer_walk m) (left_walk m new e s can r (outer_walk new))
      ((a, next m b) ∷ (b, next m b) ∷ []) [] []
  free_exchange =
      let end : ℕ = next m b in
      let at_a = s.edges a a_in in
      let at_b = s.edges b b_in in
      let b_a : b ≢ a = λ q. at_a.proper (free ∙ q) in
      let stands : List (ℕ × ℕ) = (a, end) ∷ (b, end) ∷ [] in
      let first : stand stands a ≡ end = stand_first a end ((b, end) ∷ []) in
      let second : stand stands b ≡ end = stand_second a end b end [] b_a in
      let goes = λ (k j : ℕ) (j_left : IsLeft m e j)
      (is : next new (name m new e s can r k) ≡ name m new e s can r j).
      ap (former m new e s can r) is ∙ former_is m new e s can r j j_left in
      record {
        lives = λ k outer none. let l = other k outer.0 none.0 none.1.0 in
            (l, (name_in m new e s can r k l, face_at m new e s can r k l ∙ outer.1));
        left = (ap (stand stands) free ∙ second ∙ sym first) and (elim (cases_eq end a) [
          | inl whole ↦ ap (stand stands) whole ∙ first
          | inr off ↦ stand_off stands end (off and at_b.proper and tt)
        ] ∙ sym second) and tt;
        stretched = tt;
        other = λ k outer off_a off_b.
            let here = s.edges k outer.0 in
            let l = other k outer.0 off_a off_b in
            elim (cases_eq k (prev m a)) [
              | inl same ↦ goes k end (other end at_b.next_in (λ q. off_b (same
                  ∙ ap (prev m) (sym q) ∙ at_b.prev_next)) at_b.proper) (jump k l same)
                  ∙ sym (ap (stand stands) (ap (next m) same ∙ at_a.next_prev) ∙ first)
              | inr off ↦
                  let next_a : next m k ≢ a = λ q. off (sym here.prev_next ∙ ap (prev m) q) in
                  let next_b : next m k ≢ b = λ q. off_a (sym here.prev_next
                  ∙ ap (prev m) (q ∙ sym free) ∙ at_a.prev_next) in
                  goes k (next m k) (other _ here.next_in next_a next_b) (onward k l off
                  (λ q. off_a (q ∙ ap (prev m) (sym free) ∙ at_a.prev_next)))
                  ∙ sym (stand_off stands (next m k) (next_a and next_b and tt))
            ];
        kept = λ k is. let off = back k is.0 in
            (is.0.within, sym (face_at m new e s can r k is.0) ∙ is.1.1)
            and (off.0 and off.1 and tt) and refl;
        alone = tt;
      }

  free_all : KeepsOneOutline m new
  free_all one = outline_left m new e s can r (one_round (outer_walk m)
      (left_walk m new e s can r (outer_walk new)) (outer_goes m s) _ _ _ free_exchange
      (round_of_outline m one))

-- the outer face keeps one loop when an edge of which one end has no other edge is removed
pub outline_removed : (m new : Mesh) (e : ℕ) → AreSoundLinks m → IsUnlinkable m e → Removes m new e
    → IsPendant m e → KeepsOneOutline m new
outline_removed m new e s can r pendant =
    let t_in = rev_within e (length m.half_edges) s.even can.within in
    elim pendant [
      | inl free ↦
          free_all m new e s can r e (rev e) can.within t_in free
          (λ k within p q. record { within = within; other = p; other_side = q })
          (λ k l. (l.other, l.other_side))
          (next_before m new e s can r)
          (next_at m new e s can r)
      | inr free ↦
          free_all m new e s can r (rev e) e t_in can.within free
          (λ k within p q. record { within = within; other = q; other_side = p })
          (λ k l. (l.other_side, l.other))
          (next_twin_before m new e s can r)
          (λ k l p q. next_at m new e s can r k l q p)
    ]
