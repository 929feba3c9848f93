-- The edges round each vertex stay one round where edges are put between them, or turned.
-- Lemmas: stars_hung, stars_closed, stars_flipped, stars_inserted.
use Rattle.std.proofs.Common.{◌≡◌, ◌≢◌, ◌+◌, ◌<◌, [], ◌∷◌, ◌∙◌}
use Rattle.std.proofs.Common.{ℕ, List, length, refl, sym, ap, arith}
use Rattle.half_edge_links.specs.{AreSoundLinks, Closes, face, Flips, HalfEdge, Hangs, HasStars}
use Rattle.half_edge_links.specs.{Inserts, IsAlone, IsClosable, IsFlippable, IsInnerEdge, Mesh}
use Rattle.half_edge_links.specs.{next, OnOuter, prev, rev}
use Rattle.half_edge_links.proofs.{Growing.Close.corner, Lists.Rev.rev-rev, Lists.Rev.rev_same}
use Rattle.half_edge_links.proofs.{Growing.FaceBeside.differs_alone, Lists.Named.◌and◌}
use Rattle.half_edge_links.proofs.Relinking.Rounds.{stand, stand_first, stand_off, stand_second}
use Rattle.half_edge_links.proofs.Relinking.Walks.{stars_exchanged}
use Rattle.half_edge_links.proofs.Sound.Parts.{rev_of_even, rev_of_odd}
use Rattle.half_edge_links.proofs.Faces.FlipSound as flipping
use Rattle.half_edge_links.proofs.Faces.InsertSound as inserting

-- each vertex still has one round of edges once a lonely vertex is joined to the end of an outer
-- edge
pub stars_hung : (m new : Mesh) (x v : ℕ) → AreSoundLinks m → OnOuter m x → IsAlone m v
    → Hangs m new x v (length m.half_edges) → HasStars m → HasStars new
stars_hung m new x v s outer alone i =
    let n : ℕ = length m.half_edges in
    let more = i.edge_count in
    let here = s.edges x outer.0 in
    stars_exchanged m new s [] ((next m x, n ∷ [], rev x) ∷ []) ((n + 1) ∷ []) (record {
      lives = λ h within none. omega (arith, within, more);
      left = tt;
      stretched = (here.next_in and tt and ap rev here.prev_next
          and ap rev i.prev_at ∙ rev_of_odd _ s.even
          and (omega (arith, more) and i.there.origin) and ap rev i.there.prev) and tt;
      other = λ h within off. ap rev (i.other_prev h within off);
      kept = λ k within off_0 off_1. let old : k < n = omega (arith, within, more, off_0, off_1) in
          old and tt and i.origins k old;
      alone = omega (arith, more) and ap rev i.back.prev ∙ rev_of_even _ s.even
          and (λ h within same. differs_alone m h v s within alone (same ∙ i.back.origin));
    })

-- each vertex still has one round of edges once an outer edge, the next one and a new one get a
-- face
pub stars_closed : (m new : Mesh) (e : ℕ) → AreSoundLinks m → IsClosable m e
    → Closes m new e (length m.half_edges) (length m.face_edges) → HasStars m → HasStars new
stars_closed m new e s can i =
    let c = corner m e s can in
    let n : ℕ = length m.half_edges in
    let more = i.edge_count in
    stars_exchanged m new s [] ((e, (n + 1) ∷ [], rev (prev m e))
    ∷ (next m (next m e), n ∷ [], rev (next m e)) ∷ []) [] (record {
      lives = λ h within none. omega (arith, within, more);
      left = tt;
      stretched = (can.within and tt and refl and ap rev i.prev_first ∙ rev_of_even _ s.even
          and (omega (arith, more) and i.outside.origin) and ap rev i.outside.prev)
          and (c.after_in and tt and ap rev c.after_before
          and ap rev i.prev_after ∙ rev_of_odd _ s.even
          and (omega (arith, more) and i.inside.origin) and ap rev i.inside.prev) and tt;
      other = λ h within off_first off_after. ap rev (i.other_prev h within off_first off_after);
      kept = λ k within off_1 off_0. let old : k < n = omega (arith, within, more, off_0, off_1) in
          old and tt and i.origins k old;
      alone = tt;
    })

-- what a differs from differs from a
neq : (a b : ℕ) → a ≢ b → b ≢ a
neq a b differs same = differs (sym same)

-- each vertex still has one round of edges after a flip
pub stars_flipped : (m new : Mesh) (e : ℕ) → AreSoundLinks m → IsFlippable m e → Flips m new e
    → HasStars m → HasStars new
stars_flipped m new e s can f =
    let p = flipping.six m new e s can f in
    let l = flipping.left m new e s can f in
    let r = flipping.right m new e s can f in
    let t : ℕ = rev e in
    let x : ℕ = rev (prev m e) in
    let y : ℕ = rev (prev m t) in
    let stands : List (ℕ × ℕ) = (e, x) ∷ (t, y) ∷ [] in
    let at_e : stand stands e ≡ x = stand_first e x ((t, y) ∷ []) in
    let at_t : stand stands t ≡ y = stand_second e x t y [] (neq _ _ p.ab) in
    let off_rev = λ (h : ℕ) (a : e ≢ h) (b : t ≢ h). stand_off stands (rev h)
    ((λ q. b (sym (sym (rev-rev h) ∙ ap rev q))) and (λ q. a (sym (rev_same h e q))) and tt) in
    stars_exchanged m new s stands ((next m t, [], x) ∷ (next m e, [], y)
    ∷ (prev m e, e ∷ [], rev (next m e)) ∷ (prev m t, t ∷ [], rev (next m t)) ∷ []) [] (record {
      lives = λ h within none. rw f.edge_count within;
      left = (off_rev _ p.ae p.be ∙ sym at_e) and (off_rev _ p.af p.bf ∙ sym at_t) and tt;
      stretched = (p.d_in and (neq _ _ p.ad and neq _ _ p.bd and tt)
          and ap (stand stands) (ap rev r.prev_next ∙ rev-rev e) ∙ at_e
          and ap rev f.twin_next.prev)
          and (p.c_in and (neq _ _ p.ac and neq _ _ p.bc and tt)
          and ap (stand stands) (ap rev l.prev_next) ∙ at_t and ap rev f.edge_next.prev)
          and (p.e_in and (neq _ _ p.ae and neq _ _ p.be and tt)
          and ap (stand stands) (ap rev l.prev_prev) ∙ off_rev _ p.ac p.bc
          and ap rev f.edge_prev.prev ∙ rev-rev e
          and (rw f.edge_count p.a_in and f.edge.origin) and ap rev f.edge.prev)
          and (p.f_in and (neq _ _ p.af and neq _ _ p.bf and tt)
          and ap (stand stands) (ap rev r.prev_prev) ∙ off_rev _ p.ad p.bd
          and ap rev f.twin_prev.prev
          and (rw f.edge_count p.b_in and f.twin.origin) and ap rev f.twin.prev) and tt;
      other = λ h within off_tn off_en off_ep off_tp off_e off_t. let back =
          (s.edges h within).next_prev in
          ap (λ (w : HalfEdge). rev w.prev)
          (f.other_edges h off_e off_t off_en off_tn off_ep off_tp)
          ∙ sym (stand_off stands _ ((λ q. off_tn (sym back ∙ ap (next m) (sym (rev-rev _)
          ∙ ap rev q))) and (λ q. off_en (sym back ∙ ap (next m) (rev_same _ e q))) and tt));
      kept = λ k within off_e off_t. rw f.edge_count at within and (off_e and off_t and tt)
          and flipping.origin_kept m new e s can f k off_e off_t;
      alone = tt;
    })

module _ (m new : Mesh) (v a : ℕ) (s : AreSoundLinks m) (inner : IsInnerEdge m a)
    (alone : IsAlone m v)
    (i : Inserts m new v (face m a) a (length m.half_edges) (length m.face_edges)) where
  abbrev n : ℕ
  n = length m.half_edges

  -- each vertex still has one round of edges once a vertex is put into an inner face
  pub stars_inserted : HasStars m → HasStars new
  stars_inserted =
      let t = inserting.round m new v _ a _ _ s inner alone refl refl refl i in
      let r0 = inserting.rev0 m new v _ a _ _ s inner alone refl refl refl i in
      let r1 = inserting.rev1 m new v _ a _ _ s inner alone refl refl refl i in
      let r2 = inserting.rev2 m new v _ a _ _ s inner alone refl refl refl i in
      let r3 = inserting.rev3 m new v _ a _ _ s inner alone refl refl refl i in
      let r4 = inserting.rev4 m new v _ a _ _ s inner alone refl refl refl i in
      let r5 = inserting.rev5 m new v _ a _ _ s inner alone refl refl refl i in
      let more = i.edge_count in
      stars_exchanged m new s [] ((a, n ∷ [], rev (prev m a)) ∷ (next m a, (n + 2) ∷ [], rev a)
      ∷ (prev m a, (n + 4) ∷ [], rev (next m a)) ∷ []) ((n + 1) ∷ (n + 3) ∷ (n + 5) ∷ [])
      (record {
        lives = λ h within none. omega (arith, within, more);
        left = tt;
        stretched = (t.h_in and tt and refl and ap rev i.first.prev ∙ r1
            and (omega (arith, more) and i.from_first.origin) and ap rev i.from_first.prev)
            and (t.next_in and tt and ap rev t.prev_next and ap rev i.second.prev ∙ r3
            and (omega (arith, more) and i.from_second.origin) and ap rev i.from_second.prev)
            and (t.prev_in and tt and ap rev t.prev_prev and ap rev i.third.prev ∙ r5
            and (omega (arith, more) and i.from_third.origin) and ap rev i.from_third.prev) and tt;
        other = λ h within p q r. ap (λ (w : HalfEdge). rev w.prev) (i.other_edges h within p q r);
        kept = λ k within o0 o2 o4 o1 o3 o5.
            let old : k < n = omega (arith, more, within, o0, o1, o2, o3, o4, o5) in
            old and tt
            and inserting.origin_kept m new v _ a _ _ s inner alone refl refl refl i k old;
        alone = omega (arith, more)
            and (ap rev i.to_first.prev ∙ r2
            and (omega (arith, more) and i.to_second.origin ∙ sym i.to_first.origin)
            and ap rev i.to_second.prev ∙ r4
            and (omega (arith, more) and i.to_third.origin ∙ sym i.to_first.origin)
            and ap rev i.to_third.prev ∙ r0)
            and (λ h within same. differs_alone m h v s within alone (same ∙ i.to_first.origin));
      })
