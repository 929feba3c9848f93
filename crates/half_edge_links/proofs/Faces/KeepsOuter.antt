-- A flip, and a vertex put into a face, keep the outer edges.
-- Lemmas: outer_flipped, outer_flipped_is, outer_inserted.
use Rattle.std.proofs.Common.{◌≡◌, ◌≢◌, ℕ, ◌<◌, sym, ap, ◌∙◌, arith, ◌+◌, length, refl}
use Rattle.half_edge_links.specs.{AreSoundLinks, face, flipped, Flips, HalfEdge, Inserts, IsAlone}
use Rattle.half_edge_links.specs.{IsFlippable, IsInnerEdge, KeepsOuter, Mesh, rev}
use Rattle.half_edge_links.proofs.{Faces.FlipLemmas.flips, Lists.Rev.rev-rev, Lists.Rev.rev_within}
use Rattle.half_edge_links.proofs.Faces.FlipSound.{away_by_face, kept, origin_kept}
use Rattle.half_edge_links.proofs.OuterLoop.Outer.{same_outer}
use Rattle.half_edge_links.proofs.Faces.InsertSound as inserting

-- an outer edge is none with an inner face
not_inner : (m : Mesh) (h k f : ℕ) → face m h ≡ 0 → face m k ≡ f → 0 < f → h ≢ k
not_inner m h k f zero is some same = absurd (omega (arith, some, is, ap (face m) same, zero))

-- the outer edges stay when an edge between two inner faces is flipped
pub outer_flipped : (m new : Mesh) (e : ℕ) → AreSoundLinks m → IsFlippable m e → Flips m new e
    → KeepsOuter m new
outer_flipped m new e s can f = record {
  kept = λ h a b o.
      let away = away_by_face m new e s can f h (λ q. absurd (omega (arith, q, can.inner, o.outer)))
      (λ q. absurd (omega (arith, q, can.twin_inner, o.outer))) in
      let same = kept m new e s can f h away in
      same_outer m new h a b o (omega (arith, f.edge_count, o.within))
      (ap (λ (x : HalfEdge). x.face) same) (ap (λ (x : HalfEdge). x.origin) same)
      (origin_kept m new e s can f (rev h) (λ q. away.twin (sym (rev-rev h) ∙ ap rev q))
      (λ q. away.edge (sym (rev-rev h) ∙ ap rev q ∙ rev-rev e)));
  only = λ h a b o.
      let x0 = not_inner new h _ _ o.outer f.edge.face can.inner in
      let x1 = not_inner new h _ _ o.outer f.twin.face can.twin_inner in
      let same = f.other_edges h x0 x1 (not_inner new h _ _ o.outer f.edge_next.face can.inner)
      (not_inner new h _ _ o.outer f.twin_next.face can.twin_inner)
      (not_inner new h _ _ o.outer f.edge_prev.face can.twin_inner)
      (not_inner new h _ _ o.outer f.twin_prev.face can.inner) in
      same_outer new m h a b o (omega (arith, f.edge_count, o.within))
      (sym (ap (λ (x : HalfEdge). x.face) same)) (sym (ap (λ (x : HalfEdge). x.origin) same))
      (sym (origin_kept m new e s can f (rev h) (λ q. x1 (sym (rev-rev h) ∙ ap rev q))
      (λ q. x0 (sym (rev-rev h) ∙ ap rev q ∙ rev-rev e))));
}

-- a mesh that equals the one with an edge flipped has the same outer edges
pub outer_flipped_is : (m new : Mesh) (e : ℕ) → AreSoundLinks m → IsFlippable m e
    → new ≡ flipped m e → KeepsOuter m new
outer_flipped_is m new e s can is = rw is (outer_flipped m (flipped m e) e s can (flips m e s can))

-- the outer edges stay when a vertex is put into an inner face
pub outer_inserted : (m new : Mesh) (v a : ℕ) → AreSoundLinks m → IsInnerEdge m a → IsAlone m v
    → Inserts m new v (face m a) a (length m.half_edges) (length m.face_edges) → KeepsOuter m new
outer_inserted m new v a s inner alone i = record {
  kept = λ h p q o.
      let away = inserting.away_by_face m new v _ a _ _ s inner alone refl refl refl i h
      (λ same. absurd (omega (arith, same, inner.1, o.outer))) in
      let same = inserting.kept m new v _ a _ _ s inner alone refl refl refl i h o.within away in
      same_outer m new h p q o (omega (arith, i.edge_count, o.within))
      (ap (λ (x : HalfEdge). x.face) same) (ap (λ (x : HalfEdge). x.origin) same)
      (inserting.origin_kept m new v _ a _ _ s inner alone refl refl refl i (rev h)
      (rev_within h _ s.even o.within));
  only = λ h p q o.
      let f1 : 0 < length m.face_edges + 1 = omega arith in
      let f2 : 0 < length m.face_edges + 2 = omega arith in
      let n0 = not_inner new h _ _ o.outer i.from_first.face f2 in
      let n1 = not_inner new h _ _ o.outer i.to_first.face inner.1 in
      let n2 = not_inner new h _ _ o.outer i.from_second.face inner.1 in
      let n3 = not_inner new h _ _ o.outer i.to_second.face f1 in
      let n4 = not_inner new h _ _ o.outer i.from_third.face f1 in
      let n5 = not_inner new h _ _ o.outer i.to_third.face f2 in
      let within : h < length m.half_edges =
      omega (arith, o.within, i.edge_count, n0, n1, n2, n3, n4, n5) in
      let same = i.other_edges h within (not_inner new h _ _ o.outer i.first.face inner.1)
      (not_inner new h _ _ o.outer i.second.face f1)
      (not_inner new h _ _ o.outer i.third.face f2) in
      same_outer new m h p q o within (sym (ap (λ (x : HalfEdge). x.face) same))
      (sym (ap (λ (x : HalfEdge). x.origin) same))
      (sym (inserting.origin_kept m new v _ a _ _ s inner alone refl refl refl i (rev h)
      (rev_within h _ s.even within)));
}
