-- An edge is split by putting a vertex into the face on its left and turning it: that it can be
-- turned, and what becomes of the faces, of the ends of the edges and of the outer edges.
-- Lemmas: flippable_inserted, corners_inserted, splits_triangles_is, kept_twice, ends_split.
use Rattle.std.proofs.Common.{◌≡◌, ◌-◌, ◌<◌, [], ◌∷◌, ◌++◌, ◌∙◌, ◌≢◌, ◌/◌}
use Rattle.std.proofs.Common.{ℕ, List, length, set, refl, sym, ap, arith}
use Rattle.std.proofs.lemmas.List.{set-set, set-append_left, length-set, length-map}
use Rattle.half_edge_links.specs.{along, AreSoundLinks, edge_at, ends, face, flipped}
use Rattle.half_edge_links.specs.{FlipsTriangles, HalfEdge, inserted, Inserts, InsertsTriangles}
use Rattle.half_edge_links.specs.{IsAlone, IsFlippable, IsInnerEdge, KeepsOuter, Mesh, MovesEdge}
use Rattle.half_edge_links.specs.{next, origin, prev, rev, SplitsTriangles, triangle_at, triangles}
use Rattle.half_edge_links.specs.Outline.{InsertsEnds, SplitsEnds}
use Rattle.half_edge_links.proofs.{Faces.FlipTriangles.triangles_flipped, Lists.Rev.rev_within}
use Rattle.half_edge_links.proofs.{Faces.InsertLemmas.inserts, Faces.InsertSound.sound_after_insert}
use Rattle.half_edge_links.proofs.Faces.InsertSound.{away_by_face, kept, origin_kept}
use Rattle.half_edge_links.proofs.{Faces.InsertTriangles.triangles_inserted, Sound.Ends.length-ends}
use Rattle.half_edge_links.proofs.Growing.FaceBeside.{differs_alone}
use Rattle.half_edge_links.proofs.Faces.InsertSound as inserting

overwritten : {X : Type 0} (xs ys : List X) (i j : ℕ) (a b c : X) → i < length xs → j < length xs
    → set (set (set xs i a ++ ys) i b) j c ≡ set (set xs i b) j c ++ ys
overwritten xs ys i j a b c i_in j_in =
    rw (
      set-append_left (set xs i a) ys i b (rw length-set i_in),
      set-set xs i a b,
      set-append_left (set xs i b) ys j c (rw length-set j_in),
    )

module _ (m : Mesh) (v e : ℕ) (s : AreSoundLinks m) (can : IsFlippable m e)
    (alone : IsAlone m v) where
  inner : IsInnerEdge m e
  inner = (can.within, can.inner)

  -- vertex v is put into the face on the left of e
  i : Inserts m (inserted m v e) v (face m e) e (length m.half_edges) (length m.face_edges)
  i = inserts m v e s inner alone

  twin_in : rev e < length m.half_edges
  twin_in = rev_within e (length m.half_edges) s.even can.within

  twin_kept : edge_at (inserted m v e).half_edges (rev e) ≡ edge_at m.half_edges (rev e)
  twin_kept =
      let away = away_by_face m (inserted m v e) v _ e _ _ s inner alone refl refl refl i (rev e)
      (λ same. can.apart (sym same)) in
      kept m (inserted m v e) v _ e _ _ s inner alone refl refl refl i (rev e) twin_in away

  -- the edge can still be turned once the vertex is in the face on its left
  pub flippable_inserted : IsFlippable (inserted m v e) e
  flippable_inserted =
      let at = i.first in
      let twin = twin_kept in
      let twin_face : face (inserted m v e) (rev e) ≡ face m (rev e) = cc in
      record {
        within = omega (arith, i.edge_count, can.within);
        inner = rw at.face can.inner;
        twin_inner = rw twin_face can.twin_inner;
        apart = λ same. can.apart (cc);
      }

  -- the corners opposite the two sides of the edge differ once the vertex is in the face
  pub corners_inserted : origin (inserted m v e) (prev (inserted m v e) e)
      ≢ origin (inserted m v e) (prev (inserted m v e) (rev e))
  corners_inserted same =
      let mid : Mesh = inserted m v e in
      let opposite = (s.edges (rev e) twin_in).prev_in in
      let kept_there =
      origin_kept m mid v _ e _ _ s inner alone refl refl refl i (prev m (rev e)) opposite in
      let twin : prev mid (rev e) ≡ prev m (rev e) = ap (λ (w : HalfEdge). w.prev) twin_kept in
      differs_alone m (prev m (rev e)) v s opposite alone (sym kept_there ∙ ap (origin mid)
      (sym twin) ∙ sym same ∙ ap (origin mid) i.first.prev ∙ i.to_first.origin)

  splits_triangles : SplitsTriangles m (flipped (inserted m v e) e) v e
  splits_triangles =
      let mid : Mesh = inserted m v e in
      let a = i.first in
      let twin = twin_kept in
      let to_v = i.to_first in
      let from_b = i.from_second in
      let twin_links = s.edges (rev e) twin_in in
      let o1 = origin_kept m mid v _ e _ _ s inner alone refl refl refl i
      (prev m (rev e)) twin_links.prev_in in
      let o2 = origin_kept m mid v _ e _ _ s inner alone refl refl refl i
      (next m (rev e)) twin_links.next_in in
      let put : InsertsTriangles m mid v e = triangles_inserted m mid v e s inner alone refl in
      let turned : FlipsTriangles mid (flipped mid e) e = triangles_flipped mid (flipped mid e) e
      (sound_after_insert m mid v _ e _ _ s inner alone refl refl refl i)
      flippable_inserted refl in
      let left_in : face m e - 1 < length (triangles m) = omega (
        arith,
        length-map m.face_edges (triangle_at m),
        (s.edges e can.within).face_in,
        can.inner,
      ) in
      let right_in : face m (rev e) - 1 < length (triangles m) = omega
      (arith, length-map m.face_edges (triangle_at m), twin_links.face_in, can.twin_inner) in
      let cut = overwritten (triangles m)
      (record { first = origin m (next m e); second = origin m (prev m e); third = v }
      ∷ record { first = origin m (prev m e); second = origin m e; third = v } ∷ [])
      (face m e - 1) (face m (rev e) - 1)
      (record { first = origin m e; second = origin m (next m e); third = v }) (record
      { first = v; second = origin m (prev m (rev e)); third = origin m (next m e) }) (record
      { first = origin m (prev m (rev e)); second = v; third = origin m (next m (rev e)) })
      left_in right_in in
      cc

-- an edge between two inner faces that is split leaves four faces round v, and changes no other
-- corners
pub splits_triangles_is : (m new : Mesh) (v e : ℕ) → AreSoundLinks m → IsFlippable m e → IsAlone m v
    → new ≡ flipped (inserted m v e) e → SplitsTriangles m new v e
splits_triangles_is m new v e s can alone is = rw is (splits_triangles m v e s can alone)

-- two changes one after the other keep the outer edges if each does
pub kept_twice : (m mid new : Mesh) → KeepsOuter m mid → KeepsOuter mid new → KeepsOuter m new
kept_twice m mid new a b = record {
  kept = λ h p q o. b.kept h p q (a.kept h p q o);
  only = λ h p q o. a.only h p q (b.only h p q o);
}

-- an edge that is split at v makes way for edges from v to the four corners; no other ends change
pub ends_split : (m mid new : Mesh) (v e : ℕ) → AreSoundLinks m → IsFlippable m e → IsAlone m v
    → mid ≡ inserted m v e → InsertsEnds m mid v e
    → MovesEdge mid new e (origin mid (prev mid e)) (origin mid (prev mid (rev e)))
    → SplitsEnds m new e v
ends_split m mid new v e s can alone is a b =
    let i = inserts m v e s (can.within, can.inner) alone in
    let twin_in : rev e < length m.half_edges = rev_within e _ s.even can.within in
    let same = twin_kept m v e s can alone in
    let at_v : origin mid (prev mid e) ≡ v =
    rw is (ap (origin (inserted m v e)) i.first.prev ∙ i.to_first.origin) in
    let far : origin mid (prev mid (rev e)) ≡ origin m (prev m (rev e)) =
    rw is (ap (λ (x : HalfEdge). origin (inserted m v e) x.prev) same
    ∙ inserting.origin_kept m (inserted m v e) v _ e _ _ s (can.within, can.inner) alone refl
    refl refl i (prev m (rev e)) (s.edges (rev e) twin_in).prev_in) in
    let place : e / 2 < length (ends m) = length-ends m e s can.within in
    rw (b, a, at_v, far)
    (set-append_left (ends m) _ (e / 2) (along e v (origin m (prev m (rev e)))) place)
