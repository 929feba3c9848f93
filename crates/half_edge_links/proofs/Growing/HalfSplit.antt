-- An edge of the hull is split.
-- Lemmas: twin_outer, replaced_kept, flippable_beside, apex_is, new_corner, corners_beside,
-- half_splits_triangles, half_splits.
use Rattle.std.proofs.Common.{◌≤◌, ◌+◌, ◌≡◌, ◌≢◌, ◌-◌, ◌<◌, [], ◌∷◌, ◌++◌, ◌∙◌}
use Rattle.std.proofs.Common.{ℕ, List, length, set, refl, sym, ap, arith}
use Rattle.std.proofs.lemmas.List.{set-append_left, set-append_right, length-set, length-map}
use Rattle.half_edge_links.specs.{AddsFace, AddsTriangle, AreSoundLinks, edge_at, face, Flips}
use Rattle.half_edge_links.specs.{FlipsTriangles, HalfEdge, HalfSplitsTriangles, IsAlone}
use Rattle.half_edge_links.specs.{IsFlippable, IsHalfSplittable, KeepsOuter, Mesh, next, OnOuter}
use Rattle.half_edge_links.specs.{origin, prev, ReplacesOuter, rev, triangle_at, triangles}
use Rattle.half_edge_links.specs.Grow.{HalfSplits}
use Rattle.half_edge_links.proofs.{Faces.FlipSound.origin_kept, Growing.FaceBeside.differs_alone}
use Rattle.half_edge_links.proofs.Lists.Rev.{rev-rev, rev_differs, rev_within}

-- the reverse of an edge of the hull is outer
pub twin_outer : (m : Mesh) (e : ℕ) → AreSoundLinks m → IsHalfSplittable m e → OnOuter m (rev e)
twin_outer m e s half = (rev_within e _ s.even half.within, half.outer)

-- that outer edge e gave way to two edges holds still after a step that keeps the outer edges
pub replaced_kept : (m mid new : Mesh) (e v i j : ℕ) → ReplacesOuter m mid e v i j
    → KeepsOuter mid new → ReplacesOuter m new e v i j
replaced_kept m mid new e v i j a b = record {
  kept = λ h p q o stays. b.kept h p q (a.kept h p q o stays);
  made = λ h p q is. b.kept h p q (a.made h p q is);
  only = λ h p q o. a.only h p q (b.only h p q o);
}

overwritten : {X : Type 0} (xs : List X) (x a b : X) (i j : ℕ) → i < length xs → j ≡ length xs
    → set (set (xs ++ x ∷ []) i a) j b ≡ set xs i a ++ b ∷ []
overwritten xs x a b i j within is =
    let e : j - length xs ≡ 0 = omega arith in
    rw (
      set-append_left xs (x ∷ []) i a within,
      set-append_right (set xs i a) (x ∷ [])
          (length xs) j b (length-set xs i a) (omega arith),
      e,
    ) refl

module _ (m mid : Mesh) (e v : ℕ) (s : AreSoundLinks m) (half : IsHalfSplittable m e)
    (i : AddsFace m mid (rev e) v (length m.half_edges) (length m.face_edges)) where
  off_twin : e ≢ rev e
  off_twin q = rev_differs e (sym q)

  -- edge e can be turned once there is a face beyond it
  pub flippable_beside : IsFlippable mid e
  flippable_beside =
      let f = i.other_faces e half.within off_twin in
      let t = i.edge.face in
      record {
        within = omega (arith, i.edge_count, half.within);
        inner = rw f half.inner;
        twin_inner = rw t (omega arith);
        apart = λ q. absurd (omega (arith, f, t, q, (s.edges e half.within).face_in));
      }

  next_same : next mid e ≡ next m e
  next_same =
      let twin = s.edges (rev e) (rev_within e _ s.even half.within) in
      i.other_next e half.within off_twin (λ q. absurd (omega (
        arith,
        half.inner,
        ap (face m) q,
        sym (s.edges _ twin.prev_in).same_face,
        ap (face m) twin.next_prev,
        half.outer,
      )))

  prev_same : prev mid e ≡ prev m e
  prev_same =
      let twin = s.edges (rev e) (rev_within e _ s.even half.within) in
      i.other_prev e half.within off_twin
      (λ q. absurd (omega (arith, half.inner, ap (face m) q, twin.same_face, half.outer)))

  -- the corner opposite e, and its ends
  pub apex_is : origin mid (prev mid e) ≡ origin m (prev m e)
  apex_is = ap (origin mid) prev_same ∙ i.origins (prev m e) (s.edges e half.within).prev_in

  -- the edge after e starts where it did
  far : origin mid (next mid e) ≡ origin m (next m e)
  far = ap (origin mid) next_same ∙ i.origins (next m e) (s.edges e half.within).next_in

  -- the corner opposite the other side of e is v
  pub new_corner : origin mid (prev mid (rev e)) ≡ v
  new_corner = ap (origin mid) i.edge.prev ∙ i.back.origin

  -- the edge after the other side of e starts where e did
  near : origin mid (next mid (rev e)) ≡ origin m e
  near =
      ap (origin mid) i.edge.next ∙ i.there.origin
      ∙ (s.edges (rev e) (rev_within e _ s.even half.within)).starts ∙ ap (origin m) (rev-rev e)

  -- the corners opposite the two sides of e differ, if v had no edges
  pub corners_beside : IsAlone m v → origin mid (prev mid e) ≢ origin mid (prev mid (rev e))
  corners_beside alone same = differs_alone m (prev m e) v s (s.edges e half.within).prev_in alone
      (sym apex_is ∙ same ∙ new_corner)

  -- a face beyond e and then a turn of e change the corners of faces as a split of e
  pub half_splits_triangles : (new : Mesh)
      → AddsTriangle m mid (origin m (rev e)) (origin m (rev (rev e))) v → FlipsTriangles mid new e
      → HalfSplitsTriangles m new v e
  half_splits_triangles new added turned =
      let f = i.other_faces e half.within off_twin in
      let t = i.edge.face in
      let count = length-map m.face_edges (triangle_at m) in
      let place : face mid e - 1 < length (triangles m) =
      omega (arith, count, f, (s.edges e half.within).face_in, half.inner) in
      let last : face mid (rev e) - 1 ≡ length (triangles m) = omega (arith, count, t) in
      let cut = overwritten (triangles m)
      (record { first = origin m (rev e); second = origin m (rev (rev e)); third = v })
      (record { first = origin m (prev m e); second = v; third = origin m (next m e) })
      (record { first = v; second = origin m (prev m e); third = origin m e }) (face mid e - 1)
      (face mid (rev e) - 1) place last in
      let a = apex_is in
      let b = far in
      let c = new_corner in
      let d = near in
      cc

  -- a face beyond e and then a turn of e change the links as a split of e
  pub half_splits : (new : Mesh) → AreSoundLinks mid → Flips mid new e
      → HalfSplits m new e v (length m.half_edges) (length m.face_edges)
  half_splits new sound f =
      let here = s.edges e half.within in
      let twin = s.edges (rev e) (rev_within e _ s.even half.within) in
      let can = flippable_beside in
      let next_e = next_same in
      let prev_e = prev_same in
      let next_t = i.edge.next in
      let prev_t = i.edge.prev in
      let o_apex = apex_is in
      let o_far = far in
      let o_v = new_corner in
      let x = i.there in
      let y = i.back in
      let face_e = i.other_faces e half.within off_twin in
      let face_t = i.edge.face in
      let outer_prev : face m (prev m (rev e)) ≡ 0 =
      sym (s.edges _ twin.prev_in).same_face ∙ ap (face m) twin.next_prev ∙ half.outer in
      let outer_next : face m (next m (rev e)) ≡ 0 = twin.same_face ∙ half.outer in
      let inner_prev : face m (prev m e) ≡ face m e =
      sym (s.edges _ here.prev_in).same_face ∙ ap (face m) here.next_prev in
      let off : (h k : ℕ) → face m h ≡ 0 → face m k ≡ face m e
      → h ≢ k = λ h k zero_face is same. absurd
      (omega (arith, half.inner, is, ap (face m) same, zero_face)) in
      let keep : (h : ℕ) → h ≢ e → h ≢ rev e → h ≢ next m e → h ≢ prev m e → h ≢ length m.half_edges
      → h ≢ length m.half_edges + 2 → edge_at new.half_edges h ≡ edge_at mid.half_edges h =
      λ h a b c d p q. f.other_edges h a b (λ z. c (z ∙ next_e)) (λ z. p (z ∙ next_t))
      (λ z. d (z ∙ prev_e)) (λ z. q (z ∙ prev_t)) in
      let old : (h : ℕ) → h < length m.half_edges → h ≢ e → h ≢ rev e → h ≢ next m e → h ≢ prev m e
      → edge_at new.half_edges h ≡ edge_at mid.half_edges h =
      λ h within a b c d. keep h a b c d (λ q. absurd (omega (arith, within, q)))
      (λ q. absurd (omega (arith, within, q))) in
      let late : (h : ℕ) → length m.half_edges ≤ h → h ≢ length m.half_edges
      → h ≢ length m.half_edges + 2 → edge_at new.half_edges h ≡ edge_at mid.half_edges h =
      λ h above p q. keep h (λ z. absurd (omega (arith, above, z, half.within)))
      (λ z. absurd (omega (arith, above, z, rev_within e _ s.even half.within)))
      (λ z. absurd (omega (arith, above, z, here.next_in)))
      (λ z. absurd (omega (arith, above, z, here.prev_in))) p q in
      let third = late (length m.half_edges + 3) (omega arith) (λ q. absurd (omega (arith, q)))
      (λ q. absurd (omega (arith, q))) in
      let other = late (length m.half_edges + 1) (omega arith) (λ q. absurd (omega (arith, q)))
      (λ q. absurd (omega (arith, q))) in
      let a = i.first in
      let b = i.last in
      let f0 = f.edge in
      let f1 = f.twin in
      let f2 = f.edge_next in
      let f3 = f.edge_prev in
      let f4 = f.twin_next in
      let f5 = f.twin_prev in
      let at_before = old (prev m (rev e)) twin.prev_in (off _ _ outer_prev refl)
      (λ q. twin.proper (sym (ap (next m) q) ∙ twin.next_prev))
      (off _ _ outer_prev here.same_face) (off _ _ outer_prev inner_prev) in
      let at_after = old (next m (rev e)) twin.next_in (off _ _ outer_next refl) twin.proper
      (off _ _ outer_next here.same_face) (off _ _ outer_next inner_prev) in
      let before_next = i.next_before in
      let after_prev = i.prev_after in
      record {
        edge = record { origin = cc; next = cc; prev = cc; face = cc };
        twin = record { origin = cc; next = cc; prev = cc; face = cc };
        edge_next = record { origin = cc; next = cc; prev = cc; face = cc };
        edge_prev = record { origin = cc; next = cc; prev = cc; face = cc };
        first = record { origin = cc; next = cc; prev = cc; face = cc };
        second = record { origin = cc; next = cc; prev = cc; face = cc };
        outer_first = record { origin = cc; next = cc; prev = cc; face = cc };
        outer_second = record { origin = cc; next = cc; prev = cc; face = cc };
        other_next = λ h within p q r t z. ap (λ (w : HalfEdge). w.next) (old h within p q r t)
            ∙ i.other_next h within q z;
        other_prev = λ h within p q r t z. ap (λ (w : HalfEdge). w.prev) (old h within p q r t)
            ∙ i.other_prev h within q z;
        other_faces = λ h within p q r t. ap (λ (w : HalfEdge). w.face) (old h within p q r t)
            ∙ i.other_faces h within q;
        other_origins = λ h within p q. origin_kept mid new e sound can f h p q
            ∙ i.origins h within;
        next_before = cc;
        prev_after = cc;
        edge_count = f.edge_count ∙ i.edge_count;
      }
