-- What turning an edge does to the corners of the faces.
-- Lemmas: triangles_flipped.
use Rattle.std.proofs.Common.{◌≡◌, ◌≢◌, ◌+◌, ◌-◌, ◌<◌, ◌∙◌}
use Rattle.std.proofs.Common.{ℕ, length, get_or, set, sym, ap, inl, inr, arith}
use Rattle.std.proofs.lemmas.Bool.{cases_eq}
use Rattle.std.proofs.lemmas.List.{get_or-set_same, get_or-set_other, length-set, same_lists}
use Rattle.std.proofs.lemmas.List.{get_or-map, length-map}
use Rattle.half_edge_links.specs.{AreSoundLinks, face, face_edge, flipped, Flips, FlipsTriangles}
use Rattle.half_edge_links.specs.{IsFlippable, Mesh, next, origin, prev, rev, Triangle, triangle_at}
use Rattle.{half_edge_links.proofs.Faces.FlipLemmas.flips, half_edge_links.specs.triangles}
use Rattle.half_edge_links.proofs.Faces.FlipSound.{away_by_face, IsOffFlip, kept, next_away}
use Rattle.half_edge_links.proofs.Faces.FlipSound.{origin_kept, prev_away, six}

module _ (m new : Mesh) (e : ℕ) (s : AreSoundLinks m) (can : IsFlippable m e)
    (f : Flips m new e) where
  kept_triangle : (h : ℕ) → h < length m.half_edges → IsOffFlip m e h
      → triangle_at new h ≡ triangle_at m h
  kept_triangle h within a =
      let at_h = kept m new e s can f h a in
      let n = next_away m new e s can f h within a in
      let p = prev_away m new e s can f h within a in
      let o1 = origin_kept m new e s can f h a.edge a.twin in
      let o2 = origin_kept m new e s can f (next m h) n.edge n.twin in
      let o3 = origin_kept m new e s can f (prev m h) p.edge p.twin in
      cc

  left_triangle : triangle_at new e ≡ record {
    first = origin m (prev m e);
    second = origin m (prev m (rev e));
    third = origin m (next m e);
  }
  left_triangle = let a = f.edge in let b = f.twin_prev in let c = f.edge_next in cc

  right_triangle : triangle_at new (rev e) ≡ record {
    first = origin m (prev m (rev e));
    second = origin m (prev m e);
    third = origin m (next m (rev e));
  }
  right_triangle = let a = f.twin in let b = f.edge_prev in let c = f.twin_next in cc

  at_index : (k : ℕ) (d : Triangle) → k < length (triangles new) → get_or (triangles new) k d
      ≡ get_or (set (set (triangles m) (face m e - 1) (triangle_at new e)) (face m (rev e) - 1)
      (triangle_at new (rev e))) k d
  at_index k d within =
      let count = f.face_count in
      let in_new : k < length new.face_edges =
      omega (arith, length-map new.face_edges (triangle_at new)) in
      let in_old : k < length m.face_edges = omega (arith, f.face_count) in
      let left_in = (s.edges e can.within).face_in in
      let right_in = (s.edges (rev e) (six m new e s can f).b_in).face_in in
      let read = get_or-map (triangle_at new) new.face_edges k 0 d in_new in
      let was = get_or-map (triangle_at m) m.face_edges k 0 d in_old in
      let some_left : 0 < face m e = can.inner in
      let some_right : 0 < face m (rev e) = can.twin_inner in
      let step : k + 1 - 1 ≡ k = omega arith in
      let in_list : k < length (triangles m) =
      omega (arith, length-map m.face_edges (triangle_at m)) in
      elim (cases_eq (face m (rev e)) (k + 1)) [
        | inl same ↦
            let named : get_or new.face_edges k 0 ≡ rev e = ap (λ i. get_or new.face_edges i 0)
            (sym (ap (λ g. g - 1) same ∙ step)) ∙ f.right_face in
            let place : face m (rev e) - 1 ≡ k = ap (λ g. g - 1) same ∙ step in
            rw (read, named, place) (sym (get_or-set_same _ k _ d (rw length-set in_list)))
        | inr a ↦
            let off_right : k ≢ face m (rev e) - 1 = λ q. a (omega arith) in
            elim (cases_eq (face m e) (k + 1)) [
              | inl same ↦
                  let named : get_or new.face_edges k 0 ≡ e = ap (λ i. get_or new.face_edges i 0)
                  (sym (ap (λ g. g - 1) same ∙ step)) ∙ f.left_face in
                  let place : face m e - 1 ≡ k = ap (λ g. g - 1) same ∙ step in
                  rw (read, named, get_or-set_other _ (face m (rev e) - 1) k _ d off_right, place)
                  (sym (get_or-set_same _ k _ d in_list))
              | inr b ↦
                  let off_left : k ≢ face m e - 1 = λ q. b (omega arith) in
                  let named =
                  f.other_faces (k + 1) (omega arith) (λ q. b (sym q)) (λ q. a (sym q)) in
                  let named_k : get_or new.face_edges k 0 ≡ get_or m.face_edges k 0 =
                  rw step at named in
                  let had = s.faces (k + 1) (omega arith) (omega arith) in
                  let away = away_by_face m new e s can f (face_edge m (k + 1))
                  (λ q. b (cc)) (λ q. a (cc)) in
                  let same = rw step at (kept_triangle (face_edge m (k + 1)) had.0 away) in
                  rw (
                    read,
                    named_k,
                    get_or-set_other _ (face m (rev e) - 1) k _ d off_right,
                    get_or-set_other _ (face m e - 1) k _ d off_left,
                    was,
                  ) same
            ]
      ]

  flips_triangles : FlipsTriangles m new e
  flips_triangles =
      let count : length (triangles new) ≡ length (triangles m) = length-map new.face_edges
      (triangle_at new) ∙ f.face_count ∙ sym (length-map m.face_edges (triangle_at m)) in
      rw (← left_triangle, ← right_triangle) (same_lists _ _ (simp length-set count) at_index)

-- a flip gives the two faces the other two halves of their quadrilateral, and changes no other
-- corners
pub triangles_flipped : (m new : Mesh) (e : ℕ) → AreSoundLinks m → IsFlippable m e
    → new ≡ flipped m e → FlipsTriangles m new e
triangles_flipped m new e s can is =
    rw is (flips_triangles m (flipped m e) e s can (flips m e s can))
