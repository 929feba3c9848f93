-- What putting a vertex into a face does to the corners of the faces.
-- Lemmas: triangles_inserted.
use Rattle.std.proofs.Common.{◌≡◌, ◌≢◌, ◌+◌, ◌-◌, ◌<◌, [], ◌∷◌, ◌++◌, ◌∙◌}
use Rattle.std.proofs.Common.{ℕ, List, length, get_or, set, refl, sym, inl, inr, arith}
use Rattle.std.proofs.Common.{length-append}
use Rattle.std.proofs.lemmas.Bool.{cases_eq}
use Rattle.std.proofs.lemmas.List.{get_or-set_same, get_or-set_other, length-set, same_lists}
use Rattle.std.proofs.lemmas.List.{get_or-map, length-map, get_or_append_left, get_or-append-add}
use Rattle.half_edge_links.specs.{AreSoundLinks, face, face_edge, inserted, Inserts}
use Rattle.half_edge_links.specs.{InsertsTriangles, IsAlone, IsInnerEdge, Mesh, next, origin, prev}
use Rattle.half_edge_links.specs.{Triangle, triangle_at, triangles}
use Rattle.half_edge_links.proofs.{Faces.InsertLemmas.inserts, Lists.Cases.◌or_else◌}
use Rattle.half_edge_links.proofs.Faces.InsertSound.{away_by_face, IsOffFace, kept, origin_kept}

module _ (m new : Mesh) (v a : ℕ) (s : AreSoundLinks m) (inner : IsInnerEdge m a) (alone : IsAlone m
    v) (i : Inserts m new v (face m a) a (length m.half_edges) (length m.face_edges)) where
  kept_triangle : (h : ℕ) → h < length m.half_edges → IsOffFace m a h
      → triangle_at new h ≡ triangle_at m h
  kept_triangle h within w =
      let here = s.edges h within in
      let at_h = kept m new v _ a _ _ s inner alone refl refl refl i h within w in
      let o1 = origin_kept m new v _ a _ _ s inner alone refl refl refl i h within in
      let o2 = origin_kept m new v _ a _ _ s inner alone refl refl refl i (next m h) here.next_in in
      let o3 = origin_kept m new v _ a _ _ s inner alone refl refl refl i (prev m h) here.prev_in in
      cc

  first_triangle : triangle_at new a
      ≡ record { first = origin m a; second = origin m (next m a); third = v }
  first_triangle = let x = i.first in let y = i.from_second in let z = i.to_first in cc

  second_triangle : triangle_at new (next m a)
      ≡ record { first = origin m (next m a); second = origin m (prev m a); third = v }
  second_triangle = let x = i.second in let y = i.from_third in let z = i.to_second in cc

  third_triangle : triangle_at new (prev m a)
      ≡ record { first = origin m (prev m a); second = origin m a; third = v }
  third_triangle = let x = i.third in let y = i.from_first in let z = i.to_third in cc

  grown : List Triangle
  grown = set (triangles m) (face m a - 1) (triangle_at new a)
      ++ (triangle_at new (next m a) ∷ triangle_at new (prev m a) ∷ [])

  written_length : length (set (triangles m) (face m a - 1) (triangle_at new a))
      ≡ length m.face_edges
  written_length = simp length-set (length-map m.face_edges (triangle_at m))

  at_index : (k : ℕ) (d : Triangle) → k < length (triangles new)
      → get_or (triangles new) k d ≡ get_or grown k d
  unfolding grown
  at_index k d within =
      let in_new : k < length new.face_edges =
      omega (arith, length-map new.face_edges (triangle_at new)) in
      let read = get_or-map (triangle_at new) new.face_edges k 0 d in_new in
      let step : k + 1 - 1 ≡ k = omega arith in
      let len = written_length in
      elim (cases_eq k (length m.face_edges) or_else cases_eq k (length m.face_edges + 1)) [
        | inl same ↦
            let q : length m.face_edges + 1 - 1 ≡ k = omega arith in
            let named : get_or new.face_edges k 0 ≡ next m a = rw q at i.second_face in
            let at : get_or grown (length (set (triangles m) (face m a - 1) (triangle_at new a))
            + 0) d ≡ triangle_at new (next m a) =
            get_or-append-add (set (triangles m) (face m a - 1) (triangle_at new a))
            (triangle_at new (next m a) ∷ triangle_at new (prev m a) ∷ []) 0 d in
            let p : length (set (triangles m) (face m a - 1) (triangle_at new a)) + 0 ≡ k =
            omega arith in
            rw (read, named) (sym (rw p at at))
        | inr (x, inl same) ↦
            let q : length m.face_edges + 2 - 1 ≡ k = omega arith in
            let named : get_or new.face_edges k 0 ≡ prev m a = rw q at i.third_face in
            let at : get_or grown (length (set (triangles m) (face m a - 1) (triangle_at new a))
            + 1) d ≡ triangle_at new (prev m a) =
            get_or-append-add (set (triangles m) (face m a - 1) (triangle_at new a))
            (triangle_at new (next m a) ∷ triangle_at new (prev m a) ∷ []) 1 d in
            let p : length (set (triangles m) (face m a - 1) (triangle_at new a)) + 1 ≡ k =
            omega arith in
            rw (read, named) (sym (rw p at at))
        | inr (x, inr b) ↦
            let in_old : k < length m.face_edges = omega (arith, i.face_count) in
            let in_list : k < length (triangles m) =
            omega (arith, length-map m.face_edges (triangle_at m)) in
            let was = get_or-map (triangle_at m) m.face_edges k 0 d in_old in
            let left = get_or_append_left (set (triangles m) (face m a - 1) (triangle_at new a))
            (triangle_at new (next m a) ∷ triangle_at new (prev m a) ∷ []) d k (omega arith) in
            elim (cases_eq (face m a - 1) k) [
              | inl same ↦
                  let named : get_or new.face_edges k 0 ≡ a = rw same at i.named in
                  rw (read, named, left, same) (sym (get_or-set_same _ k _ d in_list))
              | inr c ↦
                  let off : k + 1 ≢ face m a = λ q. c (omega arith) in
                  let named = rw step at (i.kept_faces (k + 1) (omega arith) (omega arith) off) in
                  let had = s.faces (k + 1) (omega arith) (omega arith) in
                  let away = away_by_face m new v _ a _ _ s inner alone refl refl refl i
                  (face_edge m (k + 1)) (λ q. c (omega (arith, had.1, inner.1))) in
                  let same = rw step at (kept_triangle (face_edge m (k + 1)) had.0 away) in
                  rw (
                    read,
                    named,
                    left,
                    get_or-set_other _ (face m a - 1) k _ d (λ q. c (sym q)),
                    was,
                  ) same
            ]
      ]

  inserts_triangles : InsertsTriangles m new v a
  unfolding grown
  inserts_triangles =
      let count : length (triangles new) ≡ length m.face_edges + 2 =
      length-map new.face_edges (triangle_at new) ∙ i.face_count in
      let whole : length grown ≡ length m.face_edges + 2 =
      rw length-append (omega (arith, written_length)) in
      rw (← first_triangle, ← second_triangle, ← third_triangle)
      (same_lists (triangles new) grown (count ∙ sym whole) at_index)

-- a vertex that is put into a face leaves a face for each of its three sides, and changes no other
-- corners
pub triangles_inserted : (m new : Mesh) (v a : ℕ) → AreSoundLinks m → IsInnerEdge m a → IsAlone m v
    → new ≡ inserted m v a → InsertsTriangles m new v a
triangles_inserted m new v a s inner alone is =
    rw is (inserts_triangles m (inserted m v a) v a s inner alone (inserts m v a s inner alone))
