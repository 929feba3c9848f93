-- What each change of a mesh makes of its faces, and that it keeps a mesh local.
-- Lemmas: inserted_faces, half_split_faces, added_faces, two_places, start_of_twin, end_of_twin,
-- split_faces, flipped_faces, face_behind, face_before, insertion_inside, insertion_within_side,
-- insertion_within_outer, flip_kept_by.
use Rattle.std.proofs.Common.{◌≡◌, ◌<◌, ◌-◌, [], ◌∷◌, ◌++◌, ◌∙◌}
use Rattle.std.proofs.Common.{ℕ, List, length, set, get_or, sym, ap, subst, arith}
use mathlib.Core.Logic.{inl, ◌≢◌}
use Rattle.std.specs.Prelude.{ℤ, pos, ◌+ℤ◌, Contains}
use Rattle.std.proofs.lemmas.Int.{ints}
use Rattle.std.proofs.lemmas.List.Elements.{Contains-append_left, Contains-append_right}
use Rattle.plane.specs.{Face, face as corners, InsideTriangle, place, Point, TurnsLeft, whole}
use Rattle.{plane.specs.WithinSegment, plane_theorems.proofs.Edits.LocalMesh.Kept.within_side_kept}
use Rattle.half_edge_links.specs.{AddsTriangle, AreSoundLinks, face, FlipsTriangles}
use Rattle.half_edge_links.specs.{HalfSplitsTriangles, InsertsTriangles, IsFlippable}
use Rattle.half_edge_links.specs.{IsHalfSplittable, IsInnerEdge, KeepsOuter, Mesh, next, origin}
use Rattle.half_edge_links.specs.{prev, ReplacesOuter, rev, SplitsTriangles, Triangle, triangles}
use Rattle.half_edge_links.proofs.{rev-rev, rev_within}
use Rattle.plane_theorems.specs.{FacesChange, IsFaceOf, LocalMesh, OuterChange, total}
use Rattle.plane_theorems.proofs.{Contains-head, Contains-later, flip_kept}
use Rattle.plane_theorems.proofs.Edits.LocalMesh.Changes.{total_append}
use Rattle.plane_theorems.proofs.Edits.LocalMesh.Kept.{inside_face_kept, within_outer_kept}
use Rattle.delaunay_legalization.specs.{corners_of, faces_of, outer_of}
use Rattle.delaunay_legalization.proofs.FaceChanges.{come_of, face_listed, face_within, is_face_at}
use Rattle.delaunay_legalization.proofs.FaceChanges.{listed_face, one_written, set_has, sets_have}
use Rattle.delaunay_legalization.proofs.FaceChanges.{sets_have_last, total_faces, turned_faces}
use Rattle.delaunay_legalization.proofs.FaceChanges.{two_set, two_written}
use Rattle.delaunay_legalization.proofs.OuterChanges.{outer_kept, outer_replaced, own_ends}
use Rattle.delaunay_legalization.proofs.OuterEdges.{listed}
use Rattle.half_edge_links.proofs.Sound.Triangles as T

abbrev triple : ℕ → ℕ → ℕ → Triangle
triple i j k = record { first = i; second = j; third = k }

-- a face to read where a list has none
none : Triangle
none = record { first = 0; second = 0; third = 0 }

-- sums as the laws write them
one_for_three : (old new t a b c z : ℤ) → new +ℤ t ≡ old +ℤ (a +ℤ (b +ℤ (c +ℤ pos 0))) → t ≡ z
    → new +ℤ (z +ℤ pos 0) ≡ old +ℤ (a +ℤ (b +ℤ (c +ℤ pos 0)))
one_for_three old new t a b c z e f = omega (arith, ints)

one_for_two : (old new t a b c d z : ℤ) → new +ℤ t ≡ old +ℤ (a +ℤ (b +ℤ pos 0)) → t ≡ z → a ≡ c
    → b ≡ d → new +ℤ (z +ℤ pos 0) ≡ old +ℤ (d +ℤ (c +ℤ pos 0))
one_for_two old new t a b c d z e f g h = omega (arith, ints)

two_for_four : (old new t u a b c d a' y z : ℤ)
    → new +ℤ (t +ℤ u) ≡ old +ℤ (a +ℤ (b +ℤ (c +ℤ (d +ℤ pos 0)))) → t ≡ y → u ≡ z → b ≡ a'
    → new +ℤ (y +ℤ (z +ℤ pos 0)) ≡ old +ℤ (a +ℤ (a' +ℤ (c +ℤ (d +ℤ pos 0))))
two_for_four old new t u a b c d a' y z e f g h = omega (arith, ints)

two_for_two : (old new t u a b y z c d : ℤ) → new +ℤ (t +ℤ u) ≡ old +ℤ (a +ℤ b) → t ≡ y → u ≡ z
    → a ≡ c → b ≡ d → new +ℤ (z +ℤ (y +ℤ pos 0)) ≡ old +ℤ (d +ℤ (c +ℤ pos 0))
two_for_two old new t u a b y z c d e f g h i = omega (arith, ints)

-- from the triangles to the faces
in_faces : (n n' o o' t r : ℤ) → n ≡ n' → n' +ℤ t ≡ o' +ℤ r → o ≡ o' → n +ℤ t ≡ o +ℤ r
in_faces n n' o o' t r e f g = omega (arith, ints)

-- ---- faces
-- what f says of a triangle
abbrev of : (Face → ℤ) → Triangle → ℤ
of f t = f (corners_of t)

-- where the triangles are a list, so are the faces
module _ (old new : Mesh) (f : Face → ℤ) (ts : List Triangle) (change : triangles new ≡ ts) where
  from_triangles : (t r : ℤ) → total (of f) ts +ℤ t ≡ total (of f) (triangles old) +ℤ r
      → total f (faces_of new) +ℤ t ≡ total f (faces_of old) +ℤ r
  from_triangles t r e = in_faces (total f (faces_of new)) (total (of f) ts)
      (total f (faces_of old)) (total (of f) (triangles old)) t r
      (total_faces f new ∙ ap (total (of f)) change) e (total_faces f old)

made_at : (new : Mesh) (ts : List Triangle) → triangles new ≡ ts → (y : Triangle) → Contains ts y
    → IsFaceOf (faces_of new) y.first y.second y.third
made_at new ts change y k = inl (face_listed new y (subst (λ xs. Contains xs y) (sym change) k))

-- vertex v is put into the face on the left of e
pub inserted_faces : (old new : Mesh) (v e : ℕ) → AreSoundLinks old → IsInnerEdge old e
    → InsertsTriangles old new v e → FacesChange (faces_of old) (faces_of new)
    (corners (origin old e) (origin old (next old e)) (origin old (prev old e)) ∷ [])
    (corners (origin old e) (origin old (next old e)) v ∷ corners (origin old (next old e))
    (origin old (prev old e)) v ∷ corners (origin old (prev old e)) (origin old e) v ∷ [])
inserted_faces old new v e s x change = record {
  totals = λ f free. one_for_three (total f (faces_of old)) (total f (faces_of new))
      (of f (get_or (triangles old) i none)) (f (corners a b v)) (f (corners b c v))
      (f (corners c a v)) (f (corners a b c))
      (from_triangles old new f (set (triangles old) i (triple a b v) ++ more) change
      (of f (get_or (triangles old) i none))
      (f (corners a b v) +ℤ (f (corners b c v) +ℤ (f (corners c a v) +ℤ pos 0)))
      (one_written (of f) (triangles old) more i (triple a b v) none within))
      (listed_face old e s t x.1 f none free);
  come = come_of (faces_of new) (corners a b v ∷ corners b c v ∷ corners c a v ∷ []) (
    made (triple a b v) (Contains-append_left (set (triangles old) i (triple a b v)) more
        (triple a b v) (set_has (triangles old) i (triple a b v) within)),
    (
      made (triple b c v) (Contains-append_right (set (triangles old) i (triple a b v)) more
          (triple b c v) (Contains-head (triple b c v) (triple c a v ∷ []))),
      (
        made (triple c a v) (Contains-append_right (set (triangles old) i (triple a b v)) more
            (triple c a v) (Contains-later (triple b c v) (triple c a v ∷ []) (triple c a v)
            (Contains-head (triple c a v) []))),
        tt,
      ),
    ),
  );
}
  where
    a : ℕ
    a = origin old e

    b : ℕ
    b = origin old (next old e)

    c : ℕ
    c = origin old (prev old e)

    i : ℕ
    i = face old e - 1

    more : List Triangle
    more = triple b c v ∷ triple c a v ∷ []

    t : T.IsTriangle old e
    t = T.triangle_at old e s x.0 x.1

    within : i < length (triangles old)
    within = face_within old e s x.0 x.1

    made : (y : Triangle) → Contains (set (triangles old) i (triple a b v) ++ more) y
        → IsFaceOf (faces_of new) y.first y.second y.third
    made = made_at new (set (triangles old) i (triple a b v) ++ more) change

-- edge e, with the outer face on its right, is split at vertex v
pub half_split_faces : (old new : Mesh) (v e : ℕ) → AreSoundLinks old → IsInnerEdge old e
    → HalfSplitsTriangles old new v e → FacesChange (faces_of old) (faces_of new)
    (corners (origin old e) (origin old (next old e)) (origin old (prev old e)) ∷ [])
    (corners (origin old e) v (origin old (prev old e))
    ∷ corners v (origin old (next old e)) (origin old (prev old e)) ∷ [])
half_split_faces old new v e s x change = record {
  totals = λ f free. one_for_two (total f (faces_of old)) (total f (faces_of new))
      (of f (get_or (triangles old) i none)) (f (corners c v b)) (f (corners v c a))
      (f (corners v b c)) (f (corners a v c)) (f (corners a b c))
      (from_triangles old new f (set (triangles old) i (triple c v b) ++ more) change
      (of f (get_or (triangles old) i none)) (f (corners c v b) +ℤ (f (corners v c a) +ℤ pos 0))
      (one_written (of f) (triangles old) more i (triple c v b) none within))
      (listed_face old e s t x.1 f none free) (free c v b) (sym (free a v c));
  come = come_of (faces_of new) (corners a v c ∷ corners v b c ∷ []) (
    turned_faces (faces_of new) c a v (turned_faces (faces_of new) v c a
        (made (triple v c a) (Contains-append_right (set (triangles old) i (triple c v b)) more
        (triple v c a) (Contains-head (triple v c a) [])))),
    (
      turned_faces (faces_of new) c v b
          (made (triple c v b) (Contains-append_left (set (triangles old) i (triple c v b)) more
          (triple c v b) (set_has (triangles old) i (triple c v b) within))),
      tt,
    ),
  );
}
  where
    a : ℕ
    a = origin old e

    b : ℕ
    b = origin old (next old e)

    c : ℕ
    c = origin old (prev old e)

    i : ℕ
    i = face old e - 1

    more : List Triangle
    more = triple v c a ∷ []

    t : T.IsTriangle old e
    t = T.triangle_at old e s x.0 x.1

    within : i < length (triangles old)
    within = face_within old e s x.0 x.1

    made : (y : Triangle) → Contains (set (triangles old) i (triple c v b) ++ more) y
        → IsFaceOf (faces_of new) y.first y.second y.third
    made = made_at new (set (triangles old) i (triple c v b) ++ more) change

-- a face is added
pub added_faces : (old new : Mesh) (a b c : ℕ) → AddsTriangle old new a b c
    → FacesChange (faces_of old) (faces_of new) [] (corners a b c ∷ [])
added_faces old new a b c change = record {
  totals = λ f free. from_triangles old new f (triangles old ++ triple a b c ∷ []) change (pos 0)
      (f (corners a b c) +ℤ pos 0) (no_more (total (of f) (triangles old ++ triple a b c ∷ []))
      ∙ total_append (of f) (triangles old) (triple a b c ∷ []));
  come = come_of (faces_of new) (corners a b c ∷ []) (
    made_at new (triangles old ++ triple a b c ∷ []) change (triple a b c) (Contains-append_right
        (triangles old) (triple a b c ∷ []) (triple a b c) (Contains-head (triple a b c) [])),
    tt,
  );
}
  where
    no_more : (z : ℤ) → z +ℤ pos 0 ≡ z
    no_more z = omega (arith, ints)

-- ---- the two faces of an edge
module _ (old : Mesh) (e : ℕ) (s : AreSoundLinks old) (x : IsFlippable old e) where
  left_side : IsInnerEdge old e
  left_side = (x.within, x.inner)

  right_side : IsInnerEdge old (rev e)
  right_side = (rev_within e (length old.half_edges) s.even x.within, x.twin_inner)

  -- the two places of their faces differ
  pub two_places : (face old e - 1) ≢ (face old (rev e) - 1)
  two_places same = x.apart (let h = x.inner in let k = x.twin_inner in omega arith)

  -- the twin of an edge between two faces starts at the second corner of the face on its left
  pub start_of_twin : origin old (rev e) ≡ origin old (next old e)
  start_of_twin = sym (s.edges e x.within).starts

  -- and the edge after the twin starts where the edge does
  pub end_of_twin : origin old (next old (rev e)) ≡ origin old e
  end_of_twin = (s.edges (rev e) right_side.0).starts ∙ ap (origin old) (rev-rev e)

-- edge e, between two inner faces, is split at vertex v
pub split_faces : (old new : Mesh) (v e : ℕ) → AreSoundLinks old → IsFlippable old e
    → SplitsTriangles old new v e → FacesChange (faces_of old) (faces_of new)
    (corners (origin old e) (origin old (next old e)) (origin old (prev old e))
    ∷ corners (origin old (next old e)) (origin old e) (origin old (prev old (rev e))) ∷ [])
    (corners v (origin old (prev old (rev e))) (origin old (next old e))
    ∷ corners (origin old (prev old (rev e))) v (origin old e) ∷ corners (origin old (next old e))
    (origin old (prev old e)) v ∷ corners (origin old (prev old e)) (origin old e) v ∷ [])
split_faces old new v e s x change = record {
  totals = λ f free. two_for_four (total f (faces_of old)) (total f (faces_of new))
      (of f (get_or (triangles old) i none)) (of f (get_or (triangles old) j none))
      (f (corners v d b)) (f (corners d v a')) (f (corners b c v)) (f (corners c a v))
      (f (corners d v a)) (f (corners a b c)) (f (corners b a d))
      (from_triangles old new f (set (set (triangles old) i (triple v d b)) j (triple d v a')
      ++ more) change (of f (get_or (triangles old) i none)
      +ℤ of f (get_or (triangles old) j none)) (f (corners v d b)
      +ℤ (f (corners d v a') +ℤ (f (corners b c v) +ℤ (f (corners c a v) +ℤ pos 0))))
      (two_written (of f) (triangles old) more i j (triple v d b) (triple d v a') none i_in j_in
      (two_places old e s x)))
      (listed_face old e s t x.inner f none free) (listed_face old (rev e) s u x.twin_inner f none
      free ∙ (λ k. f (corners (start_of_twin old e s x k) (end_of_twin old e s x k) d)))
      (λ k. f (corners d v (end_of_twin old e s x k)));
  come =
      come_of (faces_of new) (corners v d b ∷ corners d v a ∷ corners b c v ∷ corners c a v ∷ []) (
        made (triple v d b) (front (triple v d b)
            (sets_have (triangles old) i j (triple v d b) (triple d v a') i_in
            (two_places old e s x))),
        (
          subst (λ k. IsFaceOf (faces_of new) d v k) (end_of_twin old e s x)
              (made (triple d v a') (front (triple d v a')
              (sets_have_last (triangles old) i j (triple v d b) (triple d v a') j_in))),
          (
            made (triple b c v)
                (back (triple b c v) (Contains-head (triple b c v) (triple c a v ∷ []))),
            (
              made (triple c a v)
                  (back (triple c a v) (Contains-later (triple b c v) (triple c a v ∷ [])
                  (triple c a v) (Contains-head (triple c a v) []))),
              tt,
            ),
          ),
        ),
      );
}
  where
    a : ℕ
    a = origin old e

    a' : ℕ
    a' = origin old (next old (rev e))

    b : ℕ
    b = origin old (next old e)

    c : ℕ
    c = origin old (prev old e)

    d : ℕ
    d = origin old (prev old (rev e))

    i : ℕ
    i = face old e - 1

    j : ℕ
    j = face old (rev e) - 1

    more : List Triangle
    more = triple b c v ∷ triple c a v ∷ []

    l : IsInnerEdge old e
    l = left_side old e s x

    r : IsInnerEdge old (rev e)
    r = right_side old e s x

    t : T.IsTriangle old e
    t = T.triangle_at old e s l.0 l.1

    u : T.IsTriangle old (rev e)
    u = T.triangle_at old (rev e) s r.0 r.1

    i_in : i < length (triangles old)
    i_in = face_within old e s l.0 l.1

    j_in : j < length (triangles old)
    j_in = face_within old (rev e) s r.0 r.1

    made : (y : Triangle)
        → Contains (set (set (triangles old) i (triple v d b)) j (triple d v a') ++ more) y
        → IsFaceOf (faces_of new) y.first y.second y.third
    made = made_at new (set (set (triangles old) i (triple v d b)) j (triple d v a') ++ more) change

    front : (y : Triangle)
        → Contains (set (set (triangles old) i (triple v d b)) j (triple d v a')) y
        → Contains (set (set (triangles old) i (triple v d b)) j (triple d v a') ++ more) y
    front y k =
        Contains-append_left (set (set (triangles old) i (triple v d b)) j (triple d v a')) more y k

    back : (y : Triangle) → Contains more y
        → Contains (set (set (triangles old) i (triple v d b)) j (triple d v a') ++ more) y
    back y k = Contains-append_right
        (set (set (triangles old) i (triple v d b)) j (triple d v a')) more y k

-- edge e, from a to c between the faces a c d and c a b, is turned: they give way to a b d and b c
-- d
pub flipped_faces : (old new : Mesh) (e : ℕ) → AreSoundLinks old → IsFlippable old e
    → FlipsTriangles old new e → FacesChange (faces_of old) (faces_of new)
    (corners (origin old e) (origin old (prev old (rev e))) (origin old (next old e))
    ∷ corners (origin old e) (origin old (next old e)) (origin old (prev old e)) ∷ [])
    (corners (origin old e) (origin old (prev old (rev e))) (origin old (prev old e)) ∷ corners
    (origin old (prev old (rev e))) (origin old (next old e)) (origin old (prev old e)) ∷ [])
flipped_faces old new e s x change = record {
  totals = λ f free. two_for_two (total f (faces_of old)) (total f (faces_of new))
      (of f (get_or (triangles old) i none)) (of f (get_or (triangles old) j none))
      (f (corners d b c)) (f (corners b d a')) (f (corners a c d)) (f (corners a b c))
      (f (corners b c d)) (f (corners a b d))
      (from_triangles old new f (set (set (triangles old) i (triple d b c)) j (triple b d a'))
      change (of f (get_or (triangles old) i none) +ℤ of f (get_or (triangles old) j none))
      (f (corners d b c) +ℤ f (corners b d a'))
      (two_set (of f) (triangles old) i j (triple d b c) (triple b d a') none i_in j_in
      (two_places old e s x)))
      (listed_face old e s t x.inner f none free)
      (listed_face old (rev e) s u x.twin_inner f none free
      ∙ (λ k. f (corners (start_of_twin old e s x k) (end_of_twin old e s x k) b)) ∙ free c a b)
      (free d b c) ((λ k. f (corners b d (end_of_twin old e s x k))) ∙ sym (free a b d));
  come = come_of (faces_of new) (corners a b d ∷ corners b c d ∷ []) (
    turned_faces (faces_of new) d a b (turned_faces (faces_of new) b d a
        (subst (λ k. IsFaceOf (faces_of new) b d k) (end_of_twin old e s x) (made (triple b d a')
        (sets_have_last (triangles old) i j (triple d b c) (triple b d a') j_in)))),
    (
      turned_faces (faces_of new) d b c (made (triple d b c) (sets_have (triangles old) i j
          (triple d b c) (triple b d a') i_in (two_places old e s x))),
      tt,
    ),
  );
}
  where
    a : ℕ
    a = origin old e

    a' : ℕ
    a' = origin old (next old (rev e))

    b : ℕ
    b = origin old (prev old (rev e))

    c : ℕ
    c = origin old (next old e)

    d : ℕ
    d = origin old (prev old e)

    i : ℕ
    i = face old e - 1

    j : ℕ
    j = face old (rev e) - 1

    l : IsInnerEdge old e
    l = left_side old e s x

    r : IsInnerEdge old (rev e)
    r = right_side old e s x

    t : T.IsTriangle old e
    t = T.triangle_at old e s l.0 l.1

    u : T.IsTriangle old (rev e)
    u = T.triangle_at old (rev e) s r.0 r.1

    i_in : i < length (triangles old)
    i_in = face_within old e s l.0 l.1

    j_in : j < length (triangles old)
    j_in = face_within old (rev e) s r.0 r.1

    made : (y : Triangle)
        → Contains (set (set (triangles old) i (triple d b c)) j (triple b d a')) y
        → IsFaceOf (faces_of new) y.first y.second y.third
    made = made_at new (set (set (triangles old) i (triple d b c)) j (triple b d a')) change

-- the face on the right of an edge between two faces, named from its own corners
pub face_behind : (old : Mesh) (e : ℕ) → AreSoundLinks old → IsFlippable old e → IsFaceOf
    (faces_of old) (origin old (next old e)) (origin old e) (origin old (prev old (rev e)))
face_behind old e s x =
    let r = right_side old e s x in
    let k = is_face_at old (rev e) s (T.triangle_at old (rev e) s r.0 r.1) r.1 in
    subst (λ (y : ℕ × ℕ). IsFaceOf (faces_of old) y.0 y.1 (origin old (prev old (rev e))))
    (λ i. (start_of_twin old e s x i, end_of_twin old e s x i)) k

-- the face on the left of an inner edge is listed, up to rotation, from the edge on
pub face_before : (old : Mesh) (e : ℕ) → AreSoundLinks old → IsInnerEdge old e
    → IsFaceOf (faces_of old) (origin old e) (origin old (next old e)) (origin old (prev old e))
face_before old e s x = is_face_at old e s (T.triangle_at old e s x.0 x.1) x.1

-- ---- the local mesh
-- a vertex q strictly inside the face on the left of e
pub insertion_inside : (points : List Point) (q : Point) (old new : Mesh) (e : ℕ)
    → AreSoundLinks old → IsInnerEdge old e → LocalMesh points (faces_of old) (outer_of old)
    → InsideTriangle (place points (origin old e)) (place points (origin old (next old e)))
    (place points (origin old (prev old e))) (whole q) → InsertsTriangles old new (length points) e
    → KeepsOuter old new → LocalMesh (points ++ q ∷ []) (faces_of new) (outer_of new)
insertion_inside points q old new e s x m inside change outer =
    inside_face_kept points (faces_of old) (faces_of new) (outer_of old) (outer_of new) q
    (origin old e) (origin old (next old e)) (origin old (prev old e)) m
    (face_before old e s x) inside (inserted_faces old new (length points) e s x change)
    (outer_kept old new m.once outer)

-- a vertex q strictly within the edge e between two faces
pub insertion_within_side : (points : List Point) (q : Point) (old new : Mesh) (e : ℕ)
    → AreSoundLinks old → IsFlippable old e → LocalMesh points (faces_of old) (outer_of old)
    → WithinSegment (place points (origin old e)) (place points (origin old (next old e))) (whole q)
    → SplitsTriangles old new (length points) e → KeepsOuter old new
    → LocalMesh (points ++ q ∷ []) (faces_of new) (outer_of new)
insertion_within_side points q old new e s x m within change outer =
    within_side_kept points (faces_of old) (faces_of new) (outer_of old) (outer_of new) q
    (origin old e) (origin old (next old e)) (origin old (prev old e))
    (origin old (prev old (rev e))) m
    (face_before old e s (x.within, x.inner)) (face_behind old e s x) within
    (split_faces old new (length points) e s x change) (outer_kept old new m.once outer)

-- a vertex q strictly within the edge e, with the outer face on its right
pub insertion_within_outer : (points : List Point) (q : Point) (old new : Mesh) (e first last : ℕ)
    → AreSoundLinks old → IsHalfSplittable old e → length points ≡ length old.out_edges
    → LocalMesh points (faces_of old) (outer_of old)
    → WithinSegment (place points (origin old (next old e))) (place points (origin old e)) (whole q)
    → HalfSplitsTriangles old new (length points) e
    → ReplacesOuter old new (rev e) (length points) first last
    → LocalMesh (points ++ q ∷ []) (faces_of new) (outer_of new)
insertion_within_outer points q old new e first last s x count m within change outer =
    within_outer_kept points (faces_of old) (faces_of new) (outer_of old) (outer_of new) q
    (origin old (next old e)) (origin old e) (origin old (prev old e)) m
    (subst (Contains (outer_of old)) ends (listed old (rev e) (origin old (rev e))
    (origin old (rev (rev e))) (own_ends old (rev e) twin_in x.outer)))
    (face_before old e s (x.within, x.inner)) within
    (half_split_faces old new (length points) e s (x.within, x.inner) change)
    (subst (λ (y : ℕ × ℕ). OuterChange (outer_of old) (outer_of new) (y ∷ [])
    ((y.0, length points) ∷ (length points, y.1) ∷ [])) ends (outer_replaced old new (rev e)
    (length points) first last s m.once twin_in x.outer count outer))
  where
    twin_in : rev e < length old.half_edges
    twin_in = rev_within e (length old.half_edges) s.even x.within

    ends : let x : ℕ × ℕ = (origin old (rev e), origin old (rev (rev e))) in
        let y : ℕ × ℕ = (origin old (next old e), origin old e) in x ≡ y
    ends = λ i. (sym (s.edges e x.within).starts i, origin old (rev-rev e i))

-- the edge e is turned in a strictly convex quadrilateral
pub flip_kept_by : (points : List Point) (old new : Mesh) (e : ℕ) → AreSoundLinks old
    → IsFlippable old e → LocalMesh points (faces_of old) (outer_of old)
    → TurnsLeft (place points (origin old e)) (place points (origin old (prev old (rev e))))
    (place points (origin old (prev old e)))
    → TurnsLeft (place points (origin old (prev old (rev e))))
    (place points (origin old (next old e))) (place points (origin old (prev old e)))
    → FlipsTriangles old new e → KeepsOuter old new → LocalMesh points (faces_of new) (outer_of new)
flip_kept_by points old new e s x m first second change outer =
    flip_kept points (faces_of old) (faces_of new) (outer_of old) (outer_of new) (origin old e)
    (origin old (prev old (rev e))) (origin old (next old e)) (origin old (prev old e)) m
    (turned_faces (faces_of old) (origin old (next old e)) (origin old e) (origin old
    (prev old (rev e))) (face_behind old e s x)) (face_before old e s (x.within, x.inner)) first
    second (flipped_faces old new e s x change) (outer_kept old new m.once outer)
