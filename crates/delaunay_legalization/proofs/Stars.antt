-- Where all faces that were made have one vertex as a corner, only the edges of the faces at this
-- vertex are left to test.
-- Lemmas: face_corners, made_at_leaves, star_is_left, sides_kept.
use Rattle.std.proofs.Common.{◌≡◌, ◌⊎◌, ◌/◌, ◌<◌, [], ◌∷◌, ◌++◌, ◌∙◌}
use Rattle.std.proofs.Common.{ℕ, List, length, sym, ap, subst, inl, inr, arith}
use Rattle.std.specs.Prelude.{Contains}
use Rattle.std.proofs.lemmas.Bool.{cases_eq}
use Rattle.plane.specs.{Face, Fraction, InsideCircle, Joins, place, Point, whole}
use Rattle.half_edge_links.specs.{AreSoundLinks, Mesh, next, prev, rev}
use Rattle.{half_edge_links.proofs.rev_within, plane_theorems.proofs.Edits.LocalMesh.Kept.index_of}
use Rattle.plane_theorems.specs.{AllPassBut, IsFaceOf, IsMesh, Pass}
use Rattle.plane_theorems.proofs.{Contains-none, kept_point, none_in_empty}
use Rattle.delaunay_legalization.specs.{faces_of, MakesFacesAt, pairs_at}
use Rattle.delaunay_legalization.specs.Star.{AllPassBeside, HasSidesAt, HasStar, IsOneOf}
use Rattle.delaunay_legalization.proofs.MeshLegal.{joins_directed}
use Rattle.delaunay_legalization.proofs.MeshStars.{edge_of_face, IsEdgeOfFace}
use Rattle.half_edge_links.proofs.Sound.Triangles as T

-- the corners of a face are points
pub face_corners : (points : List Point) (faces : List Face) (outer : List (ℕ × ℕ))
    → IsMesh points faces outer → (i j k : ℕ) → IsFaceOf faces i j k
    → (i < length points) × (j < length points) × (k < length points)
face_corners points faces outer (inl m) i j k f = index_of points faces outer m i j k f
face_corners points faces outer (inr m) i j k f =
    absurd (none_in_empty i j k (subst (λ fs. IsFaceOf fs i j k) m.0 f))

place_kept : (points : List Point) (q : Point) (k : ℕ) → k < length points
    → place points k ≡ place (points ++ q ∷ []) k
place_kept points q k h = ap whole (kept_point points q k h)

pass_kept : (points : List Point) (q : Point) (i j k l : ℕ) → i < length points → j < length points
    → k < length points → l < length points → Pass points i j k l → Pass (points ++ q ∷ []) i j k l
pass_kept points q i j k l a b c d p =
    subst (λ (x : Fraction × Fraction × Fraction × Fraction). (¬ InsideCircle x.0 x.1 x.2 x.3) ×
    (¬ InsideCircle x.1 x.0 x.3 x.2))
    (λ o. (
      place_kept points q i a o,
      place_kept points q j b o,
      place_kept points q k c o,
      place_kept points q l d o,
    ))
    p

-- each edge between faces that were there passes as it did, where its mark has not gone
pub made_at_leaves : (points : List Point) (q : Point) (old new : List Face)
    (outer before after : List (ℕ × ℕ)) (v : ℕ) → IsMesh points old outer
    → AllPassBut points old before [] → MakesFacesAt v old outer new
    → ((i j : ℕ) → Joins before i j → Joins after i j ⊎ ((k : ℕ) → ¬ IsFaceOf new i j k))
    → AllPassBeside (points ++ q ∷ []) new after v
made_at_leaves points q old new outer before after v shape passing made marked i j k l f g free
    off off_twin =
    go (made.each i j k f) (made.each j i l g)
  where
    was_free : ¬ Joins before i j
    was_free h = elim (marked i j h) as (λ _. ⊥) [ inl x ↦ free x | inr n ↦ n k f ]

    none_joined : ¬ Joins [] i j
    none_joined h =
        elim h as (λ _. ⊥) [ inl c ↦ Contains-none (i, j) c | inr c ↦ Contains-none (j, i) c ]

    go : IsFaceOf old i j k ⊎ IsOneOf v i j k → IsFaceOf old j i l ⊎ IsOneOf v j i l
        → Pass (points ++ q ∷ []) i j k l
    go (inr x) y = absurd (off x)
    go (inl x) (inr y) = absurd (off_twin y)
    go (inl x) (inl y) =
        let b = face_corners points old outer shape i j k x in
        let c = face_corners points old outer shape j i l y in
        pass_kept points q i j k l b.0 b.1 b.2 c.2 (passing i j k l x y was_free none_joined)

-- ---- a work list with the edges of the faces at a vertex
half_of_rev : (h : ℕ) → rev h / 2 ≡ h / 2
half_of_rev h = grind arith

module _ (m : Mesh) (s : AreSoundLinks m) (v : ℕ) (ks : List ℕ) (star : HasStar m v ks) where
  side_joined : (h i j k : ℕ) → IsEdgeOfFace m h i j k → Contains ks (h / 2)
      → Joins (pairs_at m ks) i j
  side_joined h i j k e c = subst (λ (x : ℕ × ℕ). Joins (pairs_at m ks) x.0 x.1)
      (λ o. (e.first o, (sym (s.edges h e.inner.0).starts ∙ e.second) o)) (joins_directed m ks h c)

  -- it has each side of each of these faces
  side_there : (h i j k : ℕ) → IsEdgeOfFace m h i j k → IsOneOf v i j k → Contains ks (h / 2)
  side_there h i j k e (inl is) = (star h e.inner.0 (e.first ∙ is)).here
  side_there h i j k e (inr (inl is)) =
      let there = rev_within h (length m.half_edges) s.even e.inner.0 in
      subst (Contains ks) (half_of_rev h)
      (star (rev h) there (sym (s.edges h e.inner.0).starts ∙ e.second ∙ is)).here
  side_there h i j k e (inr (inr is)) =
      let t = T.triangle_at m h s e.inner.0 e.inner.1 in
      subst (λ (x : ℕ). Contains ks (x / 2)) t.next_prev
      (star (prev m h) t.prev_in (e.third ∙ is)).after

  star_joins : (i j k : ℕ) → IsFaceOf (faces_of m) i j k → IsOneOf v i j k
      → Joins (pairs_at m ks) i j
  star_joins i j k f is =
      let e = edge_of_face m s i j k f in
      side_joined e.0 i j k e.1 (side_there e.0 i j k e.1 is)

  one_of_or_not : (i j k : ℕ) → IsOneOf v i j k ⊎ (¬ IsOneOf v i j k)
  one_of_or_not i j k = elim (cases_eq i v) [
    | inl e ↦ inl (inl e)
    | inr n ↦ elim (cases_eq j v) [
      | inl e ↦ inl (inr (inl e))
      | inr o ↦ elim (cases_eq k v) [
        | inl e ↦ inl (inr (inr e))
        | inr p ↦ inr (λ x. elim x as (λ _. ⊥) [
          | inl e ↦ n e
          | inr y ↦ elim y as (λ _. ⊥) [ inl e ↦ o e | inr e ↦ p e ]
        ])
      ]
    ]
  ]

  -- so nothing else is left to test
  pub star_is_left : (points : List Point) (constraints : List (ℕ × ℕ))
      → AllPassBeside points (faces_of m) constraints v
      → AllPassBut points (faces_of m) constraints (pairs_at m ks)
  star_is_left points constraints passing i j k l f g free untested =
      go (one_of_or_not i j k) (one_of_or_not j i l)
    where
      back : Joins (pairs_at m ks) j i → Joins (pairs_at m ks) i j
      back (inl h) = inr h
      back (inr h) = inl h

      go : IsOneOf v i j k ⊎ (¬ IsOneOf v i j k) → IsOneOf v j i l ⊎ (¬ IsOneOf v j i l)
          → Pass points i j k l
      go (inl x) y = absurd (untested (star_joins i j k f x))
      go (inr x) (inl y) = absurd (untested (back (star_joins j i l g y)))
      go (inr x) (inr y) = passing i j k l f g free x y

-- a longer list has them too
pub sides_kept : (m : Mesh) (h : ℕ) (ks more : List ℕ) → ((j : ℕ) → Contains ks j → Contains more j)
    → HasSidesAt m h ks → HasSidesAt m h more
sides_kept m h ks more kept x =
    record { here = kept (h / 2) x.here; after = kept (next m h / 2) x.after }
