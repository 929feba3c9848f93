-- The edits that keep a local mesh, in the words of specs/.
-- Notions: with_last, from_last (one more point); turning_of, index_of; inside_face_kept,
-- within_side_kept, within_outer_kept; flip_kept, flip_covers.
use Rattle.std.proofs.Common.{◌⊎◌, ℕ, suc, ◌<◌, List, [], ◌∷◌, ◌++◌, length, sym, subst}
use mathlib.Core.Logic.{inl, inr}
use Rattle.std.specs.Prelude.{pos, ◌<ℤ◌}
use Rattle.plane.specs.{Face, Fraction, InTriangle, place, Point, TurnsLeft, whole, WithinSegment}
use Rattle.plane.proofs.{bracket, bracket-turn, if_left, left_if, vec}
use Rattle.plane_theorems.specs.{IsFaceOf, LocalMesh, OuterChange}
use Rattle.plane_theorems.specs.Edits.Laws.{FlipCovers, FlipKeeps, InsertionInsideKeeps}
use Rattle.plane_theorems.specs.Edits.Laws.{InsertionWithinOuterKeeps, InsertionWithinSideKeeps}
use Rattle.plane_theorems.proofs.{Edits.Legalization.Legal.halved, Edits.LocalMesh.Changes.IsOnce}
use Rattle.plane_theorems.proofs.Tiling.Appended.{kept_point, last_point, length_appended}
use Rattle.plane_theorems.proofs.Tiling.Counting.{at, SignMesh}
use Rattle.plane_theorems.proofs.Tiling.Readings.{by_words, same_points}
use Rattle.plane_theorems.proofs.Tiling.Tiles.{by_signs, in_signs, inside_signs, point_at, signs_in}
use Rattle.plane_theorems.proofs.Tiling.Totals.{Contains-none}
use Rattle.plane_theorems.proofs.Tiling.Covering as C
use Rattle.plane_theorems.proofs.Edits.Insertion.Insertions as I
use Rattle.plane_theorems.proofs.Edits.Legalization.Flips as F

-- ---- one more point
-- the mesh, read with the new point
pub with_last : (points : List Point) (q : Point) (faces : List Face) (outer : List (ℕ × ℕ))
    → LocalMesh points faces outer
    → SignMesh (length points) (point_at (points ++ q ∷ [])) faces outer
with_last points q faces outer m = same_points _ _ _ _ _ (kept_point _ q) (by_signs _ _ _ m)

-- the mesh of the points with q last, read by signs, is a local mesh
pub from_last : (points : List Point) (q : Point) (faces : List Face) (outer : List (ℕ × ℕ))
    → SignMesh (suc (length points)) (point_at (points ++ q ∷ [])) faces outer
    → LocalMesh (points ++ q ∷ []) faces outer
from_last points q faces outer m = by_words _ _ _ (subst
    (λ n. SignMesh n (point_at (points ++ q ∷ [])) faces outer) (sym (length_appended _ q)) m)

-- the faces of a local mesh turn left, in each rotation
pub turning_of : (points : List Point) (faces : List Face) (outer : List (ℕ × ℕ))
    → LocalMesh points faces outer → (a b c : ℕ) → IsFaceOf faces a b c
    → TurnsLeft (place points a) (place points b) (place points c)
turning_of points faces outer m a b c h = left_if _ _ _
    (C.turn_left_of _ _ _ _ (by_signs _ _ _ m) a b c h)

-- the corners of a face of a local mesh are indexes of points, in each rotation
pub index_of : (points : List Point) (faces : List Face) (outer : List (ℕ × ℕ))
    → LocalMesh points faces outer → (a b c : ℕ) → IsFaceOf faces a b c
    → (a < length points) × (b < length points) × (c < length points)
index_of points faces outer m a b c h = C.turn_corners _ _ _ _ (by_signs _ _ _ m) a b c h

-- a vertex of two, with a new point
within_last : (points : List Point) (q : Point) (a b : ℕ) → a < length points → b < length points
    → WithinSegment (place points a) (place points b) (whole q)
    → WithinSegment (whole (point_at (points ++ q ∷ []) a)) (whole (point_at (points ++ q ∷ []) b))
    (whole (point_at (points ++ q ∷ []) (length points)))
within_last points q a b ha hb w =
    subst (λ (x : Point × Point × Point). WithinSegment (whole x.0) (whole x.1) (whole x.2))
    (λ i. (kept_point _ q a ha i, kept_point _ q b hb i, sym (last_point points q) i)) w

-- ---- insertions
-- a vertex put into a face leaves a mesh
pub inside_face_kept : InsertionInsideKeeps
inside_face_kept points faces new outer outer' q a b c m f inside change edges =
    let p = point_at (points ++ q ∷ []) in
    let n = length points in
    let x = index_of _ _ _ m a b c f in
    let s = inside_signs _ _ _ _
    (turning_of _ _ _ m a b c f) inside in
    from_last _ q new _
    (I.inside_kept n p _ new _ _ (with_last _ q _ _ m) a b c f
    (record {
      first = moved a b x.0 x.1 s.first;
      second = moved b c x.1 x.2 s.second;
      third = moved c a x.2 x.0 s.third;
    }) change edges)
  where
    moved : (i j : ℕ) → i < length points → j < length points
        → pos 0 <ℤ bracket (vec (place points i)) (vec (place points j)) (vec (whole q))
        → pos 0 <ℤ bracket (at (point_at (points ++ q ∷ [])) i) (at (point_at (points ++ q ∷ [])) j)
        (at (point_at (points ++ q ∷ [])) (length points))
    moved i j hi hj h = subst (λ (x : Point × Point × Point). pos 0 <ℤ bracket (vec (whole x.0))
        (vec (whole x.1)) (vec (whole x.2))) (λ o. (
          kept_point _ q i hi o,
          kept_point _ q j hj o,
          sym (last_point points q) o,
        )) h

-- a vertex strictly within the side of two faces is joined to their four corners, the mesh stays
-- local
pub within_side_kept : InsertionWithinSideKeeps
within_side_kept points faces new outer outer' q a b c d m f g within change edges =
    let x = index_of _ _ _ m a b c f in
    from_last _ q new _ (I.side_kept _ _ _
    new _ _ (with_last _ q _ _ m) a b c d f g
    (within_last _ q a b x.0 x.1 within) change edges)

-- a vertex strictly within an outer edge makes two halves of it, and the mesh stays local
pub within_outer_kept : InsertionWithinOuterKeeps
within_outer_kept points faces new outer outer' q u v c m own f within change edges =
    let x = index_of _ _ _ m v u c f in
    from_last _ q new _ (I.hull_kept _ _ _
    new _ _ (with_last _ q _ _ m) u v c own f
    (within_last _ q u v x.1 x.0 within) change edges)

-- ---- flips
-- the outer edges stay as they are
pub same_outer : (outer : List (ℕ × ℕ)) → IsOnce outer → OuterChange outer outer [] []
same_outer outer once = record {
  kept = λ i j h _. h;
  come = λ i j h. absurd (Contains-none (i, j) h);
  only = λ i j h. inl (h, λ x. Contains-none (i, j) x);
  once = once;
}

-- a flip across a strictly convex quadrilateral keeps the mesh local
pub flip_kept : FlipKeeps
flip_kept points faces new outer outer' a b c d m f g left right change edges = by_words _ new
    _ (F.flipped _ _ _ new _ _ (by_signs _ _ _ m) edges a b c d change f g (if_left _ _ _ left)
    (if_left _ _ _ right))

-- each three corners of a b c d after one another turn left
abbrev TurnAllLeft : Fraction → Fraction → Fraction → Fraction → Type 0
TurnAllLeft a b c d = TurnsLeft a b c × TurnsLeft b c d × TurnsLeft c d a × TurnsLeft d a b

-- then a point of d a b is in a b c or in c d a
half : (a b c d p : Fraction) → TurnAllLeft a b c d → InTriangle d a b p
    → InTriangle a b c p ⊎ InTriangle c d a p
half a b c d p q h = let i = in_signs d a b p q.3 h in
    elim (halved (vec a) (vec b) (vec c) (vec d) (vec p) (if_left a b c q.0)
    (rw (bracket-turn _ _ _) (if_left c d a q.2)) (rw bracket-turn at (if_left d a b q.3))
    (if_left b c d q.1) (record { first = i.1; second = i.2; third = i.0 })) [
      | inl x ↦ inl (signs_in a b c p q.0 x.first x.second x.third)
      | inr x ↦ inr (signs_in c d a p q.2 x.second x.third x.first)
    ]

-- the two halvings of a strictly convex quadrilateral cover the same points
pub flip_covers : FlipCovers
flip_covers a b c d p abc acd abd bcd = ((λ h. forth h), (λ h. back h))
  where
    left_turned : (a b c : Fraction) → TurnsLeft a b c → TurnsLeft b c a
    left_turned a b c h = left_if b c a (rw bracket-turn at (if_left a b c h))

    turned : (a b c : Fraction) → TurnsLeft a b c → InTriangle a b c p → InTriangle b c a p
    turned a b c t h =
        let i = in_signs a b c p t h in signs_in b c a p (left_turned a b c t) i.1 i.2 i.0

    bda : TurnsLeft b d a
    bda = left_turned a b d abd

    cda : TurnsLeft c d a
    cda = left_turned a c d acd

    dab : TurnsLeft d a b
    dab = left_turned b d a bda

    to_acd : InTriangle c d a p → InTriangle a c d p
    to_acd h = turned d a c (left_turned c d a cda) (turned c d a cda h)

    forth : InTriangle a b c p ⊎ InTriangle a c d p → InTriangle a b d p ⊎ InTriangle b c d p
    forth (inl h) = elim (half b c d a p (bcd, cda, dab, abc) h)
        [ inl x ↦ inr x | inr x ↦ inl (turned d a b dab x) ]
    forth (inr h) = elim (half d a b c p (dab, abc, bcd, cda) (turned a c d acd h))
        [ inl x ↦ inl (turned d a b dab x) | inr x ↦ inr x ]

    back : InTriangle a b d p ⊎ InTriangle b c d p → InTriangle a b c p ⊎ InTriangle a c d p
    back (inl h) =
        elim (half a b c d p (abc, bcd, cda, dab) (turned b d a bda (turned a b d abd h)))
        [ inl x ↦ inl x | inr x ↦ inr (to_acd x) ]
    back (inr h) = elim (half c d a b p (cda, dab, abc, bcd) h)
        [ inl x ↦ inr (to_acd x) | inr x ↦ inl x ]
