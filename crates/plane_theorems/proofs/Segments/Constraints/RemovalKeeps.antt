-- Where the faces at a vertex go, each edge that does not end there has a face or the outer face on
-- its other side.
-- Lemmas: removal_keeps_constraints.
use Rattle.std.proofs.Common.{◌≡◌, ◌⊎◌, ℕ, List, length, sym, subst}
use mathlib.Core.Logic.{inl, inr, ◌≢◌}
use Rattle.std.specs.Prelude.{pos, ◌<ℤ◌, Contains}
use Rattle.plane.specs.{Face, Joins, Point}
use Rattle.plane.proofs.{bracket, bracket-swap, Indexes.cases_turned, opposites_not_both_positive}
use Rattle.plane_theorems.specs.{FacesChange, IsCorner, IsFaceOf, IsSideOfOne, LocalMesh}
use Rattle.plane_theorems.specs.{OuterChange, Segments.PathSteps.RemovalKeepsConstraints}
use Rattle.plane_theorems.proofs.Edits.LocalMesh.Changes.{face_kept, turn_of_all}
use Rattle.plane_theorems.proofs.{Tiling.Counting.at, Tiling.Tiles.by_signs, Tiling.Tiles.point_at}
use Rattle.plane_theorems.proofs.Tiling.Flows.{HasSide}
use Rattle.plane_theorems.proofs.Tiling.Covering as C

-- not both ways of an edge have v on their left
one_way : (points : List Point) (faces : List Face) (outer : List (ℕ × ℕ))
    → LocalMesh points faces outer → (a b v : ℕ) → IsFaceOf faces a b v → ¬ IsFaceOf faces b a v
one_way points faces outer m a b v f g = opposites_not_both_positive
    (bracket (at (point_at points) a) (at (point_at points) b) (at (point_at points) v))
    (bracket (at (point_at points) b) (at (point_at points) a) (at (point_at points) v))
    (bracket-swap (at (point_at points) a) (at (point_at points) b) (at (point_at points) v))
    (left a b f) (left b a g)
  where
    left : (i j : ℕ) → IsFaceOf faces i j v → pos 0
        <ℤ bracket (at (point_at points) i) (at (point_at points) j) (at (point_at points) v)
    left i j h = C.turn_left_of (length points) (point_at points) faces outer
        (by_signs points faces outer m) i j v h

module _ (points : List Point) (faces new gone made : List Face) (outer outer' left come : List
    (ℕ × ℕ)) (v : ℕ) (m : LocalMesh points faces outer) (change : FacesChange faces new gone made)
    (outer_change : OuterChange outer outer' left come) (at_v : (f : Face) → Contains gone f
    → IsCorner f v) (ends_at_v : (i j : ℕ) → Contains left (i, j) → (i ≡ v) ⊎ (j ≡ v)) where
  -- a face that goes has v for its third corner, where it is not one of the others
  stays_or_third : (a b k : ℕ) → a ≢ v → b ≢ v → IsFaceOf faces a b k → IsFaceOf new a b k ⊎ (k ≡ v)
  stays_or_third a b k na nb f = elim (face_kept faces new gone made change a b k f) [
    | inl o ↦ inl o
    | inr o ↦ third (turn_of_all gone Has (λ i j k e. cases_turned e) at_v a b k o)
  ]
    where
      Has : ℕ → ℕ → ℕ → Type 0
      Has i j k = (v ≡ i) ⊎ ((v ≡ j) ⊎ (v ≡ k))

      third : (v ≡ a) ⊎ ((v ≡ b) ⊎ (v ≡ k)) → IsFaceOf new a b k ⊎ (k ≡ v)
      third (inl e) = absurd (na (sym e))
      third (inr (inl e)) = absurd (nb (sym e))
      third (inr (inr e)) = inr (sym e)

  way_stays : (a b k : ℕ) → a ≢ v → b ≢ v → IsFaceOf faces a b k
      → IsSideOfOne new a b ⊎ Joins outer' a b
  way_stays a b k na nb f = elim (stays_or_third a b k na nb f) [
    | inl o ↦ inl (k, inl o)
    | inr e ↦ across (C.behind_side (length points) (point_at points) faces outer
        (by_signs points faces outer m) a b (k, f)) (subst (IsFaceOf faces a b) e f)
  ]
    where
      across : HasSide faces b a ⊎ Contains outer (b, a) → IsFaceOf faces a b v
          → IsSideOfOne new a b ⊎ Joins outer' a b
      across (inl (l, g)) own = elim (stays_or_third b a l nb na g) [
        | inl o ↦ inl (l, inr o)
        | inr e ↦ absurd (one_way points faces outer m a b v own (subst (IsFaceOf faces b a) e g))
      ]
      across (inr h) own = inr (inr
          (outer_change.kept b a h (λ x. elim (ends_at_v b a x) [ inl e ↦ nb e | inr e ↦ na e ])))

  side_stays : (a b : ℕ) → a ≢ v → b ≢ v → IsSideOfOne faces a b
      → IsSideOfOne new a b ⊎ Joins outer' a b
  side_stays a b na nb (k, inl f) = way_stays a b k na nb f
  side_stays a b na nb (k, inr f) = back (way_stays b a k nb na f)
    where
      back : IsSideOfOne new b a ⊎ Joins outer' b a → IsSideOfOne new a b ⊎ Joins outer' a b
      back (inl (l, inl o)) = inl (l, inr o)
      back (inl (l, inr o)) = inl (l, inl o)
      back (inr (inl o)) = inr (inr o)
      back (inr (inr o)) = inr (inl o)

-- where only faces and outer edges at a vertex go, constraints that do not end there stay edges
pub removal_keeps_constraints : RemovalKeepsConstraints
removal_keeps_constraints points faces new gone made outer outer' left come constraints v m change
    outer_change at_v ends_at_v edges a b h na nb = side_stays points faces new gone made outer
    outer' left come v m change outer_change at_v ends_at_v a b na nb (edges a b h)
