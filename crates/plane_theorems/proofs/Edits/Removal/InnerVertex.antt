-- The removal of an inner vertex, in the words of specs/.
-- Notions: inner_star_flips, three_faces_merge, four_faces_merge.
use Rattle.std.proofs.Common.{◌≡◌, ℕ, suc, ◌≤◌, length, ◌∙◌, subst, arith}
use Prim.Native.Nat.{◌-◌}
use mathlib.Core.Logic.{inl, inr}
use Rattle.plane.proofs.{left_if}
use Rattle.plane_theorems.specs.Edits.RemovalLaws.{FourFacesMerge, InnerStarFlips, ThreeFacesMerge}
use Rattle.plane_theorems.proofs.Tiling.Tiles.{by_signs, point_at}
use Rattle.plane_theorems.proofs.Edits.Removal.Inner as I
use Rattle.plane_theorems.proofs.Edits.Removal.Merge as M

-- an inner vertex with four neighbours or more has an edge to flip, or four and is between two of
-- them
pub inner_star_flips : InnerStarFlips
inner_star_flips points faces outer v k nb m star four = elim
    (I.flip_or_four _ _ _ _ (by_signs _ _ _ m) v nb (k - 3) (omega arith)
    (subst (λ z. I.IsCycle (length points) (point_at points) faces outer (by_signs _ _ _ m) v nb z)
    (longer k four) (record { round = star.around; again = star.again; apart = star.apart }))) [
      | inl a ↦ inl (a.0, left_if _ _ _ a.1.0, left_if _ _ _ a.1.1)
      | inr b ↦ inr (longer k four ∙ b.1.four, (b.0, b.1.between))
    ]
  where
    longer : (k : ℕ) → 4 ≤ k → k ≡ suc (suc (suc (k - 3)))
    longer k h = omega arith

-- the three faces at an inner vertex become the one of its neighbours
pub three_faces_merge : ThreeFacesMerge
three_faces_merge points faces new outer outer' v nb m star change outer_change =
    M.three_filled _ _ new _ _ m outer_change v nb star change

-- the four faces at a vertex strictly between two opposite neighbours become two
pub four_faces_merge : FourFacesMerge
four_faces_merge points faces new outer outer' v nb m star between change outer_change =
    M.four_filled _ _ new _ _ m outer_change v nb star between change
