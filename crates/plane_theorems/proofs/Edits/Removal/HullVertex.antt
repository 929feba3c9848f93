-- The removal of a vertex of the hull, in the words of specs/.
-- Notions: corner_star_flips, flat_star_flips, corner_goes, flat_side_closes, corner_leaves_line,
-- corner_or_flat.
use Rattle.std.proofs.Common.{ap, ◌∙◌, arith}
use Prim.Native.Nat.{◌-◌}
use Rattle.std.specs.Prelude.{neg_ℤ}
use mathlib.Core.Logic.{inl, inr}
use Rattle.plane.proofs.{bracket-swap, if_left, if_on, left_if, on_if, zero_or_left}
use Rattle.plane_theorems.specs.Edits.RemovalHull.{CornerGoes, CornerLeavesLine, CornerOrFlat}
use Rattle.plane_theorems.specs.Edits.RemovalHull.{CornerStarFlips, FlatSideCloses, FlatStarFlips}
use Rattle.plane_theorems.proofs.Tiling.Tiles.{bracket_not_left, by_signs}
use Rattle.plane_theorems.proofs.Edits.Removal.HullStar as H
use Rattle.plane_theorems.proofs.Edits.Removal.HullCut as T
use Rattle.plane_theorems.proofs.Edits.Removal.HullLine as N

-- at a corner of the hull, an edge can be flipped wherever the neighbours turn left
pub corner_star_flips : CornerStarFlips
corner_star_flips points faces outer v k nb m star corner i h = left_if _ _ _
    (H.skip _ _ _ _ (by_signs _ _ _ m) v k nb star (if_left _ _ _ corner) i h)

-- at a vertex on a flat side of the hull with three faces or more, some edge can be flipped
pub flat_star_flips : FlatStarFlips
flat_star_flips points faces outer v k nb m star three flat =
    let r = H.flat_flips _ _ _ _
    (by_signs _ _ _ m) v k nb star
    (bracket-swap _ _
    _
    ∙ ap neg_ℤ (if_on _ _ _ flat))
    (k - 3) (omega arith) in (r.0, r.1, left_if _ _ _ r.2, left_if _ _ _ r.3)

-- a corner of the hull goes with its faces, where no neighbours turn left and some face is left
pub corner_goes : CornerGoes
corner_goes points faces new outer outer' v k nb m star corner bent change outer_change some =
    T.corner_gone _ _ new _ _ m v k nb star (if_left _ _ _ corner)
    (λ j h. bracket_not_left _ _ _ (bent j h)) change outer_change some

-- the two faces at a vertex on a flat side of the hull become the one of its neighbours
pub flat_side_closes : FlatSideCloses
flat_side_closes points faces new outer outer' v nb m star flat change outer_change = T.flat_closed
    _ _ new _ _ m v nb star (if_on _ _ _ flat) change outer_change

-- where a corner goes with all of the faces, the other vertices are on one line
pub corner_leaves_line : CornerLeavesLine
corner_leaves_line points faces new outer outer' v k nb m star corner bent change outer_change
    empty = N.line_left _ _ new _ _ m v k nb star (if_left _ _ _ corner)
    (λ j h. bracket_not_left _ _ _ (bent j h)) change outer_change empty

-- a vertex of the hull is at a corner, or on a flat side with two faces or more
pub corner_or_flat : CornerOrFlat
corner_or_flat points faces outer v k nb m star = elim (zero_or_left
    (H.from_first _ _ _ _ (by_signs _ _ _ m) v k nb star _
    (H.neighbour_is _ _ _ _ (by_signs _ _ _ m) v k nb star k (omega arith)))) [
      | inl e ↦ inr (
        on_if _ _ _ (bracket-swap _ _ _ ∙ ap neg_ℤ e),
        H.two_faces _ _ _ _ (by_signs _ _ _ m) v k nb star e,
      )
      | inr l ↦ inl (left_if _ _ _ l)
    ]
