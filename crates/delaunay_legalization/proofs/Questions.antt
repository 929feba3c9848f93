-- What the answers of a few tests say of points.
-- both_ways: no truth value is both true and false
-- covered_in: a listed site is covered, where all sites are
-- within_if, if_within: strictly between two points exactly where on their line, in their box and
--   at neither
use Rattle.std.proofs.Common.{◌≡◌, ◌≢◌, Bool, true, false, List, subst}
use Rattle.std.specs.Prelude.{All, Contains}
use Rattle.plane.specs.{on, Point, side, whole, WithinSegment}
use Rattle.plane_theorems.proofs.{within_on}
use Rattle.{delaunay_legalization.specs.Between.IsInBox, plane.proofs.if_on, plane.proofs.on_if}
use Rattle.delaunay_legalization.proofs.Between.{box_of_within, within_of_box}

-- a point on the line through two others, in their box and at neither, is strictly between them, by
-- the side
pub within_if : (u v p : Point) → u ≢ v → p ≢ u → p ≢ v → side (whole u) (whole v) (whole p) ≡ on
    → IsInBox u v p → WithinSegment (whole u) (whole v) (whole p)
within_if u v p apart from_u from_v flat box =
    within_of_box u v p apart from_u from_v (if_on (whole u) (whole v) (whole p) flat) box

-- a point strictly between two others is on the line through them and in their box
pub if_within : (u v p : Point) → WithinSegment (whole u) (whole v) (whole p)
    → (side (whole u) (whole v) (whole p) ≡ on) × IsInBox u v p
if_within u v p w =
    (on_if (whole u) (whole v) (whole p) (within_on u v (whole p) w), box_of_within u v p w)

-- no truth value is both true and false
pub both_ways : (b : Bool) → b ≡ true → b ≡ false → ⊥
both_ways b t f = cc

-- a listed site is covered
pub covered_in : (IsCovered IsSite : Point → Type 0) → ((p : Point) → IsSite p → IsCovered p)
    → (points : List Point) (q : Point) → All IsSite points → Contains points q → IsCovered q
covered_in IsCovered IsSite covers points q sites c = covers q (subst IsSite c.2 (sites c.0 q c.1))
