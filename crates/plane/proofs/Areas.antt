-- The side of a point by twice the signed area of a triangle.
-- Lemmas: left_if_positive, right_if_negative, on_if_zero, side_by_area.
use Rattle.std.proofs.Common.{◌≡◌, subst, sym, ◌∙◌}
use Rattle.std.specs.Prelude.{pos, ◌<ℤ◌}
use Rattle.plane.specs.{left, on, Point, right, side, turn_at, whole}
use Rattle.plane.specs.Laws.{SideIsDeterminant}
use Rattle.plane.proofs.{Bracket.bracket, Bracket.lift, BracketIdentities.bracket-affine}
use Rattle.plane.proofs.Sides.{if_left, if_on, if_right, left_if, on_if, right_if}

-- the bracket is twice the area
bracket_is_area : (u v p : Point) → bracket (lift u) (lift v) (lift p) ≡ turn_at u v p
bracket_is_area u v p = bracket-affine u v p

-- ---- each sign of the area gives its side
-- a turn of positive area is a left one
pub left_if_positive : (u v p : Point) → pos 0 <ℤ turn_at u v p
    → side (whole u) (whole v) (whole p) ≡ left
left_if_positive u v p h =
    left_if (whole u) (whole v) (whole p) (subst (λ z. pos 0 <ℤ z) (sym (bracket_is_area u v p)) h)

-- where twice the area is below 0, the third point is on the right of the line through the first
-- two
pub right_if_negative : (u v p : Point) → turn_at u v p <ℤ pos 0
    → side (whole u) (whole v) (whole p) ≡ right
right_if_negative u v p h =
    right_if (whole u) (whole v) (whole p) (subst (λ z. z <ℤ pos 0) (sym (bracket_is_area u v p)) h)

-- where twice the area is 0, the third point is on the line through the first two
pub on_if_zero : (u v p : Point) → turn_at u v p ≡ pos 0 → side (whole u) (whole v) (whole p) ≡ on
on_if_zero u v p h = on_if (whole u) (whole v) (whole p) (bracket_is_area u v p ∙ h)

-- the area's sign is the side, each way
pub side_by_area : SideIsDeterminant
side_by_area u v p = (
  (
    (λ e. subst (λ z. pos 0 <ℤ z) (bracket_is_area u v p)
        (if_left (whole u) (whole v) (whole p) e)),
    left_if_positive u v p,
  ),
  (
    (λ e. subst (λ z. z <ℤ pos 0) (bracket_is_area u v p)
        (if_right (whole u) (whole v) (whole p) e)),
    right_if_negative u v p,
  ),
  ((λ e. sym (bracket_is_area u v p) ∙ if_on (whole u) (whole v) (whole p) e), on_if_zero u v p),
)
