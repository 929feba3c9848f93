-- What a search over a mesh asks.
-- Lemmas: begins_at, corners_in_range.
use Rattle.std.proofs.Common.{◌≡◌, ◌∷◌, [], subst}
use Rattle.std.specs.Prelude.{All}
use Rattle.std.proofs.lemmas.List.Elements.{All-cons, All-nil}
use Rattle.plane.specs.{InClosedRectangle, InRange, Point}
use Rattle.delaunay_shapes.specs.{corners, HasStartAt}
use Rattle.delaunay_shapes.proofs.Shapes.{rectangle_begins}

-- a rectangle's search begins at its lower corner
pub begins_at : (lower upper corner : Point) → lower ≡ corner
    → HasStartAt (InClosedRectangle lower upper) corner
begins_at lower upper corner e =
    subst (HasStartAt (InClosedRectangle lower upper)) e (rectangle_begins lower upper)

-- all four corners are in range where two opposite ones are
pub corners_in_range : (lower upper : Point) → InRange lower → InRange upper
    → All InRange (corners lower upper)
corners_in_range lower upper low high =
    let right : Point = record { x = upper.x; y = lower.y } in
    let left : Point = record { x = lower.x; y = upper.y } in
    All-cons InRange lower (right ∷ upper ∷ left ∷ []) low
    (All-cons InRange right (upper ∷ left ∷ []) (record { x = high.x; y = low.y })
    (All-cons InRange upper (left ∷ []) high
    (All-cons InRange left [] (record { x = low.x; y = high.y }) (All-nil InRange))))
