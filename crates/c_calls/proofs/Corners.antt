-- The corners of a rectangle.
-- Lemmas: corners_in_range.
use Rattle.std.proofs.Common.{◌∷◌, []}
use Rattle.std.specs.Prelude.{All}
use Rattle.std.proofs.lemmas.List.Elements.{All-cons, All-nil}
use Rattle.{delaunay_shapes.specs.corners, plane.specs.InRange, plane.specs.Point}

-- all four corners are in range where two opposite ones are
pub corners_in_range : (lower upper : Point) → InRange lower → InRange upper
    → All InRange (corners lower upper)
corners_in_range lower upper low high =
    let right : Point = record { x = upper.x; y = lower.y } in
    let left : Point = record { x = lower.x; y = upper.y } in
    All-cons InRange lower (right ∷ upper ∷ left ∷ []) low
    (All-cons InRange right (upper ∷ left ∷ []) (record { x = high.x; y = low.y })
    (All-cons InRange upper (left ∷ []) high
    (All-cons InRange left [] (record { x = low.x; y = high.y }) (All-nil InRange))))
