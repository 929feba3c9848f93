use Rattle.std.proofs.Common.{inl, inr, refl}
use Rattle.plane.proofs.{on_of_within}
use Rattle.delaunay_location.proofs.SegmentTests.{on_if_same, unless, within_if_differs}
use Rattle.delaunay_location.proofs.outside.carries.Goals as goal

pub returns-then-is_same_point : goal.returns-then-is_same_point
returns-then-is_same_point g c =
    let from = c.is_same_point.ensures.0 c.if-is_same_point.true in
    ((λ t. on_if_same _ _ _ (inl from)), (λ o. refl))

pub returns-then-is_same_point-2 : goal.returns-then-is_same_point-2
returns-then-is_same_point-2 g c =
    let to = c.is_same_point-2.ensures.0 c.if-is_same_point-2.true in
    ((λ t. on_if_same _ _ _ (inr to)), (λ o. refl))

pub returns : goal.returns
returns g c =
    let from = unless c.is_same_point.ensures c.if-is_same_point.false in
    let to = unless c.is_same_point-2.ensures c.if-is_same_point-2.false in (
      (λ t. on_of_within _ _ _ (c.is_strictly_within.ensures.0 t)),
      (λ o. c.is_strictly_within.ensures.1 (within_if_differs _ _ _ from to o)),
    )
