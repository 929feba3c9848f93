use Rattle.std.proofs.Common.{inl, inr, refl, sym}
use Rattle.plane.proofs.{on_of_within}
use Rattle.delaunay_location.proofs.SegmentTests.{on_if_same, unless, within_if_differs}
use Rattle.delaunay_location.proofs.vertex.is_ahead.Goals as goal

pub returns-then-is_same_point : goal.returns-then-is_same_point
returns-then-is_same_point g c =
    let same = c.is_same_point.ensures.0 c.if-is_same_point.true in
    ((λ t. inl (on_if_same _ _ _ (inr (sym same)))), (λ o. refl))

pub returns-then-is_strictly_within : goal.returns-then-is_strictly_within
returns-then-is_strictly_within g c = (
  (λ t. inl (on_of_within _ _ _ (c.is_strictly_within.ensures.0 c.if-is_strictly_within.true))),
  (λ o. refl),
)

pub returns : goal.returns
returns g c =
    let differ = unless c.is_same_point.ensures c.if-is_same_point.false in
    let not_within = unless c.is_strictly_within.ensures c.if-is_strictly_within.false in
    let further = c.is_strictly_within-2.ensures in (
      (λ t. inr (on_of_within _ _ _ (further.0 t))),
      (λ o. elim o [
        | inl to ↦ absurd (not_within (within_if_differs _ _ _ (λ e. c.requires.point_apart (sym e))
            (λ e. differ (sym e)) to))
        | inr to ↦ further.1 (within_if_differs _ _ _ (λ e. c.requires.way_apart (sym e)) differ to)
      ]),
    )
