use Rattle.delaunay_location.proofs.Intersecting.{first_decides}
use Rattle.delaunay_location.proofs.between.EmbeddingLineViews.intersects_constraint.Goals as goal

pub returns : goal.returns
returns g c =
    let crossed = c.between_points-crossed.ensures in
    first_decides _ _ _ _ _ _ g.met.M.ConstraintMarker.constraints_are_marked _ crossed.ready _ _ _
    crossed.line _ _ _ c.is_some.ensures c.next.ensures.steps.0
