use Rattle.std.proofs.Common.{sym, ap, subst, ◌∙◌}
use Rattle.{delaunay_location.proofs.Sides.across_edge, delaunay_location.specs.Stop.IsStepOf}
use Rattle.delaunay_location.proofs.walk.walk_on.Goals as goal
use goal.{else-is_outer_edge-3, then-is_outer_edge-3}

pub loop-preserved : goal.loop-preserved
loop-preserved g c =
    let IsStep = IsStepOf g.V.HasPosition.place g.V.Scalar.SpadeNum.whole g.P.PlaneTests.covered
    c.args.embedding.now c.args.point in
    rw c.rev-in-Beyond.ensures (across_edge
    (rw (ap (λ s. s.dcel) c.embedding.view_is) at c.embedding.invariant.kept)
    {stop = c.in-Beyond.side} (elim c.if-is_outer_edge-3.branch [
      | then-is_outer_edge-3 w ↦
          subst IsStep (sym w.step-is ∙ c.in-Beyond.is) w.way_near_hull-step.ensures
      | else-is_outer_edge-3 w ↦
          subst IsStep (sym w.step-is ∙ c.in-Beyond.is) w.way_through-step.ensures
    ]))
