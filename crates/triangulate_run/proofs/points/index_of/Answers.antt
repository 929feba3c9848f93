use Rattle.std.proofs.Common.{rules}
use Rattle.{delaunay_core.specs.place_of, triangulate_run.specs.HoldsAt}
use Rattle.triangulate_run.proofs.Found.{none_up_to, not_here}
use Rattle.triangulate_run.proofs.points.index_of.Goals as goal

pub loop-i-preserved : goal.loop-i-preserved
loop-i-preserved c =
    let p = place_of (λ z. z) c.args.point in
    none_up_to (λ k. HoldsAt c.args.points.now k p) c.loop-i.i c.loop-i.invariant
    (λ h. not_here c.args.points.now c.loop-i.i p _ c.eq.ensures c.if-eq.false h.1)

pub returns-then-eq : goal.returns-then-eq
returns-then-eq c = search rules
