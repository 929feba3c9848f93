use Rattle.spade_delaunay.specs.Walk.{IsReady}
use Rattle.examples.proofs.walls.tell_line.Given as goal

abbrev pub invariant-loop-item : goal.invariant-loop-item
invariant-loop-item g l = IsReady g.V.HasPosition.place g.V.Scalar.SpadeNum.whole
    g.P.PlaneTests.sites g.P.PlaneTests.covered l.line

abbrev pub decreases-loop-item : goal.decreases-loop-item
decreases-loop-item g l = l.line.left
