use Rattle.spade_delaunay.specs.Walk.{IsReady}
use Rattle.examples.proofs.walls.tell_walls.Given as goal

abbrev pub invariant-loop-wall : goal.invariant-loop-wall
invariant-loop-wall g l = IsReady g.V.HasPosition.place g.V.Scalar.SpadeNum.whole
    g.P.PlaneTests.sites g.P.PlaneTests.covered l.walls.line

abbrev pub decreases-loop-wall : goal.decreases-loop-wall
decreases-loop-wall g l = l.walls.line.left
