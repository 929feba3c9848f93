use Rattle.delaunay_location.specs.Stop.{IsStopOf}
use Rattle.delaunay_location.proofs.walk.walk_on.Given as goal

abbrev pub invariant-loop : goal.invariant-loop
invariant-loop g l =
    IsStopOf g.V.HasPosition.place g.V.Scalar.SpadeNum.whole g.P.PlaneTests.covered l.embedding
    l.stop
