use Rattle.delaunay_edit.proofs.Listing.{IsListingSubconstraint}
use Rattle.delaunay_edit.proofs.crossing.CrossingLists.list_subconstraint.Given as goal

abbrev pub invariant-loop-item : goal.invariant-loop-item
invariant-loop-item g l = IsListingSubconstraint g.V.HasPosition.place g.V.Scalar.SpadeNum.whole
    g.P.PlaneTests.sites g.P.PlaneTests.covered l.embedding.dcel l.from l.fn.to l.fn.self l.self
    l.line

abbrev pub decreases-loop-item : goal.decreases-loop-item
decreases-loop-item g l = l.line.left
