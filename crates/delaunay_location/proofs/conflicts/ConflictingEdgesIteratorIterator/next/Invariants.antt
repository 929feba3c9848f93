use Rattle.delaunay_location.proofs.ConflictSearch.{IsSearching}
use Rattle.delaunay_location.proofs.conflicts.ConflictingEdgesIteratorIterator.next.Given as goal

abbrev pub invariant-loop-item : goal.invariant-loop-item
invariant-loop-item g l =
    IsSearching g.V.HasPosition.place g.V.Scalar.SpadeNum.whole g.P.PlaneTests.sites
    g.P.PlaneTests.covered g.M.ConstraintMarker.constraints l.fn.self.line l.self.line

abbrev pub decreases-loop-item : goal.decreases-loop-item
decreases-loop-item g l = l.self.line.left
