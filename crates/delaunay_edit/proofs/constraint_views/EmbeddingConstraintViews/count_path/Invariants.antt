use Rattle.delaunay_edit.proofs.CountingWalk.{IsCountingPath}
use Rattle.delaunay_edit.proofs.constraint_views.EmbeddingConstraintViews.count_path.Given as goal

abbrev pub invariant-loop-item : goal.invariant-loop-item
invariant-loop-item g l = IsCountingPath g.V.HasPosition.place g.M.ConstraintMarker.marks
    g.M.ConstraintMarker.constraints g.met.M.ConstraintMarker.constraints_are_marked l.self.dcel
    l.fn.from l.fn.to g.V.Scalar.SpadeNum.whole g.P.PlaneTests.sites g.P.PlaneTests.covered l.at
    l.count l.line

abbrev pub decreases-loop-item : goal.decreases-loop-item
decreases-loop-item g l = l.line.left
