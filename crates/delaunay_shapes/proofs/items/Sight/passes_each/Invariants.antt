use Rattle.{delaunay_shapes.proofs.Walks.IsWalking, delaunay_shapes.specs.Passing.Passes}
use Rattle.delaunay_shapes.proofs.items.Sight.passes_each.Given as goal

abbrev pub invariant-loop-item : goal.invariant-loop-item
invariant-loop-item g l = IsWalking g.V.HasPosition.place g.V.Scalar.SpadeNum.whole
    g.P.PlaneTests.sites g.P.PlaneTests.covered
    (Passes g.V.HasPosition.place g.G.FreeFaces.free l.self) l.fn.line
    l.line

abbrev pub decreases-loop-item : goal.decreases-loop-item
decreases-loop-item g l = l.line.left
