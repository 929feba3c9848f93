use Rattle.std.proofs.Common.{vec_capacity}
use Rattle.delaunay_edit.proofs.ListingPath.{IsListingWalk}
use Rattle.delaunay_edit.proofs.path_views.EmbeddingPathViews.edges_along.Given as goal

abbrev pub invariant-loop-item : goal.invariant-loop-item
invariant-loop-item g l = IsListingWalk g.V.HasPosition.place g.V.Scalar.SpadeNum.whole
    g.P.PlaneTests.sites g.P.PlaneTests.covered l.self.dcel l.fn.from l.fn.to l.at l.edges.items
    (vec_capacity l.fn.edges) (vec_capacity l.edges) l.line

abbrev pub decreases-loop-item : goal.decreases-loop-item
decreases-loop-item g l = l.line.left
