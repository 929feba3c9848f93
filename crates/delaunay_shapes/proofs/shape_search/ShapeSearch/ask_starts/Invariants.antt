use Rattle.std.proofs.Common.{length}
use Rattle.delaunay_shapes.specs.ShapeSearch.{EnclosesEdge}
use Rattle.delaunay_shapes.proofs.Asking.{AreAskedTo}
use Rattle.delaunay_shapes.proofs.shape_search.ShapeSearch.ask_starts.Given as goal

abbrev pub invariant-loop-edge : goal.invariant-loop-edge
invariant-loop-edge g l =
    AreAskedTo (EnclosesEdge g.V.HasPosition.place g.M.DistanceMetric.shape l.self)
    (length l.self.dcel.undirected) l.flood.asked l.flood.found.items l.edge-items l.edge-index
