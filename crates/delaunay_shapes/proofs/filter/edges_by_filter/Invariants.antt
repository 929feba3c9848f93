use Rattle.delaunay_shapes.specs.{undirected_of}
use Rattle.{delaunay_shapes.proofs.Asking.IsFilteredTo, delaunay_shapes.specs.InShape.IsInside}
use Rattle.delaunay_shapes.proofs.filter.edges_by_filter.Given as goal

abbrev pub invariant-loop-index : goal.invariant-loop-index
invariant-loop-index g l =
    IsFilteredTo (IsInside (g.M.DistanceMetric.shape l.metric) g.V.HasPosition.place l.dcel)
    l.index (undirected_of l.edges.items)
