use Rattle.std.proofs.Common.{map}
use Rattle.plane.specs.{whole}
use Rattle.{delaunay_shapes.proofs.Asking.IsFilteredTo, delaunay_shapes.specs.point_at}
use Rattle.delaunay_shapes.proofs.filter.vertices_by_filter.Given as goal

abbrev pub invariant-loop-index : goal.invariant-loop-index
invariant-loop-index g l = IsFilteredTo (λ i. g.M.DistanceMetric.shape l.metric
    (whole (point_at (map g.V.HasPosition.place l.dcel.vertices) i))) l.index l.vertices.items
