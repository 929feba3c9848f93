use Rattle.std.proofs.Common.{ℕ, ◌/◌}
use Rattle.delaunay_legalization.proofs.{indexes, IsGoingAlong}
use Rattle.{delaunay_shapes.specs.ShapeSearch.EnclosesEdge, half_edge_dcel.specs.hull_left}
use Rattle.delaunay_shapes.proofs.shape_search.ShapeSearch.outer_edge.Given as goal

abbrev pub invariant-loop-edge : goal.invariant-loop-edge
invariant-loop-edge g l =
    IsGoingAlong l.self.dcel.mesh
    (λ (h : ℕ). ¬ EnclosesEdge g.V.HasPosition.place g.M.DistanceMetric.shape l.self (h / 2))
    (indexes (hull_left l.edge-iterator))
