use Rattle.std.proofs.Common.{ℕ}
use Rattle.{delaunay_legalization.proofs.IsGoingRound, half_edge_dcel.specs.out_edges_left}
use Rattle.delaunay_shapes.specs.{IsFreeBeside}
use Rattle.delaunay_shapes.proofs.edges.is_free_round.Given as goal

abbrev pub invariant-loop-edge : goal.invariant-loop-edge
invariant-loop-edge g l = IsGoingRound l.dcel l.fn.vertex
    (λ (h : ℕ). ¬ IsFreeBeside l.dcel.mesh (g.G.FreeFaces.free l.free) h)
    (out_edges_left l.edge-iterator)
