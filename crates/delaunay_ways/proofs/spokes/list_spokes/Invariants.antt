use Rattle.std.proofs.Common.{◌<◌, length}
use Rattle.std.specs.Prelude.{All}
use Rattle.{delaunay_legalization.proofs.IsGoingRound, half_edge_dcel.specs.out_edges_left}
use Rattle.delaunay_ways.proofs.spokes.list_spokes.Given as goal

abbrev pub invariant-loop-edge : goal.invariant-loop-edge
invariant-loop-edge g l =
    All (λ h. h < length l.dcel.directed) l.spokes.items
    × IsGoingRound l.dcel l.fn.vertex (λ h. h < length l.dcel.mesh.half_edges)
    (out_edges_left l.edge-iterator)
