use Rattle.std.proofs.Common.{arith}
use Rattle.half_edge_dcel.proofs.Taken.{row_below}
use Rattle.half_edge_dcel.proofs.views.DcelMeshViews.undirected_edges.Goals as goal

pub invariant_of-result : goal.invariant_of-result
invariant_of-result g c =
    record { in_range = row_below 0 _ _ _ c.fixed_undirected_edges.ensures (omega arith) }
