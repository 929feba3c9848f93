use Rattle.{delaunay_edit.proofs.CountingAt.IsCountingAt, half_edge_dcel.specs.out_edges_left}
use Rattle.delaunay_edit.proofs.counting.count_constraints_at.Given as goal

abbrev pub invariant-loop-edge : goal.invariant-loop-edge
invariant-loop-edge g l = IsCountingAt g.V.HasPosition.place g.M.ConstraintMarker.marks
    g.M.ConstraintMarker.constraints g.met.M.ConstraintMarker.constraints_are_marked l.dcel
    l.fn.vertex (out_edges_left l.edge-iterator) l.count
