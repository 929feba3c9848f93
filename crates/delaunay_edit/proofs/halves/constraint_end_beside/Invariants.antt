use Rattle.{delaunay_edit.proofs.SeekingEnds.IsSeekingEnd, half_edge_dcel.specs.out_edges_left}
use Rattle.delaunay_edit.proofs.halves.constraint_end_beside.Given as goal

abbrev pub invariant-loop-edge : goal.invariant-loop-edge
invariant-loop-edge g l = IsSeekingEnd g.V.HasPosition.place g.M.ConstraintMarker.marks
    g.M.ConstraintMarker.constraints g.met.M.ConstraintMarker.constraints_are_marked l.dcel
    l.fn.vertex l.one l.other (out_edges_left l.edge-iterator)
