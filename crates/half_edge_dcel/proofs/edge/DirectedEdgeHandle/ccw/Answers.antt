use Rattle.half_edge_dcel.proofs.edge.DirectedEdgeHandle.ccw.Goals as goal

pub returns-clause-index : goal.returns-clause-index
returns-clause-index g c = rw c.prev.ensures.index at c.rev.ensures.index
