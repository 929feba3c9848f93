use Rattle.half_edge_dcel.proofs.edge.DirectedEdgeHandle.cw.Goals as goal

pub returns-clause-index : goal.returns-clause-index
returns-clause-index g c = rw (c.rev.ensures.dcel, c.rev.ensures.index) at c.next.ensures.index
