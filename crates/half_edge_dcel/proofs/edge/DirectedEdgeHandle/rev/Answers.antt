use Rattle.half_edge_dcel.proofs.edge.DirectedEdgeHandle.rev.Goals as goal

pub returns-clause-index : goal.returns-clause-index
returns-clause-index g c = c.reversed.ensures
