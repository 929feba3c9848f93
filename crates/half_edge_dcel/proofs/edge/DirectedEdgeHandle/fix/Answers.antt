use Rattle.half_edge_dcel.proofs.edge.DirectedEdgeHandle.fix.Goals as goal

pub returns-clause-value : goal.returns-clause-value
returns-clause-value g c = c.from_index.ensures
