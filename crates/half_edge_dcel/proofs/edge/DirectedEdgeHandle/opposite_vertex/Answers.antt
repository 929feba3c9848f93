use Rattle.half_edge_dcel.proofs.edge.DirectedEdgeHandle.opposite_vertex.Goals as goal

pub returns-else-is_outer_edge-clause-vertex : goal.returns-else-is_outer_edge-clause-vertex
returns-else-is_outer_edge-clause-vertex g c = (c.prev_from.ensures.dcel, c.prev_from.ensures.index)
