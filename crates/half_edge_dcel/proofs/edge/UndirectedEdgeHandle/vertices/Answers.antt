use Rattle.half_edge_dcel.proofs.edge.UndirectedEdgeHandle.vertices.Goals as goal

pub returns-clause-indexes : goal.returns-clause-indexes
returns-clause-indexes g c =
    rw (c.as_directed.ensures.dcel, c.as_directed.ensures.index) at c.vertices.ensures.indexes
