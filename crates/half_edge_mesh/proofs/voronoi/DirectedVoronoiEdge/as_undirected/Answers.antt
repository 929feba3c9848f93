use Rattle.half_edge_mesh.proofs.voronoi.DirectedVoronoiEdge.as_undirected.Goals as goal

pub returns-clause-index : goal.returns-clause-index
returns-clause-index g c = rw c.as_voronoi_edge.ensures c.as_undirected.ensures.index
