use Rattle.half_edge_mesh.proofs.voronoi.DirectedVoronoiEdge.face.Goals as goal

pub returns-clause-index : goal.returns-clause-index
returns-clause-index g c = rw c.as_voronoi_face.ensures c.from.ensures.index
