use Rattle.std.proofs.Common.{refl}
use Rattle.half_edge_mesh.proofs.voronoi.DirectedEdgeHandleAsVoronoiEdge.as_voronoi_edge.Goals as goal

pub returns : goal.returns
returns g c = refl
