use Rattle.std.proofs.Common.{rules}
use Rattle.half_edge_mesh.proofs.voronoi.VoronoiVertex.as_delaunay_face.Goals as goal

pub returns-in-Inner : goal.returns-in-Inner
returns-in-Inner g c = search rules
