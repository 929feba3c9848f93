use Rattle.std.proofs.Common.{rules}
use Rattle.half_edge_mesh.proofs.voronoi_iterators.DcelVoronoiViews.directed_voronoi_edges.Goals as goal

pub returns : goal.returns
returns g c = search rules
