use Rattle.std.proofs.Common.{rules}
use Rattle.half_edge_mesh.proofs.voronoi.edges_out_of.Goals as goal

pub returns-clause-indexes : goal.returns-clause-indexes
returns-clause-indexes g c = search rules
