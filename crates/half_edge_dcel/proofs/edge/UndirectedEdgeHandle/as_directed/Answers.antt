use Rattle.std.proofs.Common.{refl}
use Rattle.half_edge_dcel.proofs.edge.UndirectedEdgeHandle.as_directed.Goals as goal

pub returns-clause-index : goal.returns-clause-index
returns-clause-index g c = refl
