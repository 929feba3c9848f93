use Rattle.std.proofs.Common.{refl}
use Rattle.half_edge_dcel.proofs.edge.DirectedEdgeHandle.vertices.Goals as goal

pub returns-clause-indexes : goal.returns-clause-indexes
returns-clause-indexes g c = rw (c.from.ensures.index, c.to.ensures.index) refl
