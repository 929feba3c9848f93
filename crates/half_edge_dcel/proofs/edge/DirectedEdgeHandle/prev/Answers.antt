use Rattle.std.proofs.Common.{refl}
use Rattle.half_edge_dcel.proofs.edge.DirectedEdgeHandle.prev.Goals as goal

pub returns-clause-index : goal.returns-clause-index
returns-clause-index g c = rw (c.half_edge.ensures.value, c.links.ensures.mesh) refl
