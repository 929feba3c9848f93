use Rattle.std.proofs.Common.{refl}
use Rattle.half_edge_dcel.proofs.dcel.Dcel.isolate_vertex_and_fill_hole.Goals as goal

pub returns-clause-vertex : goal.returns-clause-vertex
returns-clause-vertex g c = refl
