use Rattle.std.proofs.Common.{arith}
use Rattle.std.proofs.lemmas.Grind.{common_steps}
use Rattle.half_edge_dcel.proofs.face.FaceHandle.adjacent_edges.Goals as goal

pub returns-clause-dcel : goal.returns-clause-dcel
returns-clause-dcel g c = grind (arith, common_steps)
