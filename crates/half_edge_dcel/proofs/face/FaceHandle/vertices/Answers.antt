use Rattle.std.proofs.Common.{rules, arith}
use Rattle.std.proofs.lemmas.Grind.{common_steps}
use Rattle.half_edge_dcel.proofs.face.FaceHandle.vertices.Goals as goal

pub returns-clause-indexes : goal.returns-clause-indexes
returns-clause-indexes g c = search rules

pub returns-clause-dcel : goal.returns-clause-dcel
returns-clause-dcel g c = grind (arith, common_steps)
