use Rattle.std.proofs.Common.{rules, arith}
use Rattle.std.proofs.lemmas.Grind.{common_steps}
use Rattle.half_edge_dcel.proofs.growth.push_defaults.Goals as goal

pub returns-clause-grows : goal.returns-clause-grows
returns-clause-grows g c = search rules

pub push_reserved-requires : goal.push_reserved-requires
push_reserved-requires g c = grind (arith, common_steps)

pub loop-preserved : goal.loop-preserved
loop-preserved g c = grind (arith, common_steps)
