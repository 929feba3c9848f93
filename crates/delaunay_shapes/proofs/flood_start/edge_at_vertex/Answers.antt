use Rattle.std.proofs.Common.{arith}
use Rattle.std.proofs.lemmas.Grind.{common_steps}
use Rattle.delaunay_shapes.proofs.flood_start.edge_at_vertex.Goals as goal

pub returns-in_err-push-clause-within : goal.returns-in_err-push-clause-within
returns-in_err-push-clause-within g c = grind arith

pub returns-clause-within : goal.returns-clause-within
returns-clause-within g c = grind (arith, common_steps)
