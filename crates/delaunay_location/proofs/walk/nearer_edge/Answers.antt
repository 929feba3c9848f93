use Rattle.std.proofs.Common.{arith}
use Rattle.std.proofs.lemmas.Grind.{common_steps}
use Rattle.delaunay_location.proofs.walk.nearer_edge.Goals as goal

pub nearer_sample-nearest-requires-clause-within : goal.nearer_sample-nearest-requires-clause-within
nearer_sample-nearest-requires-clause-within g c = grind (arith, common_steps)

pub returns-in-Some : goal.returns-in-Some
returns-in-Some g c = grind arith
