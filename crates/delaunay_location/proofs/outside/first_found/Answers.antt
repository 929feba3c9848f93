use Rattle.std.proofs.Common.{arith}
use Rattle.std.proofs.lemmas.Grind.{common_steps}
use Rattle.delaunay_location.proofs.outside.first_found.Goals as goal

pub returns-then-num_vertices-eq0 : goal.returns-then-num_vertices-eq0
returns-then-num_vertices-eq0 g c = grind (arith, common_steps)
