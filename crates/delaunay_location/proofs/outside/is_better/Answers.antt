use Rattle.std.proofs.Common.{arith}
use Rattle.std.proofs.lemmas.Grind.{common_steps}
use Rattle.delaunay_location.proofs.outside.is_better.Goals as goal

pub returns-in-None : goal.returns-in-None
returns-in-None g c = grind arith

pub is_point_nearer-requires-clause-from_covered : goal.is_point_nearer-requires-clause-from_covered
is_point_nearer-requires-clause-from_covered g c = grind (arith, common_steps)

pub is_point_nearer-requires-clause-point_covered : goal.is_point_nearer-requires-clause-point_covered
is_point_nearer-requires-clause-point_covered g c = grind arith

pub is_point_nearer-requires-clause-other_covered : goal.is_point_nearer-requires-clause-other_covered
is_point_nearer-requires-clause-other_covered g c = grind arith

pub returns-in-Some : goal.returns-in-Some
returns-in-Some g c = grind arith
