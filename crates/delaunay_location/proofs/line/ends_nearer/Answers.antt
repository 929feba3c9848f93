use Rattle.std.proofs.Common.{rules}
use Rattle.delaunay_location.proofs.line.ends_nearer.Goals as goal

pub is_nearer-requires-clause-can : goal.is_nearer-requires-clause-can
is_nearer-requires-clause-can g c = search (rules, g.met.P.PlaneTests.covered_are_in_range)
