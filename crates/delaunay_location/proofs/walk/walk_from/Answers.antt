use Rattle.std.proofs.Common.{rules}
use Rattle.delaunay_location.proofs.walk.walk_from.Goals as goal

pub nearer_edge-edge-requires-clause-can : goal.nearer_edge-edge-requires-clause-can
nearer_edge-edge-requires-clause-can g c = search (rules, g.met.P.PlaneTests.covered_are_in_range)
