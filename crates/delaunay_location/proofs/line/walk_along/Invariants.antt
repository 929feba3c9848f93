use Rattle.std.proofs.Common.{◌<◌, length}
use Rattle.delaunay_location.proofs.line.walk_along.Given as goal

abbrev pub invariant-loop : goal.invariant-loop
invariant-loop g l = l.edge < length l.embedding.dcel.directed
