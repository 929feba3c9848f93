use Rattle.std.proofs.Common.{◌<◌, length}
use Rattle.std.specs.Prelude.{All}
use Rattle.delaunay_ways.proofs.turns.add_within.Given as goal

abbrev pub invariant-loop-spoke : goal.invariant-loop-spoke
invariant-loop-spoke g l = All (λ h. h < length l.embedding.dcel.directed) l.found.items
