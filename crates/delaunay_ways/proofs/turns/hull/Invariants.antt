use Rattle.std.proofs.Common.{◌<◌, length}
use Rattle.std.specs.Prelude.{All}
use Rattle.delaunay_core.specs.{place_of}
use Rattle.delaunay_ways.proofs.turns.hull.Given as goal

abbrev pub invariant-loop : goal.invariant-loop
invariant-loop g l =
    g.P.PlaneTests.covered l.embedding.tests (place_of g.V.Scalar.SpadeNum.whole l.here)
    × All (λ v. v < length l.embedding.dcel.vertices) l.chain.items
