use Rattle.std.proofs.Common.{◌<◌, length, IfSome}
use Rattle.delaunay_core.specs.{place_of}
use Rattle.delaunay_ways.proofs.turns.leftmost.Given as goal

abbrev pub invariant-loop-edge : goal.invariant-loop-edge
invariant-loop-edge g l =
    g.P.PlaneTests.covered l.embedding.tests (place_of g.V.Scalar.SpadeNum.whole l.there)
    × IfSome l.best (λ h. h < length l.embedding.dcel.directed)
