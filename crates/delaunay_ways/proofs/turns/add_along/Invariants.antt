use Rattle.std.proofs.Common.{◌≡◌, ◌<◌, length}
use Rattle.std.specs.Prelude.{All}
use Rattle.{delaunay_legalization.specs.state_of, delaunay_location.specs.IsReady}
use Rattle.delaunay_ways.proofs.turns.add_along.Given as goal

abbrev pub invariant-loop-item : goal.invariant-loop-item
invariant-loop-item g l =
    (length l.line.dcel.now.directed ≡ length l.embedding.dcel.directed)
    × (length l.line.dcel.now.vertices ≡ length l.embedding.dcel.vertices)
    × IsReady g.V.HasPosition.place g.V.Scalar.SpadeNum.whole g.P.PlaneTests.sites
    g.P.PlaneTests.covered l.line
    × All (λ h. h < length l.embedding.dcel.directed) l.found.items

abbrev pub decreases-loop-item : goal.decreases-loop-item
decreases-loop-item g l = l.line.left
