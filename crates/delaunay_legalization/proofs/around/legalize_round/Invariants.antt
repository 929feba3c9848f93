use Rattle.std.proofs.Common.{map}
use Rattle.half_edge_links.specs.{origin}
use Rattle.{delaunay_legalization.specs.Around.IsOpposite, delaunay_legalization.specs.IsEmbedding}
use Rattle.delaunay_legalization.proofs.RoundSteps.{IsTurningRound, tests_left}
use Rattle.delaunay_legalization.proofs.around.legalize_round.Given as goal

abbrev pub invariant-loop-next : goal.invariant-loop-next
invariant-loop-next g l = record {
  turning : IsTurningRound g.V.HasPosition.place g.M.ConstraintMarker.constraints l.fn.dcel l.dcel
      (origin l.fn.dcel.mesh l.first) l.first l.spoke l.fn.flips l.flips;
  opposite : IsOpposite g.V.Scalar.SpadeNum.whole (g.P.PlaneTests.sites l.tests)
      (map g.V.HasPosition.place l.dcel.vertices) l.dcel.mesh l.spoke l.opposite;
  embedding : IsEmbedding g.V.HasPosition.place g.P.PlaneTests.sites l.dcel l.tests;
}

abbrev pub decreases-loop-next : goal.decreases-loop-next
decreases-loop-next g l =
    tests_left (map g.V.HasPosition.place l.dcel.vertices) l.dcel.mesh l.first l.spoke
