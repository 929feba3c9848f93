use Rattle.std.proofs.Common.{map}
use Rattle.delaunay_legalization.specs.{IsEmbedding, steps_left}
use Rattle.delaunay_legalization.proofs.Stepping.{IsUnderwayBy}
use Rattle.delaunay_legalization.proofs.legalization.legalize.Given as goal

abbrev pub invariant-loop-edge : goal.invariant-loop-edge
invariant-loop-edge g l = record {
  underway : IsUnderwayBy l.sides g.V.HasPosition.place g.M.ConstraintMarker.constraints l.fn.dcel
      l.dcel l.work.items l.fn.work.room l.work.room l.fn.flips l.flips;
  embedding : IsEmbedding g.V.HasPosition.place g.P.PlaneTests.sites l.dcel l.tests;
}

abbrev pub decreases-loop-edge : goal.decreases-loop-edge
decreases-loop-edge g l =
    steps_left (map g.V.HasPosition.place l.dcel.vertices) l.dcel.mesh l.work.items
