use Rattle.std.proofs.Common.{map}
use Rattle.{triangulate_run.proofs.Distances.IsLeastSoFar, triangulate_run.specs.position}
use Rattle.triangulate_run.proofs.nearest.nearest_of_all.Given as goal

abbrev pub invariant-loop-index : goal.invariant-loop-index
invariant-loop-index g l =
    IsLeastSoFar (map position (g.T.Triangulation.state l.triangulation).vertices)
    (position l.point) l.index l.least
