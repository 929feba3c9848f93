use Rattle.std.proofs.Common.{map}
use Rattle.{delaunay_core.specs.place_of, delaunay_location.specs.StartsNearest}
use Rattle.delaunay_location.proofs.location.edge_from_nearest.Given as goal

abbrev pub invariant-loop-index : goal.invariant-loop-index
invariant-loop-index g l =
    StartsNearest (map g.V.HasPosition.place l.dcel.vertices) l.dcel.mesh
    (place_of g.V.Scalar.SpadeNum.whole l.point) l.index l.nearest
