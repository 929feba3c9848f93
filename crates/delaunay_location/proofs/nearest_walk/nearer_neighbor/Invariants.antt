use Rattle.std.proofs.Common.{map}
use Rattle.half_edge_links.specs.{origin}
use Rattle.{delaunay_core.specs.place_of, delaunay_location.specs.EndsNoNearer}
use Rattle.delaunay_location.proofs.BothWays.{how_many_before, IsClosingIn}
use Rattle.delaunay_location.proofs.nearest_walk.nearer_neighbor.Given as goal

abbrev pub invariant-loop-point : goal.invariant-loop-point
invariant-loop-point g l =
    IsClosingIn l.dcel.mesh (origin l.dcel.mesh l.fn.from.spoke) l.fn.from.spoke
    (EndsNoNearer (map g.V.HasPosition.place l.dcel.vertices) l.dcel.mesh
    (place_of g.V.Scalar.SpadeNum.whole l.point)) l.left l.right

abbrev pub decreases-loop-point : goal.decreases-loop-point
decreases-loop-point g l = how_many_before l.dcel.mesh l.fn.from.spoke l.left
