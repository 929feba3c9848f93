use Rattle.std.proofs.Common.{map}
use Rattle.{delaunay_core.specs.place_of, half_edge_links.specs.origin, plane.specs.whole}
use Rattle.delaunay_legalization.specs.{state_of, triangulation_of}
use Rattle.{delaunay_location.specs.Candidate.IsReached, plane_theorems.specs.nearer_count}
use Rattle.delaunay_location.proofs.nearest_walk.nearest_from.Given as goal

abbrev pub invariant-loop-nearer : goal.invariant-loop-nearer
invariant-loop-nearer g l = IsReached (map g.V.HasPosition.place l.dcel.vertices) l.dcel.mesh
    (place_of g.V.Scalar.SpadeNum.whole l.point) (origin l.dcel.mesh l.fn.start.spoke) l.fn.moves
    l.moves l.nearest

abbrev pub decreases-loop-nearer : goal.decreases-loop-nearer
decreases-loop-nearer g l = nearer_count (triangulation_of g.V.HasPosition.place (state_of l.dcel))
    (whole (place_of g.V.Scalar.SpadeNum.whole l.point)) (origin l.dcel.mesh l.nearest.spoke)
