use Rattle.std.proofs.Common.{◌++◌}
use Rattle.std.specs.Prelude.{reverse}
use Rattle.{delaunay_core.specs.place_of, delaunay_legalization.specs.triangulation_of}
use Rattle.{delaunay_shapes.specs.by_place, plane.specs.whole}
use Rattle.delaunay_ways.specs.Ways.{IsPathBetween}
use Rattle.delaunay_ways.proofs.short.shorten.Given as goal

abbrev pub invariant-loop : goal.invariant-loop
invariant-loop g l =
    let at = place_of g.V.Scalar.SpadeNum.whole in
    IsPathBetween (triangulation_of g.V.HasPosition.place (g.T.HasMesh.mesh_state l.triangulation))
    (by_place (g.G.FreeFaces.free l.free)) (whole (at l.from)) (whole (at l.to))
    (l.done.items ++ reverse l.left.items)
