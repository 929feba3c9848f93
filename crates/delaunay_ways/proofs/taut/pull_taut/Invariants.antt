use Rattle.std.proofs.Common.{map}
use Rattle.std.specs.Prelude.{All}
use Rattle.{delaunay_core.specs.place_of, delaunay_shapes.specs.by_place}
use Rattle.{delaunay_legalization.specs.triangulation_of, delaunay_ways.proofs.Tautness.IsPulled}
use Rattle.delaunay_ways.proofs.taut.pull_taut.Given as goal

abbrev pub invariant-loop-vertex : goal.invariant-loop-vertex
invariant-loop-vertex g l =
    let at = place_of g.V.Scalar.SpadeNum.whole in
    All (λ x. g.P.PlaneTests.covered l.tests (at x)) l.way.items
    × IsPulled (triangulation_of g.V.HasPosition.place (g.T.HasMesh.mesh_state l.triangulation))
    (by_place (g.G.FreeFaces.free l.free)) (at l.fn.from) (at l.to) l.path l.vertex-index
    (map at l.way.items)
