use Rattle.std.proofs.Common.{map}
use Rattle.std.specs.Prelude.{All, vec_len}
use Rattle.{delaunay_core.specs.place_of, delaunay_shapes.specs.by_place}
use Rattle.{delaunay_legalization.specs.triangulation_of, delaunay_ways.proofs.Tautness.IsFirstPart}
use Rattle.delaunay_ways.proofs.taut.go_on.Given as goal

abbrev pub invariant-loop-near : goal.invariant-loop-near
invariant-loop-near g l =
    let at = place_of g.V.Scalar.SpadeNum.whole in
    All (λ x. g.P.PlaneTests.covered l.tests (at x)) l.way.items
    × IsFirstPart (triangulation_of g.V.HasPosition.place (g.T.HasMesh.mesh_state l.triangulation))
    (by_place (g.G.FreeFaces.free l.free)) (map at l.fn.way.items) (at l.next)
    (map at l.way.items)

abbrev pub decreases-loop-near : goal.decreases-loop-near
decreases-loop-near g l = vec_len l.way
