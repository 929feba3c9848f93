use Rattle.std.proofs.Common.{drop, map}
use Rattle.{delaunay_core.specs.place_of, delaunay_legalization.specs.triangulation_of}
use Rattle.{delaunay_shapes.specs.by_place, plane.specs.vertex, plane.specs.whole}
use Rattle.plane_theorems.specs.Ways.Chains.{IsChain}
use Rattle.delaunay_ways.proofs.short.is_chain.Given as goal

abbrev pub invariant-loop-vertex : goal.invariant-loop-vertex
invariant-loop-vertex g l =
    let at = place_of g.V.Scalar.SpadeNum.whole in
    let t = triangulation_of g.V.HasPosition.place (g.T.HasMesh.mesh_state l.triangulation) in
    let free = by_place (g.G.FreeFaces.free l.free) in
    g.P.PlaneTests.covered l.tests (at l.here)
    × (IsChain t free (whole (at l.here)) (map (vertex t) (drop l.vertex-index l.vertices))
    (whole (at l.to))
    → IsChain t free (whole (at l.fn.from)) (map (vertex t) l.vertices) (whole (at l.to)))
