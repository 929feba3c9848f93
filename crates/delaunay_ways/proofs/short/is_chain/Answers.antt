use Rattle.std.proofs.Common.{◌≡◌, ◌<◌, ◌∙◌, get_or, length, map, arith, ap, subst, sym}
use Rattle.std.specs.Prelude.{All}
use Rattle.std.proofs.lemmas.List.{get_or_default, length-map}
use Rattle.std.proofs.lemmas.List.Elements.{All-contains}
use Rattle.{delaunay_core.specs.place_of, delaunay_shapes.specs.by_place}
use Rattle.{delaunay_legalization.specs.triangulation_of, plane.specs.InRange, plane.specs.whole}
use Rattle.plane_theorems.specs.{IsInSight}
use Rattle.delaunay_ways.specs.{point_at}
use Rattle.delaunay_ways.proofs.Shortening.{chain_ends, chain_grows}
use Rattle.delaunay_ways.proofs.short.is_chain.Goals as goal

pub position_of-next-requires : goal.position_of-next-requires
position_of-next-requires g c =
    let i = c.loop-vertex.vertex-index in
    let within : i < length c.args.vertices.now =
    omega (arith, c.loop-vertex-test.true, c.loop-vertex.auto.vertex-index-end) in
    let is : c.from_index-near.result ≡ get_or c.args.vertices.now i 0 =
    let f = c.from_index-near.ensures in cc in
    let there = c.requires.exist i 0 within in
    let size = ap (λ s. length (map g.V.HasPosition.place s.vertices)) c.mesh-dcel.ensures.state in
    let same = length-map c.mesh-dcel.result.now.vertices g.V.HasPosition.place in
    omega (arith, is, there, size, same)

pub is_seen-requires-clause-to_covered : goal.is_seen-requires-clause-to_covered
is_seen-requires-clause-to_covered g c =
    let at = g.V.HasPosition.place in
    g.met.P.PlaneTests.sites_are_covered c.args.tests.now _ (All-contains
    (g.P.PlaneTests.sites c.args.tests.now) (map at c.mesh-dcel.result.now.vertices) _
    (subst (λ s. All (g.P.PlaneTests.sites c.args.tests.now) (map at s.vertices))
    (sym c.mesh-dcel.ensures.state) (c.requires.sites (subst (λ s. All InRange (map at s.vertices))
    c.mesh-dcel.ensures.state c.mesh-dcel.ensures.in_range))) c.position_of-next.ensures.listed)

pub loop-vertex-preserved : goal.loop-vertex-preserved
loop-vertex-preserved g c =
    let at = g.V.HasPosition.place in
    let number = place_of g.V.Scalar.SpadeNum.whole in
    let s = g.T.HasMesh.mesh_state c.args.triangulation.now in
    let t = triangulation_of at s in
    let free = by_place (g.G.FreeFaces.free c.args.free.now) in
    let i = c.loop-vertex.vertex-index in
    let within : i < length c.args.vertices.now =
    omega (arith, c.loop-vertex-test.true, c.loop-vertex.auto.vertex-index-end) in
    let v = get_or c.args.vertices.now i 0 in
    let is : c.from_index-near.result ≡ v = let f = c.from_index-near.ensures in cc in
    let here = c.position_of-next.ensures.place
    ∙ ap (λ s. point_at (map at s.vertices) c.from_index-near.result) c.mesh-dcel.ensures.state
    ∙ ap (point_at (map at s.vertices)) is in (
      g.met.P.PlaneTests.sites_are_covered c.args.tests.now _ (All-contains
          (g.P.PlaneTests.sites c.args.tests.now) (map at c.mesh-dcel.result.now.vertices) _
          (subst (λ s. All (g.P.PlaneTests.sites c.args.tests.now) (map at s.vertices))
          (sym c.mesh-dcel.ensures.state)
          (c.requires.sites (subst (λ s. All InRange (map at s.vertices))
          c.mesh-dcel.ensures.state c.mesh-dcel.ensures.in_range)))
          c.position_of-next.ensures.listed),
      λ rest. c.loop-vertex.invariant.1 (chain_grows t free (number c.loop-vertex.here)
          (number c.args.to) c.args.vertices.now i v within
          (get_or_default c.args.vertices.now i 0 v within)
          (subst (λ x. IsInSight t free (whole (number c.loop-vertex.here)) (whole x)) here
          (c.is_seen.ensures.0 c.if-not-is_seen.false)) (rw (← here) rest)),
    )

pub returns : goal.returns
returns g c = λ sees. c.loop-vertex.invariant.1 (chain_ends
    (triangulation_of g.V.HasPosition.place (g.T.HasMesh.mesh_state c.args.triangulation.now))
    (by_place (g.G.FreeFaces.free c.args.free.now))
    (place_of g.V.Scalar.SpadeNum.whole c.loop-vertex.here)
    (place_of g.V.Scalar.SpadeNum.whole c.args.to) c.args.vertices.now c.loop-vertex.vertex-index
    (let done = c.loop-vertex-test.false in let end = c.loop-vertex.auto.vertex-index-end in
    omega (arith, done, end)) (c.is_seen-2.ensures.0 sees))
