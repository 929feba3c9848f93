use Rattle.std.proofs.Common.{◌≡◌, ◌<◌, ◌∙◌, get_or, length, map, arith, ap, subst, sym}
use Rattle.std.specs.Prelude.{All}
use Rattle.std.proofs.lemmas.List.{get_or_default, length-map}
use Rattle.std.proofs.lemmas.List.Elements.{All-contains}
use Rattle.{delaunay_core.specs.place_of, delaunay_shapes.specs.by_place}
use Rattle.{delaunay_legalization.specs.triangulation_of, plane.specs.InRange, plane.specs.vertex}
use Rattle.delaunay_ways.specs.{point_at}
use Rattle.delaunay_ways.proofs.Tautness.{end_is_seen, next_is_seen, pull_ends, pull_goes_on}
use Rattle.delaunay_ways.proofs.taut.pull_taut.Goals as goal

pub position_of-next-requires : goal.position_of-next-requires
position_of-next-requires g c =
    let i = c.loop-vertex.vertex-index in
    let within : i < length c.args.path.now =
    omega (arith, c.loop-vertex-test.true, c.loop-vertex.auto.vertex-index-end) in
    let is : c.from_index-near.result ≡ get_or c.args.path.now i 0 =
    let f = c.from_index-near.ensures in cc in
    let there = c.requires.exist i 0 within in
    let size = ap (λ s. length (map g.V.HasPosition.place s.vertices)) c.mesh-dcel.ensures.state in
    let same = length-map c.mesh-dcel.result.now.vertices g.V.HasPosition.place in
    omega (arith, is, there, size, same)

pub go_on-requires-clause-next_covered : goal.go_on-requires-clause-next_covered
go_on-requires-clause-next_covered g c =
    let at = g.V.HasPosition.place in
    g.met.P.PlaneTests.sites_are_covered c.args.tests.now _ (All-contains
    (g.P.PlaneTests.sites c.args.tests.now) (map at c.mesh-dcel.result.now.vertices) _
    (subst (λ s. All (g.P.PlaneTests.sites c.args.tests.now) (map at s.vertices))
    (sym c.mesh-dcel.ensures.state) (c.requires.sites (subst (λ s. All InRange (map at s.vertices))
    c.mesh-dcel.ensures.state c.mesh-dcel.ensures.in_range))) c.position_of-next.ensures.listed)

pub go_on-requires-clause-seen : goal.go_on-requires-clause-seen
go_on-requires-clause-seen g c =
    let at = g.V.HasPosition.place in
    let i = c.loop-vertex.vertex-index in
    let within : i < length c.args.path.now =
    omega (arith, c.loop-vertex-test.true, c.loop-vertex.auto.vertex-index-end) in
    let v = get_or c.args.path.now i 0 in
    let is : c.from_index-near.result ≡ get_or c.args.path.now i 0 =
    let f = c.from_index-near.ensures in cc in
    let here = c.position_of-next.ensures.place
    ∙ ap (λ s. point_at (map at s.vertices) c.from_index-near.result) c.mesh-dcel.ensures.state
    ∙ ap (point_at (map at (g.T.HasMesh.mesh_state c.args.triangulation.now).vertices)) is in
    next_is_seen (triangulation_of at (g.T.HasMesh.mesh_state c.args.triangulation.now))
    (by_place (g.G.FreeFaces.free c.args.free.now)) (place_of g.V.Scalar.SpadeNum.whole c.args.from)
    (place_of g.V.Scalar.SpadeNum.whole c.args.to) c.args.path.now i
    (map (place_of g.V.Scalar.SpadeNum.whole) c.loop-vertex.way.items) c.loop-vertex.invariant.1
    within v (get_or_default c.args.path.now i 0 v within)
    (place_of g.V.Scalar.SpadeNum.whole c.position_of-next.result) here

pub loop-vertex-preserved : goal.loop-vertex-preserved
loop-vertex-preserved g c =
    let at = g.V.HasPosition.place in
    let i = c.loop-vertex.vertex-index in
    let within : i < length c.args.path.now =
    omega (arith, c.loop-vertex-test.true, c.loop-vertex.auto.vertex-index-end) in
    let v = get_or c.args.path.now i 0 in
    let is : c.from_index-near.result ≡ get_or c.args.path.now i 0 =
    let f = c.from_index-near.ensures in cc in
    let here = c.position_of-next.ensures.place
    ∙ ap (λ s. point_at (map at s.vertices) c.from_index-near.result) c.mesh-dcel.ensures.state
    ∙ ap (point_at (map at (g.T.HasMesh.mesh_state c.args.triangulation.now).vertices)) is in (
      c.in_ok-go_on.ensures.covered,
      pull_goes_on (triangulation_of at (g.T.HasMesh.mesh_state c.args.triangulation.now))
          (by_place (g.G.FreeFaces.free c.args.free.now))
          (place_of g.V.Scalar.SpadeNum.whole c.args.from)
          (place_of g.V.Scalar.SpadeNum.whole c.args.to) c.args.path.now i
          (map (place_of g.V.Scalar.SpadeNum.whole) c.loop-vertex.way.items)
          c.loop-vertex.invariant.1 within v (get_or_default c.args.path.now i 0 v within)
          (place_of g.V.Scalar.SpadeNum.whole c.position_of-next.result)
          (map (place_of g.V.Scalar.SpadeNum.whole) c.go_on.new.way.items)
          (c.requires.exist i 0 within) here c.in_ok-go_on.ensures.goes_on,
    )

pub go_on-requires-2-clause-seen : goal.go_on-requires-2-clause-seen
go_on-requires-2-clause-seen g c = end_is_seen _ _ _ _ _ _ _ c.loop-vertex.invariant.1
    (let done = c.loop-vertex-test.false in let end = c.loop-vertex.auto.vertex-index-end in
    omega (arith, done, end))

pub returns : goal.returns
returns g c =
    let t = triangulation_of g.V.HasPosition.place (g.T.HasMesh.mesh_state c.args.triangulation.now)
    in pull_ends _ _ _ _ _ _ _ c.loop-vertex.invariant.1 _ c.in_ok-go_on-2.ensures.goes_on
    (map (vertex t) c.args.path.now, c.requires.chain)
