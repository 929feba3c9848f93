use Rattle.std.proofs.Common.{◌≡◌, ◌∙◌}
use Rattle.std.proofs.Common.{length, map, ap, sym, arith, rules, SFits, w64, to_z-of_z}
use Rattle.std.specs.Prelude.{slice_get, Some}
use Rattle.std.proofs.lemmas.List.{length-map}
use Rattle.{plane.specs.gap, plane.specs.whole, triangulate_run.specs.position}
use Rattle.{delaunay_edit.proofs.Removing.read_place, delaunay_legalization.specs.triangulation_of}
use Rattle.triangulate_run.proofs.Distances.{least_found, least_goes_on, vertex_in_range}
use Rattle.triangulate_run.proofs.nearest.nearest_of_all.Goals as goal

pub distance_2-requires-clause-other_in_range : goal.distance_2-requires-clause-other_in_range
distance_2-requires-clause-other_in_range g c =
    let vs = (g.T.Triangulation.state c.args.triangulation.now).vertices in
    let i = c.loop-index.index in
    let dcel = c.vertex-vertex.result.dcel.now in
    let here : slice_get vs i ≡ Some c.data.result.now =
    ap (λ s. slice_get s.vertices i) (sym c.vertex-vertex.ensures.state)
    ∙ ap (slice_get dcel.vertices) (sym (c.vertex-vertex.ensures.index ∙ c.from_index.ensures))
    ∙ c.data.ensures in
    let last = c.num_vertices-index-end.ensures.value in
    vertex_in_range vs i _ (omega (arith, length-map vs position, c.loop-index-test.true, last))
    here c.recall_invariant.ensures.in_range

pub loop-index-preserved : goal.loop-index-preserved
loop-index-preserved g c =
    let vs = (g.T.Triangulation.state c.args.triangulation.now).vertices in
    let p = position c.args.point in
    let i = c.loop-index.index in
    let dcel = c.vertex-vertex.result.dcel.now in
    let here : slice_get vs i ≡ Some c.data.result.now =
    ap (λ s. slice_get s.vertices i) (sym c.vertex-vertex.ensures.state)
    ∙ ap (slice_get dcel.vertices) (sym (c.vertex-vertex.ensures.index ∙ c.from_index.ensures))
    ∙ c.data.ensures in
    let last = c.num_vertices-index-end.ensures.value in
    let is = c.distance_2.ensures
    ∙ ap (λ q. gap (whole p) (whole q)) (sym (read_place position vs i _ here)) in
    let fits : SFits w64 c.distance_2.result = search rules in
    let lesser = rw (to_z-of_z {w = w64} {z = c.distance_2.result} fits) at c.lesser.ensures in
    let stays : SFits w64 c.lesser.result = search rules in
    rw (to_z-of_z {w = w64} {z = c.lesser.result} stays)
    (least_goes_on (map position vs) p i c.loop-index.least _ _ c.loop-index.invariant
    (omega (arith, length-map vs position, c.loop-index-test.true, last)) is lesser)

pub returns : goal.returns
returns g c =
    let s = g.T.Triangulation.state c.args.triangulation.now in
    let last = c.num_vertices-index-end.ensures.value in
    least_found (triangulation_of position s) (position c.args.point) c.loop-index.index
    (length s.vertices) c.loop-index.least (sym (length-map s.vertices position))
    (omega (arith, c.loop-index-test.false, last)) c.loop-index.invariant
