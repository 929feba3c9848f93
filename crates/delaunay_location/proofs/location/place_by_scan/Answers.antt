use Rattle.std.proofs.Common.{◌≤◌, length, map, sym, ◌∙◌, arith, rules}
use Rattle.std.proofs.lemmas.Grind.{common_steps}
use Rattle.std.proofs.lemmas.List.{length-map}
use Rattle.{delaunay_core.specs.place_of, delaunay_legalization.specs.IsApart}
use Rattle.delaunay_location.proofs.Locating.{at_vertex, in_face, past_end, some_edge}
use Rattle.delaunay_location.proofs.location.place_by_scan.Given.{Over}
use Rattle.delaunay_location.proofs.location.place_by_scan.Goals as goal
use Rattle.delaunay_location.proofs.location.place_by_scan.Goals.{After-num_vertices}

-- no vertex has the position, once all were looked at
apart : (g : Over) (c : After-num_vertices g)
    → IsApart (map g.V.HasPosition.place c.embedding.inside.dcel.now.vertices)
    (place_of g.V.Scalar.SpadeNum.whole c.args.point)
apart g c = record {
  apart = λ k below.
      let count = c.num_vertices-index-end.ensures.value in
      let many = length-map c.embedding.inside.dcel.now.vertices g.V.HasPosition.place in
      (rw (← c.embedding.view_is) at c.loop-index.invariant) k
      (omega (arith, below, count, many, c.loop-index-test.false));
}

pub returns-then-is_same_point : goal.returns-then-is_same_point
returns-then-is_same_point g c =
    let here = c.from_index-vertex.ensures in
    let count = c.num_vertices-index-end.ensures.value in
    rw (← c.embedding.view_is) (at_vertex _ _ c.embedding.invariant.kept _ _
    (omega (arith, here, count, c.loop-index-test.true))
    (sym c.position_of.ensures.place ∙ c.is_same_point.ensures.0 c.if-is_same_point.true))

pub returns-in-Some-face_around : goal.returns-in-Some-face_around
returns-in-Some-face_around g c =
    let i = rw (← c.embedding.view_is) at c.in-Some-face_around.ensures in
    rw (← c.embedding.view_is) (in_face _ _ c.embedding.invariant.kept _ _ i.0 i.1 i.2)

pub edge_from_nearest-requires-clause-can : goal.edge_from_nearest-requires-clause-can
edge_from_nearest-requires-clause-can g c = search (rules, g.met.P.PlaneTests.covered_are_in_range)

pub edge_from_nearest-requires-clause-some : goal.edge_from_nearest-requires-clause-some
edge_from_nearest-requires-clause-some g c =
    let several : 2 ≤ length c.embedding.inside.dcel.now.vertices =
    omega (arith, c.num_vertices.ensures.value, c.if-num_vertices-lt2.false) in
    some_edge _ _ c.embedding.invariant.kept _
    (apart g (goal.at.edge_from_nearest-requires-clause-some g c).After-num_vertices)
    (rw (← c.embedding.view_is) at c.in_default.ensures)
    (rw (← c.embedding.view_is) at c.in_default-face_around.ensures) several

pub returns : goal.returns
returns g c =
    let several : 2 ≤ length c.embedding.inside.dcel.now.vertices =
    omega (arith, c.num_vertices.ensures.value, c.if-num_vertices-lt2.false) in
    rw (← c.embedding.view_is) (past_end _ _ c.embedding.invariant.kept _
    (apart g (goal.at.returns g c).After-num_vertices)
    (rw (← c.embedding.view_is) at c.in_default.ensures)
    (rw (← c.embedding.view_is) at c.in_default-face_around.ensures) several _
    c.edge_from_nearest.ensures)

pub returns-then-num_vertices-lt2 : goal.returns-then-num_vertices-lt2
returns-then-num_vertices-lt2 g c = grind (arith, common_steps)

pub place_at_edges-requires-clause-apart : goal.place_at_edges-requires-clause-apart
place_at_edges-requires-clause-apart g c = grind (arith, common_steps)
