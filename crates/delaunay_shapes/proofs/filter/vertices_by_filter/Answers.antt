use Rattle.std.proofs.Common.{◌∙◌, refl, sym, ap, map, length, arith}
use Rattle.std.proofs.lemmas.List.{length-map}
use Rattle.delaunay_legalization.proofs.{both_ways}
use Rattle.delaunay_shapes.proofs.{Asking.filter_finds, Asking.filter_passes, Handles.vertex_told}
use Rattle.delaunay_shapes.proofs.Handles.{filtered_vertices, filtered_within, vertex_covered}
use Rattle.delaunay_shapes.proofs.filter.vertices_by_filter.Goals as goal
use goal.{else-is_point_inside, then-is_point_inside+in_ok-push}

pub loop-index-preserved : goal.loop-index-preserved
loop-index-preserved g c =
    let told = vertex_told g.V.HasPosition.place (g.M.DistanceMetric.shape c.args.metric.now)
    c.vertex.ensures.dcel c.vertex.ensures.index c.spot_of.ensures
    c.is_point_inside.ensures.inside in
    elim c.if-is_point_inside.branch [
      | then-is_point_inside+in_ok-push w ↦
          filter_finds c.loop-index.invariant c.from_index-vertex.ensures
          (told.0 w.if-is_point_inside.true)
          (ap (λ x. x.items) w.vertices-is ∙ w.in_ok-push.ensures.items)
      | else-is_point_inside w ↦ rw w.vertices-is
          (filter_passes c.loop-index.invariant c.from_index-vertex.ensures
          (λ p. both_ways _ (told.1 p) w.if-is_point_inside.false))
    ]

pub invariant_of-result : goal.invariant_of-result
invariant_of-result g c = record {
  in_range = filtered_within _ _ _ _ c.loop-index.invariant
      (omega (arith, c.num_vertices-index-end.ensures.value, c.loop-index.auto.index-end));
}

pub returns : goal.returns
returns g c =
    let last = c.loop-index.auto.index-end in
    record {
      vertices = c.loop-index.vertices.items;
      listed = refl;
      exact = filtered_vertices (g.M.DistanceMetric.shape c.args.metric.now)
          (map g.V.HasPosition.place c.args.dcel.now.vertices) _
          (length c.args.dcel.now.vertices) _ c.loop-index.invariant
          (omega (arith, c.num_vertices-index-end.ensures.value, last, c.loop-index-test.false))
          (sym (length-map c.args.dcel.now.vertices g.V.HasPosition.place));
    }

pub is_point_inside-requires : goal.is_point_inside-requires
is_point_inside-requires g c =
    g.met.P.PlaneTests.covered_are_in_range c.args.tests.now _
    (vertex_covered g.V.HasPosition.place {d = c.args.dcel}
    (g.P.PlaneTests.covered c.args.tests.now) c.requires refl c.vertex.ensures.dcel
    c.vertex.result.in_range c.spot_of.ensures)
