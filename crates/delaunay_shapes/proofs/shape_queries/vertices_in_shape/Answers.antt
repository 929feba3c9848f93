use Rattle.std.proofs.Common.{map}
use Rattle.std.proofs.lemmas.List.{length-map}
use Rattle.delaunay_shapes.proofs.Handles.{vertices_within}
use Rattle.delaunay_shapes.proofs.shape_queries.vertices_in_shape.Goals as goal

pub vertices_by_filter-requires : goal.vertices_by_filter-requires
vertices_by_filter-requires g c i d within =
    g.met.P.PlaneTests.sites_are_covered _ _ (c.requires.sites i d within)

pub invariant_of-result : goal.invariant_of-result
invariant_of-result g c = record {
  in_range = vertices_within _ (map g.V.HasPosition.place c.args.dcel.now.vertices) _ _
      (length-map c.args.dcel.now.vertices g.V.HasPosition.place) c.in_ok-vertices.ensures;
}
