use Rattle.half_edge_dcel.specs.{IsMeshWithData}
use Rattle.delaunay_shapes.proofs.Handles.{edge_told, end_covered, start_covered}
use Rattle.delaunay_shapes.proofs.shape_search.ShapeSearch.has_edge.Goals as goal

pub is_handle_inside-requires : goal.is_handle_inside-requires
is_handle_inside-requires g c =
    let embedding = c.embedding.invariant in
    let whole : IsMeshWithData c.embedding.inside.dcel.now =
    record { valid = embedding.kept.valid; fits = embedding.kept.fits } in
    let within = rw (← c.self.view_is, ← c.embedding.view_is) at c.requires in
    let edge = c.undirected_edge.ensures in
    let tests = c.embedding.inside.tests.now in
    let site = g.P.PlaneTests.sites tests in
    let covered = g.met.P.PlaneTests.sites_are_covered tests in
    record {
      own_covered = rw (← c.embedding.view_is) at c.self.invariant.own_covered;
      start_covered = covered _ (start_covered g.V.HasPosition.place site embedding.sites whole
          within
          edge.dcel edge.index);
      end_covered = covered _ (end_covered g.V.HasPosition.place site embedding.sites whole within
          edge.dcel edge.index);
    }

pub returns : goal.returns
returns g c = rw (← c.self.view_is, ← c.embedding.view_is) (edge_told g.V.HasPosition.place
    (g.M.DistanceMetric.shape c.self.inside.metric.now) c.undirected_edge.ensures.dcel
    c.undirected_edge.ensures.index c.is_handle_inside.ensures.inside)
