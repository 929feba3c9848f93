use Rattle.std.proofs.Common.{map}
use Rattle.delaunay_shapes.proofs.Handles.{end_is, ends_told, start_is}
use Rattle.delaunay_shapes.proofs.distance_metric.DistanceMetric.is_handle_inside.Goals as goal

pub is_edge_inside-requires-clause-start_covered : goal.is_edge_inside-requires-clause-start_covered
is_edge_inside-requires-clause-start_covered g c =
    let edge = c.as_directed-edge.ensures in
    rw (start_is g.V.HasPosition.place edge.dcel edge.index c.from.ensures.dcel
    c.from.ensures.index c.spot_of.ensures) c.requires.start_covered

pub is_edge_inside-requires-clause-end_covered : goal.is_edge_inside-requires-clause-end_covered
is_edge_inside-requires-clause-end_covered g c =
    let edge = c.as_directed-edge.ensures in
    rw (end_is g.V.HasPosition.place edge.dcel edge.index c.to.ensures.dcel c.to.ensures.index
    c.spot_of-2.ensures) c.requires.end_covered

pub returns : goal.returns
returns g c =
    let edge = c.as_directed-edge.ensures in
    let place = g.V.HasPosition.place in
    record {
      inside = ends_told _ (g.Self.DistanceMetric.shape c.args.self.now)
          (map place c.args.handle.dcel.now.vertices) c.args.handle.dcel.now.mesh
          c.args.handle.index _ _
          (start_is place edge.dcel edge.index c.from.ensures.dcel c.from.ensures.index
          c.spot_of.ensures)
          (end_is place edge.dcel edge.index c.to.ensures.dcel c.to.ensures.index
          c.spot_of-2.ensures)
          c.is_edge_inside.ensures.inside;
    }
