use Rattle.std.proofs.Common.{◌∙◌}
use Rattle.delaunay_shapes.specs.InShape.{IsVertexInside}
use Rattle.delaunay_shapes.proofs.Handles.{origin_is, start_told, vertex_covered}
use Rattle.delaunay_shapes.proofs.VertexFlood.{keeps, not_inside, not_named}
use Rattle.delaunay_shapes.proofs.shape_search.ShapeSearch.keep_start.Goals as goal

pub is_point_inside-requires : goal.is_point_inside-requires
is_point_inside-requires g c =
    let tests = c.embedding.inside.tests.now in
    g.met.P.PlaneTests.covered_are_in_range tests _ (g.met.P.PlaneTests.sites_are_covered tests _
    (vertex_covered g.V.HasPosition.place (g.P.PlaneTests.sites tests) c.embedding.invariant.sites
    c.directed_edge.ensures.dcel c.from-vertex.ensures.dcel c.from-vertex.result.in_range
    c.spot_of.ensures))

pub returns-in_ok-push : goal.returns-in_ok-push
returns-in_ok-push g c =
    let d = c.embedding.inside.dcel.now in
    let Shape = g.M.DistanceMetric.shape c.self.inside.metric.now in
    let edge = c.directed_edge.ensures in
    let from = c.from-vertex.ensures in
    rw (← c.self.view_is, ← c.embedding.view_is) (keeps (IsVertexInside Shape
    g.V.HasPosition.place d) d.mesh _ _ c.args.edge _ _ _ c.is_named.ensures c.if-is_named.true
    (start_told g.V.HasPosition.place Shape edge.dcel edge.index from.dcel from.index
    c.spot_of.ensures c.is_point_inside.ensures.inside) c.if-is_point_inside.true
    (c.fix.ensures.value ∙ origin_is g.V.HasPosition.place edge.dcel edge.index from.index)
    c.in_ok-push.ensures.items)

pub returns-else-is_point_inside : goal.returns-else-is_point_inside
returns-else-is_point_inside g c =
    let d = c.embedding.inside.dcel.now in
    let Shape = g.M.DistanceMetric.shape c.self.inside.metric.now in
    let edge = c.directed_edge.ensures in
    rw (← c.self.view_is, ← c.embedding.view_is) (not_inside (IsVertexInside Shape
    g.V.HasPosition.place d) d.mesh _ c.args.edge _ (start_told g.V.HasPosition.place Shape
    edge.dcel edge.index c.from-vertex.ensures.dcel c.from-vertex.ensures.index c.spot_of.ensures
    c.is_point_inside.ensures.inside) c.if-is_point_inside.false)

pub returns-else-is_named : goal.returns-else-is_named
returns-else-is_named g c =
    let d = c.embedding.inside.dcel.now in
    let Shape = g.M.DistanceMetric.shape c.self.inside.metric.now in
    rw (← c.self.view_is, ← c.embedding.view_is) (not_named (IsVertexInside Shape
    g.V.HasPosition.place d) d.mesh _ c.args.edge _ c.is_named.ensures c.if-is_named.false)
