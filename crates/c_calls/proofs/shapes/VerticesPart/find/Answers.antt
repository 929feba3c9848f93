use Rattle.std.proofs.Common.{refl}
use Rattle.delaunay_shapes.specs.{vertices_left}
use Rattle.c_calls.specs.{found, indexes_in, kept_place, refused}
use Rattle.c_calls.proofs.Found.{few_vertices, vertices_are}
use Rattle.c_calls.proofs.shapes.VerticesPart.find.Goals as goal

pub write_vertices-requires : goal.write_vertices-requires
write_vertices-requires g c =
    few_vertices kept_place (g.T.Triangulation.state c.args.points.now)
    (g.M.DistanceMetric.shape c.args.metric.now) (vertices_left c.in-Ok.found) c.in-Ok.ensures
    c.recall_invariant.ensures.small

pub returns-in-Ok : goal.returns-in-Ok
returns-in-Ok g c =
    let given = vertices_left c.in-Ok.found in
    found tt (indexes_in given) (vertices_are kept_place
    (g.T.Triangulation.state c.args.points.now) (g.M.DistanceMetric.shape c.args.metric.now) given
    c.in-Ok.ensures) c.write_vertices.ensures

pub returns-in-Err : goal.returns-in-Err
returns-in-Err g c = refused refl refl refl
