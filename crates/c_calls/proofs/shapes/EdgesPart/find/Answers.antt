use Rattle.std.proofs.Common.{refl}
use Rattle.delaunay_shapes.specs.{edges_left}
use Rattle.c_calls.specs.{found, indexes_in, kept_place, refused}
use Rattle.c_calls.proofs.Found.{edges_are, few_edges}
use Rattle.c_calls.proofs.shapes.EdgesPart.find.Goals as goal

pub write_found_edges-requires : goal.write_found_edges-requires
write_found_edges-requires g c =
    few_edges kept_place (g.T.Triangulation.state c.args.points.now)
    (g.M.DistanceMetric.shape c.args.metric.now) (edges_left c.in-Ok.found) c.in-Ok.ensures
    c.recall_invariant.ensures.kept

pub returns-in-Ok : goal.returns-in-Ok
returns-in-Ok g c =
    let given = edges_left c.in-Ok.found in
    found tt (indexes_in given) (edges_are kept_place
    (g.T.Triangulation.state c.args.points.now) (g.M.DistanceMetric.shape c.args.metric.now) given
    c.in-Ok.ensures) c.write_found_edges.ensures

pub returns-in-Err : goal.returns-in-Err
returns-in-Err g c = refused refl refl refl
