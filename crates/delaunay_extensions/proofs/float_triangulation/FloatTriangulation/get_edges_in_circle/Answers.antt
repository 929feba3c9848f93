use Rattle.std.proofs.Common.{◌∙◌, w64}
use Rattle.std.proofs.lemmas.Int.{to_z-of_z}
use Rattle.delaunay_shapes.proofs.Shapes.{circle_begins}
use Rattle.delaunay_extensions.proofs.float_triangulation.FloatTriangulation.get_edges_in_circle.Goals as goal

pub get_edges_in_shape-requires-clause-begins : goal.get_edges_in_shape-requires-clause-begins
get_edges_in_shape-requires-clause-begins g c =
    rw c.new-circle.ensures.center (circle_begins _ _)

pub returns : goal.returns
returns g c =
    let radius = c.new-circle.ensures.radius_2 ∙ to_z-of_z w64 c.args.radius_2 c.ranges.radius_2 in
    rw (← c.new-circle.ensures.center, ← radius) c.get_edges_in_shape.ensures
