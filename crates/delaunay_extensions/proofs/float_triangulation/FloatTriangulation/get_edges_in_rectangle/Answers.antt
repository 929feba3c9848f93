use Rattle.{delaunay_core.specs.place_of, delaunay_shapes.proofs.Shapes.rectangle_begins}
use Rattle.delaunay_extensions.proofs.Calls.{lower_corner, same_corners, upper_corner}
use Rattle.delaunay_extensions.proofs.float_triangulation.FloatTriangulation.get_edges_in_rectangle.Goals as goal

pub new-rectangle-requires : goal.new-rectangle-requires
new-rectangle-requires g c =
    let covered = g.P.PlaneTests.covered c.args.tests.now in
    let in_range = g.met.P.PlaneTests.covered_are_in_range c.args.tests.now in
    record {
      lower_in_range = in_range _ (lower_corner covered _ _ c.requires.covered);
      upper_in_range = in_range _ (upper_corner covered _ _ c.requires.covered);
    }

pub get_edges_in_shape-requires-clause-own_covered : goal.get_edges_in_shape-requires-clause-own_covered
get_edges_in_shape-requires-clause-own_covered g c =
    same_corners (g.P.PlaneTests.covered c.args.tests.now)
    (place_of g.Self.Vertex.Scalar.SpadeNum.whole) c.new-rectangle.ensures.lower
    c.new-rectangle.ensures.upper c.requires.covered

pub get_edges_in_shape-requires-clause-start_covered : goal.get_edges_in_shape-requires-clause-start_covered
get_edges_in_shape-requires-clause-start_covered g c =
    lower_corner (g.P.PlaneTests.covered c.args.tests.now) _ _ c.requires.covered

pub get_edges_in_shape-requires-clause-begins : goal.get_edges_in_shape-requires-clause-begins
get_edges_in_shape-requires-clause-begins g c =
    rw (c.new-rectangle.ensures.lower, c.new-rectangle.ensures.upper) (rectangle_begins _ _)

pub returns : goal.returns
returns g c = rw (← c.new-rectangle.ensures.lower, ← c.new-rectangle.ensures.upper)
    c.get_edges_in_shape.ensures
