use Rattle.delaunay_core.specs.{place_of}
use Rattle.delaunay_shapes.proofs.Circles.{near_answer, near_inside}
use Rattle.delaunay_shapes.proofs.circle.CircleMetricDistanceMetric.is_edge_inside.Goals as goal

pub returns : goal.returns
returns g c =
    let number = g.S.SpadeNum.whole in
    let centre = place_of number c.args.self.now.center in
    let from = place_of number c.args.points.0 in
    let to = place_of number c.args.points.1 in
    record {
      answer = near_answer centre c.args.self.now.radius_2 from to _ c.meets.ensures;
      inside = near_inside centre c.args.self.now.radius_2 from to _ c.meets.ensures;
    }

pub meets-requires-clause-from_in_range : goal.meets-requires-clause-from_in_range
meets-requires-clause-from_in_range g c =
    g.met.P.PlaneTests.covered_are_in_range c.args._tests.now _ c.requires.start_covered

pub meets-requires-clause-to_in_range : goal.meets-requires-clause-to_in_range
meets-requires-clause-to_in_range g c =
    g.met.P.PlaneTests.covered_are_in_range c.args._tests.now _ c.requires.end_covered
