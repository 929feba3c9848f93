use Rattle.std.proofs.Common.{rules}
use Rattle.{delaunay_core.specs.place_of, plane.proofs.gap_not_negative, plane.specs.whole}
use Rattle.delaunay_shapes.proofs.{Circles.rim_inside, Rims.rim_fits, Rims.rim_is}
use Rattle.delaunay_shapes.proofs.circle.CircleMetricDistanceMetric.distance_to_point.Goals as goal

pub overflow_sub-result : goal.overflow_sub-result
overflow_sub-result g c =
    let centre = whole (place_of g.S.SpadeNum.whole c.args.self.now.center) in
    let point = whole (place_of g.S.SpadeNum.whole c.args.point) in
    rim_fits c.distance_2.result c.args.self.now.radius_2 _
    (gap_not_negative centre point) c.distance_2.ensures
    (record { sfits = c.distance_2.type_inv }) c.args.self.now.not_negative (search rules)

pub returns : goal.returns
returns g c =
    let centre = place_of g.S.SpadeNum.whole c.args.self.now.center in
    let point = place_of g.S.SpadeNum.whole c.args.point in
    let value = rim_is c.distance_2.result c.args.self.now.radius_2 _
    (gap_not_negative (whole centre) (whole point)) c.distance_2.ensures
    (record { sfits = c.distance_2.type_inv }) c.args.self.now.not_negative (search rules) in
    record { value = value; inside = rim_inside centre c.args.self.now.radius_2 point _ value }
