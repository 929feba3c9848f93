use Rattle.std.proofs.Common.{◌∙◌, ap, rules}
use Rattle.{delaunay_core.proofs.Projections.gap_passes, delaunay_core.specs.place_of}
use Rattle.delaunay_shapes.proofs.Distances.{IsNearestIn, nearest_distance, nearest_in_range}
use Rattle.delaunay_shapes.proofs.Distances.{nearest_inside, nearest_value}
use Rattle.delaunay_shapes.proofs.rectangle.RectangleMetricDistanceMetric.distance_to_point.Goals as goal

pub returns : goal.returns
returns g c =
    let number = g.S.SpadeNum.whole in
    let l = place_of number c.args.self.now.lower in
    let u = place_of number c.args.self.now.upper in
    let p = place_of number c.args.point in
    let n = place_of number c.new.result in
    let s : IsNearestIn l u p n = record {
      sorted = search rules;
      x = ap number c.new.ensures.x ∙ c.clamp.ensures;
      y = ap number c.new.ensures.y ∙ c.clamp-2.ensures;
    } in
    let gap = gap_passes _ p n c.requires (nearest_in_range c.args.self.now.lower_in_range
    c.args.self.now.upper_in_range c.requires s) c.distance_2.ensures in
    record {
      value = gap ∙ nearest_value s;
      inside = nearest_inside _ s gap;
      reversed = search rules;
      nearest = λ _. nearest_distance _ s gap;
    }
