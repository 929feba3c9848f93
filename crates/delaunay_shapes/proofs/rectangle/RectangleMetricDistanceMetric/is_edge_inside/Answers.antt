use Rattle.delaunay_shapes.proofs.Rectangles.{rectangle_answer, rectangle_inside}
use Rattle.delaunay_shapes.proofs.rectangle.RectangleMetricDistanceMetric.is_edge_inside.Goals as goal

pub returns : goal.returns
returns g c = record {
  answer = rectangle_answer _ _ _ _ _ c.meets.ensures;
  inside = rectangle_inside _ _ _ _ _ c.meets.ensures;
}
