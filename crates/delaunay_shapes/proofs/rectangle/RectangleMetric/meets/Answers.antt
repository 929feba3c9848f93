use Rattle.std.proofs.Common.{◌∙◌, sym}
use Rattle.delaunay_shapes.proofs.Rectangles.{end_meets, start_meets}
use Rattle.delaunay_shapes.proofs.rectangle.RectangleMetric.meets.Goals as goal
use goal.{else-has, then-has}

pub returns-then-has-2 : goal.returns-then-has-2
returns-then-has-2 g c = elim c.if-has.branch [
  | then-has w ↦ start_meets _ _ _ _ _ _ w.if-has.true c.has.ensures c.if-has-2.true
  | else-has w ↦ end_meets _ _ _ _ _ _ (sym w.value-is ∙ c.if-has-2.true)
      w.has-else-has.ensures c.if-has-2.true
]
