use Rattle.delaunay_shapes.proofs.Rectangles.{beside_told, between_told}
use Rattle.delaunay_shapes.proofs.rectangle.RectangleMetric.has.Goals as goal

pub returns-then-lies_between : goal.returns-then-lies_between
returns-then-lies_between g c = between_told _ _ _ _ _ c.if-lies_between.true
    c.lies_between.ensures c.lies_between-then-lies_between.ensures

pub returns-else-lies_between : goal.returns-else-lies_between
returns-else-lies_between g c =
    beside_told _ _ _ _ c.if-lies_between.false c.lies_between.ensures
