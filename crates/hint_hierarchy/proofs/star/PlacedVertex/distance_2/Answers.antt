use Rattle.hint_hierarchy.proofs.Widths.{square_fits, squares_fit}
use Rattle.hint_hierarchy.proofs.star.PlacedVertex.distance_2.Goals as goal

pub overflow_mul-result : goal.overflow_mul-result
overflow_mul-result c =
    square_fits _ _ _ c.args.self.now.x_in_range c.from.ensures c.requires.x

pub overflow_mul-result-2 : goal.overflow_mul-result-2
overflow_mul-result-2 c =
    square_fits _ _ _ c.args.self.now.y_in_range c.from-2.ensures c.requires.y

pub overflow_add-result : goal.overflow_add-result
overflow_add-result c =
    squares_fit _ _ _ _ _ _ c.args.self.now.x_in_range c.from.ensures c.requires.x
    c.args.self.now.y_in_range c.from-2.ensures c.requires.y
