use Rattle.std.proofs.Common.{arith}
use Rattle.delaunay_core.specs.{place_of}
use Rattle.delaunay_shapes.proofs.rectangle.RectangleMetric.touches_line.Goals as goal

pub side_of-lower_left-requires-clause-corner_covered :
    goal.side_of-lower_left-requires-clause-corner_covered
side_of-lower_left-requires-clause-corner_covered g c =
    c.requires.own_covered 0 (place_of g.S.SpadeNum.whole c.args.self.now.lower) (omega arith)

pub side_of-lower_right-requires-clause-corner_covered :
    goal.side_of-lower_right-requires-clause-corner_covered
side_of-lower_right-requires-clause-corner_covered g c =
    c.requires.own_covered 1 (place_of g.S.SpadeNum.whole c.args.self.now.lower) (omega arith)

pub side_of-upper_right-requires-clause-corner_covered :
    goal.side_of-upper_right-requires-clause-corner_covered
side_of-upper_right-requires-clause-corner_covered g c =
    c.requires.own_covered 2 (place_of g.S.SpadeNum.whole c.args.self.now.lower) (omega arith)

pub side_of-upper_left-requires-clause-corner_covered :
    goal.side_of-upper_left-requires-clause-corner_covered
side_of-upper_left-requires-clause-corner_covered g c =
    c.requires.own_covered 3 (place_of g.S.SpadeNum.whole c.args.self.now.lower) (omega arith)
