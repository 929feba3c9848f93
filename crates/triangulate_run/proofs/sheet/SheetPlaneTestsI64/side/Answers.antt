use Rattle.std.proofs.Common.{rules}
use Rattle.{triangulate_run.proofs.Found.at_found, triangulate_run.proofs.Truth.side_from}
use Rattle.triangulate_run.proofs.sheet.SheetPlaneTestsI64.side.Goals as goal

pub returns-then-is_some : goal.returns-then-is_some
returns-then-is_some c = side_from c.args.self.now _ _ _ _ _ _ _
    (c.points-points.ensures.list, c.circles-circles.ensures)
    (at_found _ _ _ _ c.unwrap-i.ensures c.index_of.ensures)
    (at_found _ _ _ _ c.unwrap-j.ensures c.index_of-2.ensures)
    (at_found _ _ _ _ c.unwrap-k.ensures c.index_of-3.ensures) (search rules)

pub returns-then-is_some-2 : goal.returns-then-is_some-2
returns-then-is_some-2 c = side_from c.args.self.now _ _ _ _ _ _ _
    (c.points-points.ensures.list, c.circles-circles.ensures)
    (at_found _ _ _ _ c.unwrap-i.ensures c.index_of.ensures)
    (at_found _ _ _ _ c.unwrap-j.ensures c.index_of-2.ensures)
    (at_found _ _ _ _ c.unwrap-k.ensures c.index_of-3.ensures) (search rules)

pub returns-else-is_some-2 : goal.returns-else-is_some-2
returns-else-is_some-2 c = side_from c.args.self.now _ _ _ _ _ _ _
    (c.points-points.ensures.list, c.circles-circles.ensures)
    (at_found _ _ _ _ c.unwrap-i.ensures c.index_of.ensures)
    (at_found _ _ _ _ c.unwrap-j.ensures c.index_of-2.ensures)
    (at_found _ _ _ _ c.unwrap-k.ensures c.index_of-3.ensures) (search rules)
