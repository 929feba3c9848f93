use Rattle.std.proofs.Common.{rules}
use Rattle.triangulate_run.proofs.{Found.at_found, Truth.inside_from}
use Rattle.triangulate_run.proofs.sheet.SheetPlaneTestsI64.is_in_circle.Goals as goal

pub returns-in-Some : goal.returns-in-Some
returns-in-Some c = inside_from c.args.self.now _ _ _ _ _ _ _ _ _
    (c.points-points.ensures.list, c.circles-circles.ensures)
    (at_found _ _ _ _ c.unwrap-i.ensures c.site_index_of.ensures)
    (at_found _ _ _ _ c.unwrap-j.ensures c.site_index_of-2.ensures)
    (at_found _ _ _ _ c.unwrap-k.ensures c.site_index_of-3.ensures)
    (at_found _ _ _ _ c.unwrap-l.ensures c.site_index_of-4.ensures) c.requires.left_turn
    (search rules)

pub returns-in-None : goal.returns-in-None
returns-in-None c = inside_from c.args.self.now _ _ _ _ _ _ _ _ _
    (c.points-points.ensures.list, c.circles-circles.ensures)
    (at_found _ _ _ _ c.unwrap-i.ensures c.site_index_of.ensures)
    (at_found _ _ _ _ c.unwrap-j.ensures c.site_index_of-2.ensures)
    (at_found _ _ _ _ c.unwrap-k.ensures c.site_index_of-3.ensures)
    (at_found _ _ _ _ c.unwrap-l.ensures c.site_index_of-4.ensures) c.requires.left_turn
    (search rules)
