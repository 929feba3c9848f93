use Rattle.std.proofs.Common.{arith}
use Rattle.delaunay_location.proofs.outside.is_crossed.Goals as goal

pub side-requires-clause-point_covered : goal.side-requires-clause-point_covered
side-requires-clause-point_covered g c = rw (← c.embedding.view_is) at
    (g.met.P.PlaneTests.sites_are_covered _ _ c.start_of.ensures.site)

pub side-requires-2-clause-point_covered : goal.side-requires-2-clause-point_covered
side-requires-2-clause-point_covered g c = rw (← c.embedding.view_is) at
    (g.met.P.PlaneTests.sites_are_covered _ _ c.end_of.ensures.site)

pub returns-then-is_on_right_side_or_on_line : goal.returns-then-is_on_right_side_or_on_line
returns-then-is_on_right_side_or_on_line g c = grind arith

pub side_along-requires-then-is_on_right_side_or_on_line-clause-within :
    goal.side_along-requires-then-is_on_right_side_or_on_line-clause-within
side_along-requires-then-is_on_right_side_or_on_line-clause-within g c = grind arith

pub returns-else-is_on_right_side_or_on_line : goal.returns-else-is_on_right_side_or_on_line
returns-else-is_on_right_side_or_on_line g c = grind arith
