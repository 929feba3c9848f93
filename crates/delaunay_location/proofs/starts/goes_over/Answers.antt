use Rattle.std.proofs.Common.{arith}
use Rattle.delaunay_location.proofs.starts.goes_over.Goals as goal

pub side-start-requires-clause-point_covered : goal.side-start-requires-clause-point_covered
side-start-requires-clause-point_covered g c = rw (← c.embedding.view_is) at
    (g.met.P.PlaneTests.sites_are_covered _ _ c.start_of.ensures.site)

pub side-end-requires-clause-point_covered : goal.side-end-requires-clause-point_covered
side-end-requires-clause-point_covered g c = rw (← c.embedding.view_is) at
    (g.met.P.PlaneTests.sites_are_covered _ _ c.end_of.ensures.site)

pub returns-then-is_on_right_side_or_on_line : goal.returns-then-is_on_right_side_or_on_line
returns-then-is_on_right_side_or_on_line g c = grind arith

pub returns-else-is_on_right_side_or_on_line : goal.returns-else-is_on_right_side_or_on_line
returns-else-is_on_right_side_or_on_line g c = grind arith
