use Rattle.delaunay_vertices.proofs.Searching.{not_so, seeking_begins, seeking_ends}
use Rattle.delaunay_vertices.proofs.Searching.{seeking_goes_on, seeking_has_found}
use Rattle.delaunay_vertices.proofs.choice.Spokes.find_convex.Goals as goal

pub loop-i-init : goal.loop-i-init
loop-i-init g c = rw (← c.self.view_is) (seeking_begins c.self.invariant)

pub loop-i-preserved : goal.loop-i-preserved
loop-i-preserved g c = seeking_goes_on c.loop-i.invariant
    (not_so c.is_convex_at.ensures c.if-is_convex_at.false)
    (rw (← c.self.view_is) c.ccw_edge-edge.ensures.within)
    (rw (← c.self.view_is) c.ccw_edge-edge.ensures.value)

pub returns-then-is_convex_at : goal.returns-then-is_convex_at
returns-then-is_convex_at g c =
    seeking_has_found c.loop-i.invariant (c.is_convex_at.ensures.0 c.if-is_convex_at.true)

pub returns : goal.returns
returns g c = seeking_ends c.loop-i.invariant c.loop-i-test.false
