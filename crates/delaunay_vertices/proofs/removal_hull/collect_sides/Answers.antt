use Rattle.delaunay_vertices.proofs.HullSides.{collecting_begins, collecting_goes_on}
use Rattle.delaunay_vertices.proofs.removal_hull.collect_sides.Goals as goal

pub loop-i-init : goal.loop-i-init
loop-i-init g c = collecting_begins c.requires.within c.clear.ensures.items c.clear.ensures.len
    c.clear.ensures.capacity

pub loop-i-preserved : goal.loop-i-preserved
loop-i-preserved g c =
    let after = c.ccw_edge-edge.ensures in
    let pushed = c.push_reserved.ensures in
    collecting_goes_on c.loop-i.invariant c.opposite_side.ensures after.within after.value
    pushed.items pushed.len pushed.capacity
