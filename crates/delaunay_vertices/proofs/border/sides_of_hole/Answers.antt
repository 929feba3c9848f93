use Rattle.std.proofs.Common.{arith}
use Rattle.delaunay_vertices.proofs.Borders.{gathering_begins, gathering_ends, gathering_goes_on}
use Rattle.delaunay_vertices.proofs.Borders.{no_border}
use Rattle.delaunay_vertices.proofs.border.sides_of_hole.Goals as goal

pub returns-in_default : goal.returns-in_default
returns-in_default g c =
    no_border _ _ _ c.in_default.ensures.whole.valid c.in_default.ensures.none

pub loop-i-init : goal.loop-i-init
loop-i-init g c =
    let was = c.in_ok-border.ensures in
    let room = was.capacity in
    gathering_begins c.in-Some.ensures.within was.len (omega (arith, room))

pub loop-i-preserved : goal.loop-i-preserved
loop-i-preserved g c =
    let after = c.ccw_edge-after.ensures in
    let pushed = c.push_reserved.ensures in
    gathering_goes_on c.loop-i.invariant c.vertex_at_end.ensures c.vertex_at_end-in-loop-i.ensures
    after.within after.value pushed.items pushed.len pushed.capacity

pub returns : goal.returns
returns g c = rw c.in-Some.ensures.starts at
    (gathering_ends c.loop-i.invariant c.count_edges-count.ensures c.loop-i-test.false)
