use Rattle.std.proofs.Common.{arith}
use Rattle.delaunay_vertices.proofs.FreedEdges.{free_already, freeing_begins, freeing_ends}
use Rattle.delaunay_vertices.proofs.FreedEdges.{freeing_goes_on, none_to_free, still_there}
use Rattle.delaunay_vertices.proofs.freeing.free_edges_at.Goals as goal

pub returns-then-is_free : goal.returns-then-is_free
returns-then-is_free g c = free_already _ _ g.met.M.ConstraintMarker.constraints_are_marked
    (c.requires.free c.if-is_free.true)

pub returns-in_default : goal.returns-in_default
returns-in_default g c =
    none_to_free g.M.ConstraintMarker.marks _ _ c.requires.whole c.in_default.ensures.none

pub loop-i-init : goal.loop-i-init
loop-i-init g c = freeing_begins c.in-Some.ensures.within

pub free_edge-requires : goal.free_edge-requires
free_edge-requires g c =
    let half = c.as_undirected.ensures in
    let within = c.loop-i.invariant.within in
    let count = c.loop-i.invariant.count in
    let us = c.requires.whole.fits.undirected_fit in
    let ds = c.requires.whole.fits.directed_fit in
    omega (arith, half, within, count, us, ds)

pub ccw_edge-edge-requires : goal.ccw_edge-edge-requires
ccw_edge-edge-requires g c =
    still_there c.loop-i.invariant (rw c.as_undirected.ensures at c.free_edge.ensures)

pub loop-i-preserved : goal.loop-i-preserved
loop-i-preserved g c = freeing_goes_on c.loop-i.invariant
    (rw c.as_undirected.ensures at c.free_edge.ensures)
    g.met.M.ConstraintMarker.unmarked_has_none c.ccw_edge-edge.ensures.within
    c.ccw_edge-edge.ensures.value

pub returns : goal.returns
returns g c = rw c.in-Some.ensures.starts at (freeing_ends c.loop-i.invariant c.requires.whole
    c.count_edges-count.ensures c.loop-i-test.false)
