use Rattle.std.proofs.Common.{refl, sym, ◌∙◌}
use Rattle.delaunay_location.proofs.BothWays.{closing_in_begins, fewer_before, left_goes_on}
use Rattle.delaunay_location.proofs.BothWays.{left_starts, left_within, right_ends, right_goes_on}
use Rattle.delaunay_location.proofs.BothWays.{right_starts, right_within, seen_where_left_meets}
use Rattle.delaunay_location.proofs.BothWays.{seen_where_right_meets}
use Rattle.delaunay_location.proofs.Candidates.{distance_read, nearer_than_same}
use Rattle.delaunay_location.proofs.Neighbours.{no_nearer_neighbour}
use Rattle.delaunay_location.proofs.nearest_walk.nearer_neighbor.Goals as goal

pub loop-point-init : goal.loop-point-init
loop-point-init g c =
    closing_in_begins c.requires.can.kept.valid c.requires.from.within refl c.requires.from.ends

pub edge_clockwise-next-requires : goal.edge_clockwise-next-requires
edge_clockwise-next-requires g c =
    rw c.requires.can.kept.fits.directed_fit (left_within c.loop-point.invariant)

pub returns-then-index : goal.returns-then-index
returns-then-index g c = no_nearer_neighbour _ _ _ _ c.requires.can.kept.valid.sound
    (seen_where_left_meets c.loop-point.invariant c.edge_clockwise-next.ensures.value
    (sym c.index.ensures ∙ c.if-index.true ∙ c.index-in-loop-point.ensures))

pub nearer_end-requires-clause-start : goal.nearer_end-requires-clause-start
nearer_end-requires-clause-start g c =
    distance_read c.requires.can.kept c.requires.can.in_range c.requires.from _
    (left_starts c.loop-point.invariant c.edge_clockwise-next.ensures.value)

pub returns-in-Some : goal.returns-in-Some
returns-in-Some g c = nearer_than_same
    (left_starts c.loop-point.invariant c.edge_clockwise-next.ensures.value) c.in-Some.ensures

pub ccw_edge-next-requires : goal.ccw_edge-next-requires
ccw_edge-next-requires g c =
    rw c.requires.can.kept.fits.directed_fit (right_within c.loop-point.invariant)

pub returns-then-index-2 : goal.returns-then-index-2
returns-then-index-2 g c =
    let left = left_goes_on c.loop-point.invariant c.edge_clockwise-next.ensures.value
    (λ e. c.if-index.false (c.index.ensures ∙ e ∙ sym c.index-in-loop-point.ensures))
    c.in_default.ensures in
    no_nearer_neighbour _ _ _ _ c.requires.can.kept.valid.sound (seen_where_right_meets left
    c.ccw_edge-next.ensures.value
    (sym c.index-in-loop-point-2.ensures ∙ c.if-index-2.true ∙ c.index-in-loop-point-3.ensures))

pub directed_edge-requires : goal.directed_edge-requires
directed_edge-requires g c =
    rw c.requires.can.kept.fits.directed_fit (right_within c.loop-point.invariant)

pub nearer_end-requires-in-loop-point-clause-end : goal.nearer_end-requires-in-loop-point-clause-end
nearer_end-requires-in-loop-point-clause-end g c =
    let here = c.directed_edge.ensures in
    c.fix-end.ensures.value ∙ rw (here.dcel, here.index) at c.prev_from.ensures.index
    ∙ right_ends c.loop-point.invariant c.ccw_edge-next.ensures.value

pub nearer_end-requires-in-loop-point-clause-start :
    goal.nearer_end-requires-in-loop-point-clause-start
nearer_end-requires-in-loop-point-clause-start g c =
    distance_read c.requires.can.kept c.requires.can.in_range c.requires.from _
    (right_starts c.loop-point.invariant c.ccw_edge-next.ensures.value)

pub returns-in-Some-nearer_end : goal.returns-in-Some-nearer_end
returns-in-Some-nearer_end g c = nearer_than_same
    (right_starts c.loop-point.invariant c.ccw_edge-next.ensures.value)
    c.in-Some-nearer_end.ensures

pub loop-point-smaller : goal.loop-point-smaller
loop-point-smaller g c = fewer_before c.loop-point.invariant c.edge_clockwise-next.ensures.value
    (λ e. c.if-index.false (c.index.ensures ∙ e ∙ sym c.index-in-loop-point.ensures))

pub loop-point-preserved : goal.loop-point-preserved
loop-point-preserved g c =
    let left = left_goes_on c.loop-point.invariant c.edge_clockwise-next.ensures.value
    (λ e. c.if-index.false (c.index.ensures ∙ e ∙ sym c.index-in-loop-point.ensures))
    c.in_default.ensures in
    right_goes_on left c.ccw_edge-next.ensures.value
    (λ e. c.if-index-2.false
    (c.index-in-loop-point-2.ensures ∙ e ∙ sym c.index-in-loop-point-3.ensures))
    c.in_default-nearer_end.ensures
