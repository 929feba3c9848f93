use Rattle.std.proofs.Common.{◌∙◌}
use Rattle.delaunay_location.proofs.MeshSteps.{side_at}
use Rattle.delaunay_location.proofs.OutlineWalk.{neighbour_after, neighbour_before, stops_after}
use Rattle.delaunay_location.proofs.{OutlineWalk.stops_before, SegmentTests.unless}
use Rattle.delaunay_location.proofs.outside.seen_neighbour.Goals as goal

pub side-start-requires-clause-point_covered : goal.side-start-requires-clause-point_covered
side-start-requires-clause-point_covered g c = rw (← c.embedding.view_is) at
    (g.met.P.PlaneTests.sites_are_covered _ _ c.start_of.ensures.site)

pub side-end-requires-clause-point_covered : goal.side-end-requires-clause-point_covered
side-end-requires-clause-point_covered g c = rw (← c.embedding.view_is) at
    (g.met.P.PlaneTests.sites_are_covered _ _ c.end_of.ensures.site)

pub returns-then-is_on_right_side : goal.returns-then-is_on_right_side
returns-then-is_on_right_side g c =
    let seen = rw (← c.embedding.view_is) at c.requires.seen in
    let here = c.directed_edge-here.ensures in
    let after = rw (here.dcel, here.index) at (c.fix.ensures.value ∙ c.next.ensures.index) in
    let next = rw (← c.embedding.view_is) at c.if_seen.ensures in
    let end = side_at _ _ c.side-end.ensures c.end_of.ensures.place in
    let right = rw (← c.embedding.view_is) at (rw end at c.is_on_right_side.ensures) in
    record {
      some = rw (← c.embedding.view_is) (neighbour_after c.embedding.invariant _ c.args.edge
          seen.within
          seen.outer _ _ after next);
      none = rw (← c.embedding.view_is) (stops_after c.embedding.invariant _ c.args.edge seen.within
          seen.outer _ _ _ after next (right.0 c.if-is_on_right_side.true));
    }

pub returns-then-is_on_left_side : goal.returns-then-is_on_left_side
returns-then-is_on_left_side g c =
    let seen = rw (← c.embedding.view_is) at c.requires.seen in
    let here = c.directed_edge-here.ensures in
    let before = rw (here.dcel, here.index) at
    (c.fix-then-is_on_left_side.ensures.value ∙ c.prev.ensures.index) in
    let next = rw (← c.embedding.view_is) at c.if_seen-then-is_on_left_side.ensures in
    let end = side_at _ _ c.side-end.ensures c.end_of.ensures.place in
    let right = rw (← c.embedding.view_is) at (rw end at c.is_on_right_side.ensures) in
    record {
      some = rw (← c.embedding.view_is) (neighbour_before c.embedding.invariant _ c.args.edge
          seen.within
          seen.outer _ _ before next);
      none = rw (← c.embedding.view_is) (stops_before c.embedding.invariant _ c.args.edge
          seen.within
          seen.outer _ _ _ before next (unless right c.if-is_on_right_side.false));
    }

pub returns-clause-none : goal.returns-clause-none
returns-clause-none g c =
    let right = rw (side_at _ _ c.side-end.ensures c.end_of.ensures.place) at
    c.is_on_right_side.ensures in
    let left = rw (side_at _ _ c.side-start.ensures c.start_of.ensures.place) at
    c.is_on_left_side.ensures in
    record {
      after = λ e. absurd (unless right c.if-is_on_right_side.false e);
      before = λ _ e. absurd (unless left c.if-is_on_left_side.false e);
    }
