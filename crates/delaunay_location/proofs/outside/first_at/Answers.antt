use Rattle.std.proofs.Common.{◌∙◌}
use Rattle.half_edge_links.specs.{rev}
use Rattle.delaunay_location.proofs.MeshSteps.{embedding_value, side_at, starts_at}
use Rattle.delaunay_location.proofs.OutlineWalk.{edge_met, end_met, left_there, nothing_on_its_left}
use Rattle.delaunay_location.proofs.OutlineWalk.{nothing_past_end, nothing_past_start, right_there}
use Rattle.delaunay_location.proofs.{OutlineWalk.start_met, SegmentTests.unless}
use Rattle.delaunay_location.proofs.outside.first_at.Goals as goal

pub side-start-requires-clause-point_covered : goal.side-start-requires-clause-point_covered
side-start-requires-clause-point_covered g c = rw (← c.embedding.view_is) at
    (g.met.P.PlaneTests.sites_are_covered _ _ c.start_of.ensures.site)

pub side-end-requires-clause-point_covered : goal.side-end-requires-clause-point_covered
side-end-requires-clause-point_covered g c = rw (← c.embedding.view_is) at
    (g.met.P.PlaneTests.sites_are_covered _ _ c.end_of.ensures.site)

pub returns-then-is_on_left_side : goal.returns-then-is_on_left_side
returns-then-is_on_left_side g c =
    nothing_on_its_left (embedding_value c.embedding.view_is c.embedding.invariant)
    c.requires.ends.apart
    c.args.edge c.requires.seen ((rw c.side_along.ensures at c.is_on_left_side.ensures).0
    c.if-is_on_left_side.true)

pub returns-then-is_on_right_side : goal.returns-then-is_on_right_side
returns-then-is_on_right_side g c =
    let past = rw (side_at _ _ c.side-end.ensures c.end_of.ensures.place) at
    (c.is_on_right_side.ensures.0 c.if-is_on_right_side.true) in
    nothing_past_end (embedding_value c.embedding.view_is c.embedding.invariant)
    c.requires.ends.apart
    c.args.edge c.requires.seen past (c.requires.stop.after past)

pub returns-then-is_on_left_side-2 : goal.returns-then-is_on_left_side-2
returns-then-is_on_left_side-2 g c =
    let right = rw (side_at _ _ c.side-end.ensures c.end_of.ensures.place) at
    c.is_on_right_side.ensures in
    let past = rw (side_at _ _ c.side-start.ensures c.start_of.ensures.place) at
    (c.is_on_left_side-2.ensures.0 c.if-is_on_left_side-2.true) in
    nothing_past_start (embedding_value c.embedding.view_is c.embedding.invariant)
    c.requires.ends.apart
    c.args.edge c.requires.seen past
    (c.requires.stop.before (unless right c.if-is_on_right_side.false) past)

pub returns-then-is_on_line : goal.returns-then-is_on_line
returns-then-is_on_line g c =
    let here = c.directed_edge-here.ensures in
    let vertex = rw (here.dcel, here.index) at (c.fix.ensures.value ∙ c.to.ensures.index) in
    let ends = rw c.side_along.ensures at c.is_on_left_side.ensures in
    let end = side_at _ _ c.side-end.ensures c.end_of.ensures.place in
    let left = rw (side_at _ _ c.side-start.ensures c.start_of.ensures.place) at
    c.is_on_left_side-2.ensures in
    rw (starts_at c.embedding.view_is (rev c.args.edge) vertex) (end_met (embedding_value
    c.embedding.view_is c.embedding.invariant) c.requires.ends.apart c.args.edge c.requires.seen
    (unless ends c.if-is_on_left_side.false)
    (rw end at (c.is_on_line.ensures.0 c.if-is_on_line.true))
    (unless left c.if-is_on_left_side-2.false))

pub returns-then-is_on_line-2 : goal.returns-then-is_on_line-2
returns-then-is_on_line-2 g c =
    let here = c.directed_edge-here.ensures in
    let vertex = rw (here.dcel, here.index) at
    (c.fix-then-is_on_line-2.ensures.value ∙ c.from.ensures.index) in
    let ends = rw c.side_along.ensures at c.is_on_left_side.ensures in
    let start = side_at _ _ c.side-start.ensures c.start_of.ensures.place in
    rw (starts_at c.embedding.view_is c.args.edge vertex)
    (start_met (embedding_value c.embedding.view_is
    c.embedding.invariant) c.requires.ends.apart c.args.edge c.requires.seen
    (unless ends c.if-is_on_left_side.false)
    (rw start at (c.is_on_line-2.ensures.0 c.if-is_on_line-2.true))
    (left_there (side_at _ _ c.side-end.ensures c.end_of.ensures.place) c.is_on_right_side.ensures
    c.if-is_on_right_side.false c.is_on_line.ensures c.if-is_on_line.false))

pub returns : goal.returns
returns g c =
    let ends = rw c.side_along.ensures at c.is_on_left_side.ensures in
    rw c.rev.ensures (edge_met (embedding_value c.embedding.view_is c.embedding.invariant)
    c.requires.ends.apart c.args.edge c.requires.seen (unless ends c.if-is_on_left_side.false)
    c.requires.start (right_there (side_at _ _ c.side-start.ensures c.start_of.ensures.place)
    c.is_on_left_side-2.ensures c.if-is_on_left_side-2.false c.is_on_line-2.ensures
    c.if-is_on_line-2.false) (left_there (side_at _ _ c.side-end.ensures c.end_of.ensures.place)
    c.is_on_right_side.ensures c.if-is_on_right_side.false c.is_on_line.ensures
    c.if-is_on_line.false))
