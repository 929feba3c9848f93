use Rattle.delaunay_location.proofs.FirstItems.{ends_in_face, through_side, through_start}
use Rattle.delaunay_location.proofs.{MeshSteps.side_at, SegmentTests.unless}
use Rattle.delaunay_location.proofs.starts.first_in_face.Goals as goal

pub side-requires-clause-point_covered : goal.side-requires-clause-point_covered
side-requires-clause-point_covered g c = rw (← c.embedding.view_is) at
    (g.met.P.PlaneTests.sites_are_covered _ _ c.start_of.ensures.site)

pub returns-then-is_on_left_side : goal.returns-then-is_on_left_side
returns-then-is_on_left_side g c =
    let exit = rw (← c.embedding.view_is) at c.edge_over-exit.ensures in
    let left = rw (c.side_along.ensures, ← c.embedding.view_is) at c.is_on_left_side.ensures in
    rw (← c.embedding.view_is) (ends_in_face c.embedding.invariant c.edge_over-exit.result
    exit.within
    exit.start c.requires.ends.apart exit.over (left.0 c.if-is_on_left_side.true))

pub returns-then-is_on_line : goal.returns-then-is_on_line
returns-then-is_on_line g c =
    let exit = rw (← c.embedding.view_is) at c.edge_over-exit.ensures in
    let here = c.directed_edge-here.ensures in
    let left = rw (c.side_along.ensures, ← c.embedding.view_is) at c.is_on_left_side.ensures in
    let on = rw (← c.embedding.view_is) at (rw (side_at _ _ c.side.ensures c.start_of.ensures.place)
    at
    c.is_on_line.ensures) in
    rw (c.fix.ensures.value, c.from.ensures.index, here.dcel, here.index, ← c.embedding.view_is)
    (through_start c.embedding.invariant c.edge_over-exit.result exit.within exit.start
    c.requires.ends.apart exit.over (unless left c.if-is_on_left_side.false)
    (on.0 c.if-is_on_line.true))

pub returns : goal.returns
returns g c =
    let exit = rw (← c.embedding.view_is) at c.edge_over-exit.ensures in
    let left = rw (c.side_along.ensures, ← c.embedding.view_is) at c.is_on_left_side.ensures in
    let on = rw (← c.embedding.view_is) at (rw (side_at _ _ c.side.ensures c.start_of.ensures.place)
    at
    c.is_on_line.ensures) in
    rw (c.rev.ensures, ← c.embedding.view_is) (through_side c.embedding.invariant
    c.edge_over-exit.result exit.within exit.start c.requires.ends.apart exit.over
    (unless left c.if-is_on_left_side.false) (unless on c.if-is_on_line.false))
