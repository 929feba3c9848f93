use Rattle.std.proofs.Common.{sym, ◌∙◌}
use Rattle.delaunay_location.proofs.Sides.{located_inside, next_side, prev_side}
use Rattle.delaunay_location.proofs.steps.way_through.Goals as goal

pub side-at_behind-requires : goal.side-at_behind-requires
side-at_behind-requires g c =
    let given = rw (← c.embedding.view_is) at c.requires in
    let corner = rw (← c.embedding.view_is) at c.start_before-across.ensures in
    let covers = g.met.P.PlaneTests.sites_are_covered c.embedding.inside.tests.now in
    record {
      from_covered = covers _ corner.site;
      to_covered = given.stop.from_covered;
      point_covered = given.covered;
    }

pub side-at_ahead-requires : goal.side-at_ahead-requires
side-at_ahead-requires g c =
    let given = rw (← c.embedding.view_is) at c.requires in
    let corner = rw (← c.embedding.view_is) at c.start_before-across.ensures in
    let covers = g.met.P.PlaneTests.sites_are_covered c.embedding.inside.tests.now in
    record {
      from_covered = given.stop.to_covered;
      to_covered = covers _ corner.site;
      point_covered = given.covered;
    }

pub side-at_stop-requires : goal.side-at_stop-requires
side-at_stop-requires g c =
    let given = rw (← c.embedding.view_is) at c.requires in
    record {
      from_covered = given.stop.from_covered;
      to_covered = given.stop.to_covered;
      point_covered = given.covered;
    }

pub returns-then-is_on_right_side : goal.returns-then-is_on_right_side
returns-then-is_on_right_side g c =
    let here = c.directed_edge-here.ensures in
    let given = rw (← c.embedding.view_is) at c.requires in
    let corner = rw (← c.embedding.view_is) at c.start_before-across.ensures in
    rw (← c.embedding.view_is) (prev_side c.embedding.invariant.kept _ given.stop.within given.inner
    given.stop corner.place (g.met.P.PlaneTests.sites_are_covered _ _ corner.site)
    (c.fix.ensures.value ∙ rw (here.dcel, here.index) at c.prev.ensures.index))

pub returns-then-is_on_right_side-2 : goal.returns-then-is_on_right_side-2
returns-then-is_on_right_side-2 g c =
    let here = c.directed_edge-here.ensures in
    let given = rw (← c.embedding.view_is) at c.requires in
    let corner = rw (← c.embedding.view_is) at c.start_before-across.ensures in
    rw (← c.embedding.view_is) (next_side c.embedding.invariant.kept _ given.stop.within given.inner
    given.stop corner.place (g.met.P.PlaneTests.sites_are_covered _ _ corner.site)
    (c.fix-2.ensures.value ∙ rw (here.dcel, here.index) at c.next.ensures.index))

pub returns-then-is_on_left_side-3 : goal.returns-then-is_on_left_side-3
returns-then-is_on_left_side-3 g c =
    let here = c.directed_edge-here.ensures in
    let given = rw (← c.embedding.view_is) at c.requires in
    let corner = rw (← c.embedding.view_is) at c.start_before-across.ensures in
    rw (← c.embedding.view_is) (located_inside c.embedding.invariant.kept _ given.stop.within
    given.inner _ (c.fix-then-is_on_left_side-3.ensures.value
    ∙ rw (here.dcel, here.index) at c.face.ensures.index) given.stop.from given.stop.to corner.place
    (sym c.side-at_stop.ensures
    ∙ c.is_on_left_side-then-is_on_left_side-2.ensures.0 c.if-is_on_left_side-3.true)
    (sym c.side-at_behind.ensures ∙ c.is_on_left_side.ensures.0 c.if-is_on_left_side.true)
    (sym c.side-at_ahead.ensures
    ∙ c.is_on_left_side-then-is_on_left_side.ensures.0 c.if-is_on_left_side-2.true))

pub returns-then-is_on_right_side-3 : goal.returns-then-is_on_right_side-3
returns-then-is_on_right_side-3 g c = c.requires.stop

pub returns-then-is_on_line : goal.returns-then-is_on_line
returns-then-is_on_line g c = rw (← c.embedding.view_is)
    (rw (c.prev.ensures.dcel, c.directed_edge-here.ensures.dcel) at c.fix.ensures.in_range)

pub returns-then-is_on_line-2 : goal.returns-then-is_on_line-2
returns-then-is_on_line-2 g c = rw (← c.embedding.view_is)
    (rw (c.next.ensures.dcel, c.directed_edge-here.ensures.dcel) at c.fix-2.ensures.in_range)

pub returns : goal.returns
returns g c = c.requires.stop.within
