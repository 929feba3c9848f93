use Rattle.{delaunay_legalization.proofs.both_ways, delaunay_vertices.proofs.Convex.convex_read}
use Rattle.delaunay_vertices.proofs.choice.Spokes.is_convex_at.Goals as goal

pub turns_left-requires : goal.turns_left-requires
turns_left-requires g c =
    let covers = g.met.P.PlaneTests.sites_are_covered c.self.inside.tests.now in
    record {
      a_covered = covers _ c.end_of-before.ensures.site;
      b_covered = covers _ c.end_of-corner.ensures.site;
      c_covered = covers _ c.end_of-after.ensures.site;
    }

pub turns_left-requires-then-turns_left : goal.turns_left-requires-then-turns_left
turns_left-requires-then-turns_left g c =
    let covers = g.met.P.PlaneTests.sites_are_covered c.self.inside.tests.now in
    record {
      a_covered = covers _ c.start_of-centre.ensures.site;
      b_covered = covers _ c.end_of-before.ensures.site;
      c_covered = covers _ c.end_of-after.ensures.site;
    }

pub returns-then-turns_left : goal.returns-then-turns_left
returns-then-turns_left g c =
    let r = convex_read c.self.invariant c.args.edge _ _ _ _ _ _ c.ccw_edge-second.ensures.value
    c.ccw_edge-third.ensures.value c.start_of-centre.ensures.place c.end_of-before.ensures.place
    c.end_of-corner.ensures.place c.end_of-after.ensures.place in
    rw (← c.self.view_is) (
      λ t. r.1 (
        c.turns_left.ensures.0 c.if-turns_left.true,
        c.turns_left-then-turns_left.ensures.0 t,
      ),
      λ k. c.turns_left-then-turns_left.ensures.1 (r.0 k).1,
    )

pub returns-else-turns_left : goal.returns-else-turns_left
returns-else-turns_left g c =
    let r = convex_read c.self.invariant c.args.edge _ _ _ _ _ _ c.ccw_edge-second.ensures.value
    c.ccw_edge-third.ensures.value c.start_of-centre.ensures.place c.end_of-before.ensures.place
    c.end_of-corner.ensures.place c.end_of-after.ensures.place in
    rw (← c.self.view_is) (
      λ t. absurd (both_ways _ t c.if-turns_left.false),
      λ k. c.turns_left.ensures.1 (r.0 k).0,
    )
