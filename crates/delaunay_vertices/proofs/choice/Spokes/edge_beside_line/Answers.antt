use Rattle.delaunay_vertices.proofs.Between.{between_tested, four_at_next, reads_apart}
use Rattle.delaunay_vertices.proofs.Searching.{not_so}
use Rattle.delaunay_vertices.proofs.choice.Spokes.edge_beside_line.Goals as goal

pub is_strictly_within-requires : goal.is_strictly_within-requires
is_strictly_within-requires g c =
    let covers = g.met.P.PlaneTests.sites_are_covered c.self.inside.tests.now in
    let four = rw (← c.self.view_is) at c.requires in
    let apart = reads_apart c.self.invariant four.star
    c.ccw_edge-second.ensures.value c.ccw_edge-opposite.ensures.value
    c.start_of-centre.ensures.place c.end_of-from.ensures.place c.end_of-to.ensures.place in
    record {
      from_covered = covers _ c.end_of-from.ensures.site;
      to_covered = covers _ c.end_of-to.ensures.site;
      point_covered = covers _ c.start_of-centre.ensures.site;
      ends_apart = apart.0;
      not_from = apart.1.0;
      not_to = apart.1.1;
    }

pub returns-then-is_strictly_within : goal.returns-then-is_strictly_within
returns-then-is_strictly_within g c =
    let four = rw (← c.self.view_is) at c.requires in
    let told = between_tested c.self.invariant four.star c.ccw_edge-second.ensures.value
    c.ccw_edge-opposite.ensures.value c.start_of-centre.ensures.place c.end_of-from.ensures.place
    c.end_of-to.ensures.place c.is_strictly_within.ensures in
    rw (← c.self.view_is) (record {
      star = four.star;
      between = told.0 c.if-is_strictly_within.true;
    })

pub returns-else-is_strictly_within : goal.returns-else-is_strictly_within
returns-else-is_strictly_within g c =
    let four = rw (← c.self.view_is) at c.requires in
    let kept = c.self.invariant.embedding.kept in
    let told = between_tested c.self.invariant four.star c.ccw_edge-second.ensures.value
    c.ccw_edge-opposite.ensures.value c.start_of-centre.ensures.place c.end_of-from.ensures.place
    c.end_of-to.ensures.place c.is_strictly_within.ensures in
    let next = four_at_next kept.valid four (not_so told c.if-is_strictly_within.false)
    c.ccw_edge-second.ensures.value
    (rw kept.fits.directed_fit at c.ccw_edge-second.ensures.within) in
    rw (← c.self.view_is) (record { star = next.0; between = next.1 })
