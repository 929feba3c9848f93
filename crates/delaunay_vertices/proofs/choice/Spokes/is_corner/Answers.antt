use Rattle.delaunay_vertices.proofs.Convex.{corner_tested}
use Rattle.delaunay_vertices.proofs.choice.Spokes.is_corner.Goals as goal

pub turns_left-requires : goal.turns_left-requires
turns_left-requires g c =
    let covers = g.met.P.PlaneTests.sites_are_covered c.self.inside.tests.now in
    record {
      a_covered = covers _ c.start_of-centre.ensures.site;
      b_covered = covers _ c.end_of-from.ensures.site;
      c_covered = covers _ c.end_of-to.ensures.site;
    }

pub returns : goal.returns
returns g c = rw (← c.self.view_is) (corner_tested c.self.invariant _ _ _ _
    c.cw_edge-last.ensures.value c.start_of-centre.ensures.place c.end_of-from.ensures.place
    c.end_of-to.ensures.place c.turns_left.ensures)
