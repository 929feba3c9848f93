use Rattle.delaunay_legalization.proofs.{covered_in}
use Rattle.delaunay_vertices.proofs.outside.is_on_left.Goals as goal

pub turns_left-requires : goal.turns_left-requires
turns_left-requires g c =
    let covers = g.met.P.PlaneTests.sites_are_covered c.args.tests.now in
    record {
      a_covered = covered_in _ _ covers _ _ c.requires.sites c.position_of-from.ensures.listed;
      b_covered = covered_in _ _ covers _ _ c.requires.sites c.position_of-to.ensures.listed;
      c_covered = c.requires.covered;
    }
