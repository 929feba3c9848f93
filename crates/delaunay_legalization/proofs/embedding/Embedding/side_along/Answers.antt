use Rattle.delaunay_legalization.proofs.Questions.{covered_in}
use Rattle.delaunay_legalization.proofs.embedding.Embedding.side_along.Goals as goal

pub side-requires-clause-from_covered : goal.side-requires-clause-from_covered
side-requires-clause-from_covered g c = covered_in _ _ (g.met.P.PlaneTests.sites_are_covered
    c.self.inside.tests.now) _ _ c.self.invariant.sites c.position_of-start.ensures.listed

pub side-requires-clause-to_covered : goal.side-requires-clause-to_covered
side-requires-clause-to_covered g c = covered_in _ _ (g.met.P.PlaneTests.sites_are_covered
    c.self.inside.tests.now) _ _ c.self.invariant.sites c.position_of-end.ensures.listed
