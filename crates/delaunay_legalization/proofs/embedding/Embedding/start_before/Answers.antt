use Rattle.delaunay_legalization.proofs.Questions.{covered_in}
use Rattle.delaunay_legalization.proofs.embedding.Embedding.start_before.Goals as goal

pub returns : goal.returns
returns g c =
    let edge = c.directed_edge.ensures in
    let sites = g.P.PlaneTests.sites c.self.inside.tests.now in
    rw (← c.self.view_is) (record {
      place = rw (c.fix.ensures.value, c.prev_from.ensures.index, edge.dcel, edge.index) at
          c.position_of.ensures.place;
      site = covered_in sites sites (λ _ s. s) _ _ c.self.invariant.sites
          c.position_of.ensures.listed;
    })
