use Rattle.std.proofs.Common.{◌∙◌}
use Rattle.delaunay_legalization.proofs.{mesh_edge}
use Rattle.delaunay_location.proofs.steps.ends_of.Goals as goal

pub returns-clause-stop : goal.returns-clause-stop
returns-clause-stop g c =
    let here = c.directed_edge.ensures in
    let from = c.start_of.ensures in
    let to = rw (c.fix-to.ensures.value ∙ rw here.index at c.rev.ensures.index) at
    c.start_of-2.ensures in
    record {
      within = c.requires;
      from = from.place;
      to = to.place;
      from_covered = g.met.P.PlaneTests.sites_are_covered _ _ from.site;
      to_covered = g.met.P.PlaneTests.sites_are_covered _ _ to.site;
    }

pub returns-clause-edge : goal.returns-clause-edge
returns-clause-edge g c = rw (← c.embedding.view_is)
    (mesh_edge _ _ c.embedding.invariant.kept _ (rw (← c.embedding.view_is) at c.requires))
