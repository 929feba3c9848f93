use Rattle.std.proofs.Common.{arith}
use Rattle.delaunay_core.specs.{place_of}
use Rattle.{delaunay_legalization.proofs.covered_in, delaunay_location.specs.IsOverMesh}
use Rattle.delaunay_location.proofs.Advance.{is_ready, starts_at_vertex, walks_line}
use Rattle.delaunay_location.proofs.between.EmbeddingLineViews.line_between_vertices.Goals as goal

pub returns : goal.returns
returns g c =
    let covers = g.met.P.PlaneTests.sites_are_covered c.self.inside.tests.now in
    let sites = c.self.invariant.sites in
    let over : IsOverMesh g.V.HasPosition.place g.P.PlaneTests.sites g.P.PlaneTests.covered
    c.self.inside.dcel.now c.self.inside.tests.now
    (place_of g.V.Scalar.SpadeNum.whole c.position_of-start.result)
    (place_of g.V.Scalar.SpadeNum.whole c.position_of-end.result) = record {
      embedding = c.self.invariant;
      from_covered = covered_in _ _ covers _ _ sites c.position_of-start.ensures.listed;
      to_covered = covered_in _ _ covers _ _ sites c.position_of-end.ensures.listed;
    } in
    let within = rw (← c.self.view_is) at c.requires.from_in in
    let first = starts_at_vertex over.embedding
    {q = place_of g.V.Scalar.SpadeNum.whole c.position_of-end.result} c.args.from
    within c.position_of-start.ensures.place in
    rw (← c.self.view_is) record {
      line = rw (← c.position_of-start.ensures.place, ← c.position_of-end.ensures.place)
          (walks_line first);
      ready = is_ready first over (search arith);
    }
