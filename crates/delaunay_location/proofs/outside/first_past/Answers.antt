use Rattle.std.proofs.Common.{◌∙◌}
use Rattle.delaunay_legalization.proofs.{covered_in}
use Rattle.delaunay_location.proofs.{PastEnd.end_missed, PastEnd.end_passed, SegmentTests.unless}
use Rattle.delaunay_location.proofs.outside.first_past.Goals as goal

pub carries-requires-clause-covered : goal.carries-requires-clause-covered
carries-requires-clause-covered g c = covered_in _ _ (g.met.P.PlaneTests.sites_are_covered
    c.embedding.inside.tests.now) _ _ c.embedding.invariant.sites c.position_of.ensures.listed

pub returns-then-carries : goal.returns-then-carries
returns-then-carries g c =
    let given = rw (← c.embedding.view_is) at c.requires in
    let here = c.directed_edge.ensures in
    let vertex = rw (here.dcel, here.index) at
    (c.fix-vertex.ensures.value ∙ c.from.ensures.index) in
    rw (vertex, ← c.embedding.view_is) (end_passed c.embedding.invariant given.start
    c.requires.ends.apart c.args.edge given.within given.past
    (rw vertex at c.position_of.ensures.place) (c.carries.ensures.0 c.if-carries.true))

pub returns : goal.returns
returns g c =
    let given = rw (← c.embedding.view_is) at c.requires in
    let here = c.directed_edge.ensures in
    let vertex = rw (here.dcel, here.index) at
    (c.fix-vertex.ensures.value ∙ c.from.ensures.index) in
    rw (← c.embedding.view_is) (end_missed c.embedding.invariant given.start
    c.requires.ends.apart c.args.edge given.within given.past
    (rw vertex at c.position_of.ensures.place) (unless c.carries.ensures c.if-carries.false))
