use Rattle.delaunay_vertices.proofs.PairEdges.{edge_put}
use Rattle.delaunay_vertices.proofs.pairs.push_between.Goals as goal

pub returns-in-Some-clause-there : goal.returns-in-Some-clause-there
returns-in-Some-clause-there g c = edge_put c.args.dcel.now.mesh _ _ c.in-Some.ensures.starts
    c.in-Some.ensures.ends c.push_side.ensures.gains.there

pub returns-in-None-clause-there : goal.returns-in-None-clause-there
returns-in-None-clause-there g c h within starts ends =
    absurd (c.in-None.ensures.none h within starts ends)
