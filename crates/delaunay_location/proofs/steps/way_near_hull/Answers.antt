use Rattle.{delaunay_legalization.proofs.mesh_edge, delaunay_location.proofs.Questions.located_left}
use Rattle.delaunay_location.proofs.steps.way_near_hull.Goals as goal

pub returns-then-turns_left : goal.returns-then-turns_left
returns-then-turns_left g c =
    let stop = rw (← c.embedding.view_is) at c.requires.stop in
    rw (← c.embedding.view_is) (located_left _ _ _ _ _ _ stop.from stop.to
    (mesh_edge _ _ c.embedding.invariant.kept _ stop.within)
    (c.is_outer.ensures.0 c.if-is_outer.true)
    (c.turns_left.ensures.0 c.if-turns_left.true))
