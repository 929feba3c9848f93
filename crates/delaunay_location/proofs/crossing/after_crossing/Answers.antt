use Rattle.std.proofs.Common.{◌∙◌, inl, inr}
use Rattle.{delaunay_core.specs.place_of, delaunay_legalization.proofs.covered_in}
use Rattle.delaunay_location.proofs.MeshSteps.{embedding_value, IsExit, IsPastFace, last_at_edge}
use Rattle.delaunay_location.proofs.MeshSteps.{past_face, positive, side_at}
use Rattle.delaunay_location.proofs.{crossing.after_crossing.Given.Over, SegmentTests.unless}
use Rattle.delaunay_location.proofs.crossing.after_crossing.Goals as goal
use Rattle.delaunay_location.proofs.crossing.after_crossing.Goals.{After-side_along}
use Rattle.delaunay_location.proofs.crossing.after_crossing.Goals.{else-is_on_right_side}
use Rattle.delaunay_location.proofs.crossing.after_crossing.Goals.{then-is_on_right_side}

-- what comes next, by the side by which the segment leaves the face beyond
past : (g : Over) (c : After-side_along g) → IsPastFace g.V.HasPosition.place
    c.args.embedding.now.dcel
    (place_of g.V.Scalar.SpadeNum.whole c.args.from) (place_of g.V.Scalar.SpadeNum.whole c.args.to)
    c.args.edge c.fix-corner.result c.side-side.result c.if-is_on_right_side.exit
past g c =
    let at = rw (← c.embedding.view_is) at c.requires in
    let here = c.directed_edge-here.ensures in
    let outer = rw (here.dcel, here.index) at c.is_outer_edge.ensures in
    let corner = rw (here.dcel, here.index) at
    (c.fix-corner.ensures.value ∙ c.prev_from.ensures.index) in
    let exit : IsExit c.embedding.inside.dcel.now.mesh c.args.edge c.side-side.result
    c.if-is_on_right_side.exit = elim c.if-is_on_right_side.branch [
      | then-is_on_right_side w ↦ inl (
        c.is_on_right_side.ensures.0 w.if-is_on_right_side.true,
        rw (here.dcel, here.index) at (w.exit-is ∙ w.fix-exit.ensures.value ∙ w.prev.ensures.index),
      )
      | else-is_on_right_side w ↦ inr (
        unless c.is_on_right_side.ensures w.if-is_on_right_side.false,
        rw (here.dcel, here.index) at
            (w.exit-is ∙ w.fix-exit-else-is_on_right_side.ensures.value ∙ w.next.ensures.index),
      )
    ] in
    rw (← c.embedding.view_is) (past_face c.embedding.invariant c.requires.ends.apart c.args.edge
    at.within at.met (positive _ (unless outer c.if-is_outer_edge.false)) (side_at _ _
    c.side-side.ensures (rw corner at c.position_of-opposite.ensures.place)) exit corner)

pub returns-then-is_outer_edge : goal.returns-then-is_outer_edge
returns-then-is_outer_edge g c =
    let at = rw (← c.embedding.view_is) at c.requires in
    let here = c.directed_edge-here.ensures in
    let outer = rw (here.dcel, here.index) at c.is_outer_edge.ensures in
    rw (← c.embedding.view_is) (last_at_edge c.embedding.invariant c.requires.ends.apart c.args.edge
    at.within at.met (inr (outer.0 c.if-is_outer_edge.true)))

pub returns-then-is_on_line : goal.returns-then-is_on_line
returns-then-is_on_line g c =
    last_at_edge (embedding_value c.embedding.view_is c.embedding.invariant) c.requires.ends.apart
    c.args.edge c.requires.within c.requires.met
    (inl ((rw c.side_along-end.ensures at c.is_on_line.ensures).0 c.if-is_on_line.true))

pub side-side-requires-clause-point_covered : goal.side-side-requires-clause-point_covered
side-side-requires-clause-point_covered g c = covered_in _ _ (g.met.P.PlaneTests.sites_are_covered
    c.embedding.inside.tests.now) _ _ c.embedding.invariant.sites
    c.position_of-opposite.ensures.listed

pub returns-then-is_on_left_side : goal.returns-then-is_on_left_side
returns-then-is_on_left_side g c =
    (past g (goal.at.returns-then-is_on_left_side g c).After-side_along).inside
    ((rw c.side_along.ensures at c.is_on_left_side.ensures).0 c.if-is_on_left_side.true)

pub returns-then-is_on_line-2 : goal.returns-then-is_on_line-2
returns-then-is_on_line-2 g c =
    (past g (goal.at.returns-then-is_on_line-2 g c).After-side_along).corner
    (unless (rw c.side_along.ensures at c.is_on_left_side.ensures) c.if-is_on_left_side.false)
    (c.is_on_line-2.ensures.0 c.if-is_on_line-2.true)

pub returns : goal.returns
returns g c =
    rw c.rev.ensures ((past g (goal.at.returns g c).After-side_along).side
    (unless (rw c.side_along.ensures at c.is_on_left_side.ensures) c.if-is_on_left_side.false)
    (unless c.is_on_line-2.ensures c.if-is_on_line-2.false))
