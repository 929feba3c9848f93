use Rattle.std.proofs.Common.{◌≡◌, ◌<◌, ◌∙◌, ap, length}
use Rattle.{half_edge_links.specs.origin, plane_theorems.specs.IsAhead}
use Rattle.{delaunay_legalization.proofs.covered_in, half_edge_dcel.specs.out_edges_left}
use Rattle.delaunay_legalization.proofs.Rounds.{round_begins, round_ends, round_goes_on}
use Rattle.delaunay_location.proofs.MeshSteps.{at_ends, ends_apart, far_comes, in_mesh, last_at_end}
use Rattle.delaunay_location.proofs.MeshSteps.{last_if_none_leads, next_spoke, none_comes}
use Rattle.delaunay_location.proofs.{MeshSteps.overlap_comes, vertex.after_vertex.Given.Over}
use Rattle.delaunay_location.proofs.SegmentTests.{neither, unless}
use Rattle.delaunay_location.proofs.vertex.after_vertex.Goals as goal
use Rattle.delaunay_location.proofs.vertex.after_vertex.Goals.{After-fix-edge}

-- the next edge of the round starts at the vertex
spoke : (g : Over) (c : After-fix-edge g) → (c.fix-edge.result < length
    c.embedding.inside.dcel.now.directed) × (origin c.embedding.inside.dcel.now.mesh
    c.fix-edge.result
    ≡ c.args.vertex)
spoke g c =
    let round = rw (← c.embedding.view_is) at c.loop-edge.invariant in
    rw c.fix-edge.ensures.value (next_spoke c.embedding.invariant round c.in-Some.ensures.steps)

pub returns-then-is_same_point : goal.returns-then-is_same_point
returns-then-is_same_point g c =
    let at = rw (← c.embedding.view_is) at c.requires in
    let ends = rw c.position_of-start.ensures.place at c.is_same_point.ensures in
    rw (← c.embedding.view_is) (last_at_end c.embedding.invariant c.requires.ends.apart
    c.args.vertex
    at.met (ends.0 c.if-is_same_point.true))

pub loop-edge-init : goal.loop-edge-init
loop-edge-init g c =
    rw (← c.embedding.view_is) (round_begins c.embedding.inside.dcel.now c.args.vertex _
    c.vertex.result.dcel (out_edges_left c.into_iter-edge-iterator.result)
    (ap (λ x. x.now) c.vertex.ensures.dcel) c.embedding.invariant.kept.valid
    (rw c.into_iter-edge-iterator.ensures.into_iter_gives
    (rw c.vertex.ensures.index at c.out_edges-edge-items.ensures.round)))

pub directed_edge-here-requires : goal.directed_edge-here-requires
directed_edge-here-requires g c =
    (spoke g (goal.at.directed_edge-here-requires g c).After-fix-edge).0

pub is_ahead-requires : goal.is_ahead-requires
is_ahead-requires g c =
    let covers = g.met.P.PlaneTests.sites_are_covered c.embedding.inside.tests.now in
    let sites = c.embedding.invariant.sites in
    let spoke = spoke g (goal.at.is_ahead-requires g c).After-fix-edge in
    let here = c.directed_edge-here.ensures in
    let end = rw (here.dcel, here.index) at (c.fix.ensures.value ∙ c.to.ensures.index) in
    record {
      from_covered = covered_in _ _ covers _ _ sites c.position_of-start.ensures.listed;
      towards_covered = covered_in _ _ covers _ _ sites c.position_of-end.ensures.listed;
      point_covered = rw (← c.embedding.view_is) at c.requires.ends.to_covered;
      way_apart = ends_apart c.embedding.invariant _ spoke.0 _ _
          (rw spoke.1 c.position_of-start.ensures.place)
          (rw end at c.position_of-end.ensures.place);
      point_apart = unless c.is_same_point.ensures c.if-is_same_point.false;
    }

pub is_in_cone-requires-clause-within : goal.is_in_cone-requires-clause-within
is_in_cone-requires-clause-within g c = rw (← c.embedding.view_is)
    (spoke g (goal.at.is_in_cone-requires-clause-within g c).After-fix-edge).0

pub returns-then-is_ahead : goal.returns-then-is_ahead
returns-then-is_ahead g c =
    let spoke = spoke g (goal.at.returns-then-is_ahead g c).After-fix-edge in
    let at = rw (← c.embedding.view_is) at c.requires in
    let ends = rw c.position_of-start.ensures.place at c.is_same_point.ensures in
    let here = c.directed_edge-here.ensures in
    let end = rw (here.dcel, here.index) at (c.fix.ensures.value ∙ c.to.ensures.index) in
    let ahead = at_ends IsAhead (rw (← spoke.1) at c.position_of-start.ensures.place)
    (rw end at c.position_of-end.ensures.place) c.is_ahead.ensures in
    rw (← c.embedding.view_is) (overlap_comes c.embedding.invariant c.requires.ends.apart _ spoke.0
    spoke.1 at.met (unless ends c.if-is_same_point.false) (ahead.0 c.if-is_ahead.true))

pub returns-then-is_on_left_side : goal.returns-then-is_on_left_side
returns-then-is_on_left_side g c =
    let spoke = spoke g (goal.at.returns-then-is_on_left_side g c).After-fix-edge in
    let at = rw (← c.embedding.view_is) at c.requires in
    let ends = rw c.position_of-start.ensures.place at c.is_same_point.ensures in
    let cone = rw (← c.embedding.view_is) at c.is_in_cone.ensures in
    let here = c.directed_edge-here.ensures in
    let far = rw (here.dcel, here.index) at
    (c.fix-far.ensures.value ∙ c.next-then-is_in_cone.ensures.index) in
    let left = rw (c.side_along.ensures, ← c.embedding.view_is) at c.is_on_left_side.ensures in
    rw (← c.embedding.view_is) (none_comes c.embedding.invariant c.requires.ends.apart _ spoke.0
    spoke.1 at.met (unless ends c.if-is_same_point.false) (cone.0 c.if-is_in_cone.true) far
    (left.0 c.if-is_on_left_side.true))

pub returns-then-is_in_cone : goal.returns-then-is_in_cone
returns-then-is_in_cone g c =
    let spoke = spoke g (goal.at.returns-then-is_in_cone g c).After-fix-edge in
    let at = rw (← c.embedding.view_is) at c.requires in
    let ends = rw c.position_of-start.ensures.place at c.is_same_point.ensures in
    let cone = rw (← c.embedding.view_is) at c.is_in_cone.ensures in
    let here = c.directed_edge-here.ensures in
    let far = rw (here.dcel, here.index) at
    (c.fix-far.ensures.value ∙ c.next-then-is_in_cone.ensures.index) in
    let left = rw (c.side_along.ensures, ← c.embedding.view_is) at c.is_on_left_side.ensures in
    rw (c.rev.ensures, ← c.embedding.view_is) (far_comes c.embedding.invariant c.requires.ends.apart
    _
    spoke.0 spoke.1 at.met (unless ends c.if-is_same_point.false)
    (cone.0 c.if-is_in_cone.true) far (unless left c.if-is_on_left_side.false))

pub loop-edge-preserved : goal.loop-edge-preserved
loop-edge-preserved g c =
    let spoke = spoke g (goal.at.loop-edge-preserved g c).After-fix-edge in
    let round = rw (← c.embedding.view_is) at c.loop-edge.invariant in
    let here = c.directed_edge-here.ensures in
    let end = rw (here.dcel, here.index) at (c.fix.ensures.value ∙ c.to.ensures.index) in
    let ahead = rw c.fix-edge.ensures.value at (at_ends IsAhead
    (rw (← spoke.1) at c.position_of-start.ensures.place)
    (rw end at c.position_of-end.ensures.place) c.is_ahead.ensures) in
    let cone = rw (c.fix-edge.ensures.value, ← c.embedding.view_is) at c.is_in_cone.ensures in
    rw (← c.embedding.view_is) (round_goes_on _ _ _ _ round _ _ c.in-Some.ensures.steps
    (neither (unless ahead c.if-is_ahead.false) (unless cone c.if-is_in_cone.false)))

pub returns : goal.returns
returns g c =
    let at = rw (← c.embedding.view_is) at c.requires in
    let round = rw (← c.embedding.view_is) at c.loop-edge.invariant in
    let ends = rw c.position_of-start.ensures.place at c.is_same_point.ensures in
    rw (← c.embedding.view_is) (last_if_none_leads c.embedding.invariant c.requires.ends.apart
    c.args.vertex at.met (unless ends c.if-is_same_point.false) (λ h w starts.
    round_ends _ _ _ _ round c.in-None.ensures.steps.0 h (in_mesh c.embedding.invariant h w)
    starts))
