use Rattle.std.proofs.Common.{◌<◌, map, refl, inl, inr}
use Rattle.{delaunay_core.specs.place_of, half_edge_links.specs.face, half_edge_links.specs.rev}
use Rattle.delaunay_legalization.proofs.CircleQuestions.{AreCorners, circle_tells, left_turn}
use Rattle.delaunay_legalization.proofs.{CircleQuestions.outer_passes, Legalizing.positive}
use Rattle.delaunay_legalization.proofs.Questions.{both_ways, covered_in}
use Rattle.delaunay_legalization.proofs.embedding.Embedding.is_failing.Given.{Over}
use Rattle.delaunay_legalization.proofs.embedding.Embedding.is_failing.Goals as goal
use Rattle.delaunay_legalization.proofs.embedding.Embedding.is_failing.Goals.{After-position_of-right}

-- the points that were read are the corners
corners : (g : Over) (c : After-position_of-right g) → let dcel = c.self.inside.dcel.now in
    let at = place_of g.V.Scalar.SpadeNum.whole in
    AreCorners (map g.V.HasPosition.place dcel.vertices) dcel.mesh c.args.edge
    (at c.position_of-from.result) (at c.position_of-to.result) (at c.position_of-left.result)
    (at c.position_of-right.result)
corners g c =
    let edge = c.directed_edge-edge.ensures in
    let twin = c.rev-twin.ensures in
    record {
      from_is = rw (c.fix.ensures.value, c.from.ensures.index, edge.dcel, edge.index) at
          c.position_of-from.ensures.place;
      to_is = rw (
        c.fix-2.ensures.value,
        c.from-2.ensures.index,
        twin.dcel,
        twin.index,
        edge.dcel,
        edge.index,
      ) at c.position_of-to.ensures.place;
      left_is = rw (c.fix-3.ensures.value, c.prev_from.ensures.index, edge.dcel, edge.index) at
          c.position_of-left.ensures.place;
      right_is = rw (
        c.fix-4.ensures.value,
        c.prev_from-2.ensures.index,
        twin.dcel,
        twin.index,
        edge.dcel,
        edge.index,
      ) at c.position_of-right.ensures.place;
    }

-- both of its faces are inner ones
inner : (g : Over) (c : After-position_of-right g) → let m = c.self.inside.dcel.now.mesh in
    (0 < face m c.args.edge) × (0 < face m (rev c.args.edge))
inner g c =
    let edge = c.directed_edge-edge.ensures in
    let twin = c.rev-twin.ensures in
    let left = rw (edge.index, edge.dcel) at c.is_outer_edge.ensures in
    let right = rw (twin.index, twin.dcel, edge.index, edge.dcel) at c.is_outer_edge-2.ensures in (
      positive _ (λ z. both_ways _ (left.1 z) c.if-is_outer_edge.false),
      positive _ (λ z. both_ways _ (right.1 z) c.if-is_outer_edge-2.false),
    )

pub is_in_circle-requires-clause-left_turn : goal.is_in_circle-requires-clause-left_turn
is_in_circle-requires-clause-left_turn g c =
    let kept = c.self.invariant.kept in
    left_turn kept {e = c.args.edge}
    (rw (← kept.fits.directed_fit) (rw (← c.self.view_is) at c.requires))
    {right = place_of g.V.Scalar.SpadeNum.whole c.position_of-right.result} (corners g c)
    (inner g c)

pub returns-then-is_outer_edge : goal.returns-then-is_outer_edge
returns-then-is_outer_edge g c = rw (← c.self.view_is) (
  (λ t. absurd (both_ways _ t refl)),
  (λ x. absurd (outer_passes (inl (rw (
    c.directed_edge-edge.ensures.index,
    c.directed_edge-edge.ensures.dcel,
  ) at (c.is_outer_edge.ensures.0 c.if-is_outer_edge.true))) x)),
)

pub returns-then-is_outer_edge-2 : goal.returns-then-is_outer_edge-2
returns-then-is_outer_edge-2 g c = rw (← c.self.view_is) (
  (λ t. absurd (both_ways _ t refl)),
  (λ x. absurd (outer_passes (inr (rw (
    c.rev-twin.ensures.index,
    c.rev-twin.ensures.dcel,
    c.directed_edge-edge.ensures.index,
    c.directed_edge-edge.ensures.dcel,
  ) at (c.is_outer_edge-2.ensures.0 c.if-is_outer_edge-2.true))) x)),
)

pub returns : goal.returns
returns g c =
    let kept = c.self.invariant.kept in
    rw (← c.self.view_is) (circle_tells kept {e = c.args.edge}
    (rw (← kept.fits.directed_fit) (rw (← c.self.view_is) at c.requires))
    (corners g (goal.at.returns g c).After-position_of-right)
    (inner g (goal.at.returns g c).After-position_of-right) c.is_in_circle.ensures)

pub is_in_circle-requires-clause-v1_site : goal.is_in_circle-requires-clause-v1_site
is_in_circle-requires-clause-v1_site g c =
    let sites = g.P.PlaneTests.sites c.self.inside.tests.now in
    covered_in sites sites (λ _ s. s) _ _ c.self.invariant.sites c.position_of-from.ensures.listed

pub is_in_circle-requires-clause-v2_site : goal.is_in_circle-requires-clause-v2_site
is_in_circle-requires-clause-v2_site g c =
    let sites = g.P.PlaneTests.sites c.self.inside.tests.now in
    covered_in sites sites (λ _ s. s) _ _ c.self.invariant.sites c.position_of-to.ensures.listed

pub is_in_circle-requires-clause-v3_site : goal.is_in_circle-requires-clause-v3_site
is_in_circle-requires-clause-v3_site g c =
    let sites = g.P.PlaneTests.sites c.self.inside.tests.now in
    covered_in sites sites (λ _ s. s) _ _ c.self.invariant.sites c.position_of-left.ensures.listed

pub is_in_circle-requires-clause-point_site : goal.is_in_circle-requires-clause-point_site
is_in_circle-requires-clause-point_site g c =
    let sites = g.P.PlaneTests.sites c.self.inside.tests.now in
    covered_in sites sites (λ _ s. s) _ _ c.self.invariant.sites c.position_of-right.ensures.listed
