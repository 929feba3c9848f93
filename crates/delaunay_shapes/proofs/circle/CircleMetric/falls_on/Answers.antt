use Rattle.std.proofs.Common.{◌∙◌, w64}
use Rattle.std.proofs.lemmas.Int.{to_z-of_z}
use Rattle.delaunay_shapes.proofs.FallsOn.{falls_told}
use Rattle.delaunay_shapes.proofs.circle.CircleMetric.falls_on.Goals as goal

pub returns-then-is_on_edge : goal.returns-then-is_on_edge
returns-then-is_on_edge g c =
    let projected = c.project_point-projection.ensures in
    let position = c.relative_position-factor in
    let excess = c.distance_to_point-excess_2 in
    falls_told _ c.args.self.now.radius_2 _ _ _ _ excess.result position.result.1
    position.result.0 c.args.self.now.center_in_range c.requires.from_in_range
    c.requires.to_in_range
    (to_z-of_z w64 excess.result (record { sfits = excess.type_inv }) ∙ excess.ensures.value)
    (position.ensures.length_2 ∙ projected.length_2) (position.ensures.factor ∙ projected.factor)
    c.if-is_on_edge.true projected.factor projected.length_2 c.is_on_edge.ensures
    c.is_at_most.ensures
