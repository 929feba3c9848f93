use Rattle.std.proofs.Common.{ℕ, map, to_z, of_z, ◌∙◌, subst, ap, arith, w64}
use Rattle.std.proofs.lemmas.Int.{to_z-of_z}
use Rattle.std.specs.Prelude.{ℤ, ◌<ℤ◌}
use Rattle.{half_edge_links.specs.origin, plane.proofs.less_by_test}
use Rattle.{delaunay_core.specs.place_of, plane.specs.gap, plane.specs.place, plane.specs.whole}
use Rattle.{delaunay_location.proofs.Candidates.candidate_at_end, half_edge_links.proofs.rev_within}
use Rattle.delaunay_location.proofs.nearest_walk.nearer_end.Goals as goal

pub returns-then-at_end_2-distance_2 : goal.returns-then-at_end_2-distance_2
returns-then-at_end_2-distance_2 g c =
    let p = place_of g.V.Scalar.SpadeNum.whole c.args.point in
    let far : ℕ → ℤ = λ i. gap (whole p)
    (place (map g.V.HasPosition.place c.args.dcel.now.vertices) i) in
    let at_end = to_z-of_z w64 c.distance_2_to-at_end_2.result
    (record { sfits = c.distance_2_to-at_end_2.type_inv })
    ∙ c.distance_2_to-at_end_2.ensures ∙ ap far c.requires.end in
    let at_start = to_z-of_z w64 c.args.distance_2 c.ranges.distance_2 ∙ c.requires.start in
    let less = subst (λ (z : ℤ). z <ℤ far (origin c.args.dcel.now.mesh c.args.edge)) at_end
    (subst (λ (z : ℤ). to_z w64 (of_z w64 c.distance_2_to-at_end_2.result) <ℤ z) at_start
    (less_by_test _ _ c.if-at_end_2-distance_2.true)) in
    let within = rev_within c.args.edge _ c.requires.can.kept.valid.sound.even
    (let w = c.requires.within in let fit = c.requires.can.kept.fits.directed_fit in
    omega (arith, w, fit)) in
    candidate_at_end _ _ p c.args.edge _ c.rev.ensures less within at_end
