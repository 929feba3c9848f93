use Rattle.std.proofs.Common.{ℕ, ◌^◌, map, refl, sym, ap, ◌∙◌, arith, w64}
use Rattle.std.proofs.lemmas.Int.{to_z-of_z}
use Rattle.std.specs.Prelude.{ℤ}
use Rattle.{delaunay_core.specs.place_of, plane.specs.gap, plane.specs.place, plane.specs.whole}
use Rattle.delaunay_location.proofs.Candidates.{nearer_than_same, reached_next}
use Rattle.delaunay_location.proofs.Neighbours.{moves_fit, no_nearer_neighbour, none_counted}
use Rattle.delaunay_location.proofs.nearest_walk.first_candidate.Goals as goal

pub returns-in_err-spoke : goal.returns-in_err-spoke
returns-in_err-spoke g c = rw c.from_residual.ensures (
  no_nearer_neighbour _ _ _ _ c.requires.can.kept.valid.sound
      (λ h within starts. absurd (c.in_err-spoke.ensures h within starts)),
  refl,
)

pub nearer_end-requires-clause-start : goal.nearer_end-requires-clause-start
nearer_end-requires-clause-start g c =
    let far : ℕ → ℤ = λ i. gap (whole (place_of g.V.Scalar.SpadeNum.whole c.args.point))
    (place (map g.V.HasPosition.place c.args.dcel.now.vertices) i) in
    to_z-of_z w64 _ (record { sfits = c.distance_2_to-distance_2.type_inv })
    ∙ c.distance_2_to-distance_2.ensures ∙ ap far (sym c.in_ok-spoke.ensures.1)

pub overflow_add-moves : goal.overflow_add-moves
overflow_add-moves g c =
    let near = nearer_than_same c.in_ok-spoke.ensures.1 c.in-Some.ensures in
    let next = reached_next c.requires.can.kept c.requires.within near in
    let fits = moves_fit next.counted (2 ^ 64) c.requires.fits in omega (arith, fits)

pub returns-in-Some : goal.returns-in-Some
returns-in-Some g c = reached_next c.requires.can.kept c.requires.within
    (nearer_than_same c.in_ok-spoke.ensures.1 c.in-Some.ensures)

pub returns-in-None : goal.returns-in-None
returns-in-None g c =
    let far : ℕ → ℤ = λ i. gap (whole (place_of g.V.Scalar.SpadeNum.whole c.args.point))
    (place (map g.V.HasPosition.place c.args.dcel.now.vertices) i) in
    let spoke = c.in_ok-spoke.ensures in
    record {
      candidate = record {
        within = rw (← c.requires.can.kept.fits.directed_fit) spoke.0;
        distance = to_z-of_z w64 _ (record { sfits = c.distance_2_to-distance_2.type_inv })
            ∙ c.distance_2_to-distance_2.ensures ∙ ap far (sym spoke.1);
        ends = c.in-None.ensures;
      };
      counted = rw spoke.1 none_counted;
    }
