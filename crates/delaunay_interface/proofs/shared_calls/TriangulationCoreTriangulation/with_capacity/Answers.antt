use Rattle.std.proofs.Common.{ap, subst, sym}
use Rattle.delaunay_edit.specs.{IsCounted}
use Rattle.{delaunay_interface.proofs.Kept.held_of_same, delaunay_legalization.specs.state_of}
use Rattle.delaunay_interface.proofs.shared_calls.TriangulationCoreTriangulation.with_capacity.Goals as goal

pub invariant_of-made : goal.invariant_of-made
invariant_of-made g c =
    let same = ap state_of c.reserve_capacity.ensures.contents in (
      subst (λ s. IsCounted g.V.HasPosition.place g.M.ConstraintMarker.constraints s
          c.made.inside.num_constraints) (sym same) c.made.invariant.0,
      held_of_same g.V.HasPosition.place _ _ _ (ap (λ s. s.vertices) same) c.made.invariant.1,
    )

pub returns-clause-full : goal.returns-clause-full
returns-clause-full g c = (
  (λ e. absurd (cc)),
  (λ many. let told = c.in-Err-OutOfMemory.ensures.few_enough many in
      let is = c.in-Err-OutOfMemory.field-0-is in absurd (cc)),
)
