use Rattle.std.proofs.Common.{ap, refl, rules}
use Rattle.delaunay_legalization.specs.{is_constraint, state_of}
use Rattle.delaunay_edit.specs.{Constrained.IsFree, constraint_edges, none}
use Rattle.delaunay_edit.proofs.Constrained.{other_data_as, unconstrained}
use Rattle.delaunay_edit.proofs.ConstraintEdges.{legal_after, none_after, other_data}
use Rattle.delaunay_edit.proofs.{Recounted.counted_none, WellFormed.is_delaunay}
use Rattle.delaunay_interface.proofs.Kept.{held_of_same}
use Rattle.delaunay_interface.proofs.constraints.ConstrainedDelaunayTriangulation+V+DE+UE+F+L.from_delaunay.Goals as goal

pub invariant_of-result : goal.invariant_of-result
invariant_of-result g c = (
  counted_none g.V.HasPosition.place constraint_edges (state_of c.in-Ok.dcel)
      (legal_after g.V.HasPosition.place _ none is_constraint constraint_edges (λ ds. refl)
      (λ u e made. search rules) c.plain.inside.dcel c.in-Ok.dcel c.in-Ok.ensures.mapped refl
      c.plain.invariant.0.legal)
      (none_after g.V.HasPosition.place _ none is_constraint constraint_edges (λ ds. refl)
      (λ u e made. search rules) c.plain.inside.dcel c.in-Ok.dcel c.in-Ok.ensures.mapped),
  held_of_same g.V.HasPosition.place _ _ _ (ap (λ d. d.vertices) c.in-Ok.ensures.mapped.rest)
      c.plain.invariant.1,
)

pub invariant_of-result-in-Err : goal.invariant_of-result-in-Err
invariant_of-result-in-Err g c = rw c.in-Err.ensures.refused c.plain.invariant

pub returns-in-Ok : goal.returns-in-Ok
returns-in-Ok g c =
    let at = g.V.HasPosition.place in
    let old = c.plain.inside.dcel in
    let new = c.in-Ok.dcel in
    let other = other_data at _ none is_constraint constraint_edges (λ ds. refl)
    (λ u e made. search rules) old new c.in-Ok.ensures.mapped in
    rw (← c.plain.view_is) (record {
      ok = other_data_as _ IsFree (λ u e made. search rules) (state_of old) (state_of new) other;
      plain = unconstrained at (state_of old) (state_of new) other
          (none_after at _ none is_constraint constraint_edges (λ ds. refl)
          (λ u e made. search rules) old new c.in-Ok.ensures.mapped);
      headline = is_delaunay at is_constraint constraint_edges (λ ds. refl) (state_of new)
          (legal_after at _ none is_constraint constraint_edges (λ ds. refl)
          (λ u e made. search rules) old new c.in-Ok.ensures.mapped refl c.plain.invariant.0.legal);
      err = tt;
    })
