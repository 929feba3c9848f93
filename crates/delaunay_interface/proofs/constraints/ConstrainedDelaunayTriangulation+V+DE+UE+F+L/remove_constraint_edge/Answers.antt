use Rattle.std.proofs.Common.{ap, refl}
use Rattle.std.proofs.lemmas.Result.{err_from_is_err_and}
use Rattle.{delaunay_edit.specs.constraint_edges, delaunay_legalization.proofs.both_ways}
use Rattle.delaunay_edit.proofs.EditingConstraints.{edge_freed, none_released}
use Rattle.delaunay_edit.proofs.{Recounted.counted_released, WellFormed.is_delaunay}
use Rattle.{delaunay_interface.proofs.Kept.held_of_same, delaunay_legalization.specs.is_constraint}
use Rattle.delaunay_interface.proofs.constraints.ConstrainedDelaunayTriangulation+V+DE+UE+F+L.remove_constraint_edge.Goals as goal

pub returns-then-not-is_constraint_edge-clause-releases :
    goal.returns-then-not-is_constraint_edge-clause-releases
returns-then-not-is_constraint_edge-clause-releases g c =
    none_released g.V.HasPosition.place c.args.edge _ c.args.self.now refl
    (λ h. both_ways _ (c.is_constraint_edge.ensures.marked.1 h) c.if-not-is_constraint_edge.true)

pub returns-then-not-is_constraint_edge-clause-headline :
    goal.returns-then-not-is_constraint_edge-clause-headline
returns-then-not-is_constraint_edge-clause-headline g c = c.mesh.ensures.well_formed.headline

pub release_constraint-requires-clause-constraint :
    goal.release_constraint-requires-clause-constraint
release_constraint-requires-clause-constraint g c =
    rw (← c.self.view_is) at
    (c.is_constraint_edge.ensures.marked.0 c.if-not-is_constraint_edge.false)

pub release_constraint-requires-clause-sites : goal.release_constraint-requires-clause-sites
release_constraint-requires-clause-sites g c =
    (rw (← c.self.view_is) at c.requires.sites)
    (rw (← c.self.view_is) at c.mesh.ensures.well_formed.in_range)

pub returns-in_err-reserve-clause-releases : goal.returns-in_err-reserve-clause-releases
returns-in_err-reserve-clause-releases g c =
    let has = c.is_constraint_edge.ensures.marked.0 c.if-not-is_constraint_edge.false in
    let p = err_from_is_err_and c.from_residual.result c.from_residual.ensures.1 in
    rw (p.1, ← c.self.view_is) (record {
      none = λ n. absurd (n (rw (← c.self.view_is) at has));
      told = tt;
      plain = λ h. tt;
      «data» = λ h. tt;
      err = refl;
    })

pub invariant_of-self-2 : goal.invariant_of-self-2
invariant_of-self-2 g c = (
  counted_released is_constraint (λ ds. refl) c.self.invariant.0
      c.release_constraint.ensures.releases,
  held_of_same g.V.HasPosition.place _ _ _
      (ap (λ d. d.vertices) c.release_constraint.ensures.releases.contents) c.self.invariant.1,
)

pub returns-clause-releases : goal.returns-clause-releases
returns-clause-releases g c =
    let has = c.is_constraint_edge.ensures.marked.0 c.if-not-is_constraint_edge.false in
    let done = c.release_constraint.ensures.releases in
    record {
      none = λ n. absurd (n has);
      told = ((λ t. has), (λ h. refl));
      plain = λ h. rw (← c.self.view_is) done.plain;
      «data» = λ h. rw (← c.self.view_is) (edge_freed _ _ _ _ done);
      err = tt;
    }

pub returns-clause-headline : goal.returns-clause-headline
returns-clause-headline g c = is_delaunay _ is_constraint constraint_edges (λ ds. refl) _
    c.release_constraint.ensures.releases.legal
