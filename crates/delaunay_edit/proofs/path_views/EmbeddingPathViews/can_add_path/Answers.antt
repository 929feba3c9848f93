use Rattle.std.proofs.Common.{ℕ, ◌<◌, ap, refl, subst}
use Rattle.delaunay_legalization.specs.{state_of}
use Rattle.delaunay_edit.proofs.{InTheWay.first_decides, JoinedPairs.index_found}
use Rattle.delaunay_edit.proofs.OneSubconstraint.{found, joined_is_free}
use Rattle.delaunay_edit.proofs.path_views.EmbeddingPathViews.can_add_path.Goals as goal

pub returns-then-is_some : goal.returns-then-is_some
returns-then-is_some g c =
    let kept = c.self.invariant.kept in
    let edge = found _ _ _ c.is_some.ensures c.if-is_some.true
    c.get_edge_from_neighbors.ensures.some in
    let at = index_found edge.1 refl edge.0.in_range in
    rw (← c.self.view_is) (
      (λ t. joined_is_free g.V.HasPosition.place (state_of c.self.inside.dcel.now) kept _
          (subst (λ (n : ℕ). edge.0.index < n) kept.fits.directed_fit at.0)
          g.M.ConstraintMarker.marks _ g.met.M.ConstraintMarker.constraints_are_marked _ _ at.1
          at.2),
      (λ free. refl),
    )

pub returns : goal.returns
returns g c =
    let conflicts = c.between_vertices-conflicts.ensures in
    first_decides g.V.HasPosition.place g.M.ConstraintMarker.marks _
    g.met.M.ConstraintMarker.constraints_are_marked c.args.self.now.dcel
    (rw (ap (λ s. s.dcel) c.self.view_is) at c.self.invariant.kept) _ _ c.requires.from_in
    c.requires.to_in _ _ _ _ _ conflicts.ready conflicts.line _ _ c.is_none.ensures
    c.next.ensures.steps.0
