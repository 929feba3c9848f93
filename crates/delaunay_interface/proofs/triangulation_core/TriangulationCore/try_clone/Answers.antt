use Rattle.delaunay_edit.proofs.Copies.{copied_as, copy_is_counted, same_constraints}
use Rattle.delaunay_edit.proofs.WellFormed.{is_delaunay}
use Rattle.delaunay_interface.proofs.Kept.{held_by_copy}
use Rattle.delaunay_interface.proofs.triangulation_core.TriangulationCore.try_clone.Goals as goal

pub invariant_of-result : goal.invariant_of-result
invariant_of-result g c =
    let places = rw (← c.self.view_is) at c.requires.places in
    let copied = c.in_ok-clone.ensures.cases in (
      copy_is_counted _ _ _ g.met.M.ConstraintMarker.constraints_are_marked _ _ _ _ _ _
          (copied_as _ _ _ _ _ _ copied) (rw (← c.self.view_is) at c.requires.marks) places _
          c.self.invariant.0,
      held_by_copy g.V.HasPosition.place _ c.self.inside.dcel.vertices
          c.in_ok-clone.field-0.vertices places copied.vertices _ _ c.self.invariant.1
          c.duplicate.ensures.holds,
    )

pub returns-clause-copy : goal.returns-clause-copy
returns-clause-copy g c =
    rw (← c.self.view_is) (copied_as _ _ _ _ _ _ c.in_ok-clone.ensures.cases)

pub returns-clause-constraints : goal.returns-clause-constraints
returns-clause-constraints g c =
    rw (← c.self.view_is) (same_constraints g.V.HasPosition.place _ _
    g.met.M.ConstraintMarker.constraints_are_marked _ _ _ _ _ _
    (copied_as _ _ _ _ _ _ c.in_ok-clone.ensures.cases)
    (rw (← c.self.view_is) at c.requires.marks))

pub returns-clause-headline : goal.returns-clause-headline
returns-clause-headline g c =
    let marked = g.met.M.ConstraintMarker.constraints_are_marked in
    is_delaunay _ _ _ marked _ (copy_is_counted _ _ _ marked _ _ _ _ _ _
    (copied_as _ _ _ _ _ _ c.in_ok-clone.ensures.cases) (rw (← c.self.view_is) at c.requires.marks)
    (rw (← c.self.view_is) at c.requires.places) _ c.self.invariant.0).legal
