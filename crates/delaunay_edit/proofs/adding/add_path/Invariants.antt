use Rattle.std.proofs.Common.{map}
use Rattle.std.specs.Prelude.{nat_abs}
use Rattle.plane_theorems.specs.{crossing_sum, point_of}
use Rattle.{delaunay_legalization.specs.faces_of, plane.specs.squared_vector}
use Rattle.delaunay_edit.proofs.{AddingSubconstraints.IsAddingSubconstraints, Making.IsMaking}
use Rattle.delaunay_edit.proofs.adding.add_path.Given as goal

abbrev pub invariant-loop-next : goal.invariant-loop-next
invariant-loop-next g l = IsAddingSubconstraints g.M.ConstraintMarker.marks
    g.M.ConstraintMarker.constraints
    g.met.M.ConstraintMarker.constraints_are_marked g.V.HasPosition.place
    g.M.ConstraintMarker.marked l.fn.dcel l.dcel l.fn.from l.fn.to l.at l.fn.work.items l.work.items
    l.fn.work.room l.work.room l.fn.lists l.lists

abbrev pub decreases-loop-next : goal.decreases-loop-next
decreases-loop-next g l =
    nat_abs (squared_vector (point_of (map g.V.HasPosition.place l.fn.dcel.vertices) l.at)
    (point_of (map g.V.HasPosition.place l.fn.dcel.vertices) l.fn.to))

abbrev pub invariant-loop-edge : goal.invariant-loop-edge
invariant-loop-edge g l = IsMaking g.V.HasPosition.place l.initial.dcel l.dcel l.at l.next
    l.initial.work.items l.work.items l.initial.work.room l.work.room l.initial.lists l.lists

abbrev pub decreases-loop-edge : goal.decreases-loop-edge
decreases-loop-edge g l =
    crossing_sum (map g.V.HasPosition.place l.dcel.vertices) (faces_of l.dcel.mesh) l.at l.next
