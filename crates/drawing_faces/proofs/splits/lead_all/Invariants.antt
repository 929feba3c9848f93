use Rattle.delaunay_legalization.specs.{constraints_by, points_and_constraints_by}
use Rattle.{delaunay_edit.specs.IsDelaunay, delaunay_journal.specs.Splits.Splits}
use Rattle.drawing_faces.specs.{AreLed, IsAnyPoint, position}
use Rattle.drawing_faces.proofs.splits.lead_all.Given as goal

abbrev pub invariant-loop : goal.invariant-loop
invariant-loop g l = record {
  splits : Splits IsAnyPoint
      (points_and_constraints_by g.T.Constraints.ConstraintMarker.constraints
      (g.T.Triangulation.state l.fn.triangulation))
      (points_and_constraints_by g.T.Constraints.ConstraintMarker.constraints
      (g.T.Triangulation.state l.triangulation)) l.fn.segments.items l.segments.items;
  leads : AreLed (constraints_by g.T.Constraints.ConstraintMarker.constraints
      (g.T.Triangulation.state l.triangulation)) l.segments.items l.leads.items;
  headline : IsDelaunay position g.T.Constraints.ConstraintMarker.constraints
      (g.T.Triangulation.state l.triangulation);
}
