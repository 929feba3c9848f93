use Rattle.std.proofs.Common.{subst}
use Rattle.delaunay_legalization.specs.{constraints_by, points_and_constraints_by}
use Rattle.delaunay_journal.proofs.SplitSteps.{splits_none}
use Rattle.drawing_faces.specs.{AreLed, IsAnyPoint, position}
use Rattle.drawing_faces.proofs.splits.split_segments.Goals as goal

pub returns-then-not-all_end_at_vertices-clause-splits :
    goal.returns-then-not-all_end_at_vertices-clause-splits
returns-then-not-all_end_at_vertices-clause-splits g c =
    splits_none position IsAnyPoint
    (points_and_constraints_by g.T.Constraints.ConstraintMarker.constraints
    (g.T.Triangulation.state c.args.triangulation.now)) c.args.segments.now.items

pub returns-in-Ok-clause-leads : goal.returns-in-Ok-clause-leads
returns-in-Ok-clause-leads g c =
    subst (λ xs. AreLed (constraints_by g.T.Constraints.ConstraintMarker.constraints
    (g.T.Triangulation.state c.lead_all.new.triangulation)) xs c.lead_all.new.leads.items)
    c.in-Ok.ensures.all c.in-Ok.ensures.leads
