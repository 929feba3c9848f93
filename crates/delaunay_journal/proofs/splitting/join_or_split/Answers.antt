use Rattle.std.proofs.Common.{◌∙◌, ap, arith}
use Rattle.delaunay_legalization.specs.{points_and_constraints_by}
use Rattle.delaunay_journal.proofs.Outcomes.{joined_last, unchanged, unchanged_then, without_last}
use Rattle.delaunay_journal.proofs.splitting.join_or_split.Goals as goal

pub returns-in-Added-clause-splits : goal.returns-in-Added-clause-splits
returns-in-Added-clause-splits g c = let ok = c.args.segments.now.ok in
    joined_last g.T.Vertex.HasPosition.place g.T.Constraints.ConstraintMarker.constraints _ _ _
    _ c.args.segment c.recall_invariant.ensures c.in-Added.ensures.gives c.requires.last.0 _ _
    c.requires.last.1 (c.pop.ensures.rest
    ∙ without_last _ _ _ c.args.segment (omega (arith, ok)) c.requires.last.1)

pub returns-in-Refused-Conflict-clause-splits : goal.returns-in-Refused-Conflict-clause-splits
returns-in-Refused-Conflict-clause-splits g c = unchanged_then _ _ _ _ _ _
    (ap (points_and_constraints_by g.T.Constraints.ConstraintMarker.constraints)
    c.in-Refused-Conflict.ensures.gives.1) c.split.ensures.splits

pub returns-in-Refused : goal.returns-in-Refused
returns-in-Refused g c = record {
  splits = unchanged g.T.Vertex.HasPosition.place g.T.Constraints.ConstraintMarker.constraints _
      _ _ _ c.in-Refused.ensures.gives.1;
  headline = c.in-Refused.ensures.headline;
}
