use Rattle.triangulate_run.proofs.Marks.{constraints_counted}
use Rattle.triangulate_run.proofs.engine.PointEngine.counts.Goals as goal

pub count_reply-requires-in-Constrained : goal.count_reply-requires-in-Constrained
count_reply-requires-in-Constrained g c =
    constraints_counted _ c.recall_invariant.ensures.kept _ c.num_constraints.ensures
