use Rattle.delaunay_journal.proofs.SingleEdits.{pair_refused}
use Rattle.delaunay_journal.proofs.replayable.DelaunayTriangulationReplayable.change_pair.Goals as goal

pub returns-clause-gives : goal.returns-clause-gives
returns-clause-gives g c = pair_refused _ _ _ c.args._edit
