use Rattle.std.proofs.Common.{ap, sym, subst}
use Rattle.delaunay_edit.specs.{constraint_edges, none}
use Rattle.triangulate_run.specs.{Fits, stage_of}
use Rattle.triangulate_run.proofs.Stages.{fits}
use Rattle.triangulate_run.proofs.engine.PointEngine.recall_invariant.Goals as goal

pub returns-in-Plain : goal.returns-in-Plain
returns-in-Plain g c = subst Fits (ap stage_of (sym c.in-Plain.is))
    (fits none c.in-Plain.it c.recall_invariant.ensures)

pub returns-in-Constrained : goal.returns-in-Constrained
returns-in-Constrained g c = subst Fits (ap stage_of (sym c.in-Constrained.is))
    (fits constraint_edges c.in-Constrained.it c.recall_invariant-in-Constrained.ensures)
