use Rattle.delaunay_edit.proofs.WellFormed.{well_formed}
use Rattle.delaunay_interface.proofs.triangulation_core.TriangulationCore.recall_well_formed.Goals as goal

pub returns : goal.returns
returns g c =
    rw (← c.self.view_is) (well_formed _ _ _ g.met.M.ConstraintMarker.constraints_are_marked _
    c.self.invariant.0.legal c.recall_invariant.ensures.few_vertices)
