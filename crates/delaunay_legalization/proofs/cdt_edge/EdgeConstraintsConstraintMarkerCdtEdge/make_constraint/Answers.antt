use Rattle.std.proofs.Common.{refl}
use Rattle.delaunay_legalization.proofs.cdt_edge.EdgeConstraintsConstraintMarkerCdtEdge.make_constraint.Goals as goal

pub returns : goal.returns
returns g c = refl
