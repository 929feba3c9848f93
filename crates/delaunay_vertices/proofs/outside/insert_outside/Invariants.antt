use Rattle.std.proofs.Common.{length}
use Rattle.delaunay_legalization.specs.{outer_of}
use Rattle.delaunay_vertices.proofs.Joining.{IsJoining, IsJoiningBack}
use Rattle.delaunay_vertices.proofs.outside.insert_outside.Given as goal

abbrev pub invariant-loop-ahead : goal.invariant-loop-ahead
invariant-loop-ahead g l = IsJoining g.V.HasPosition.place g.UE.Default.is_default l.fn.dcel l.dcel
    l.fn.value l.vertex l.ahead l.behind

abbrev pub decreases-loop-ahead : goal.decreases-loop-ahead
decreases-loop-ahead g l = length (outer_of l.dcel.mesh)

abbrev pub invariant-loop-position : goal.invariant-loop-position
invariant-loop-position g l = IsJoiningBack g.V.HasPosition.place g.UE.Default.is_default l.fn.dcel
    l.dcel l.fn.value l.vertex l.before

abbrev pub decreases-loop-position : goal.decreases-loop-position
decreases-loop-position g l = length (outer_of l.dcel.mesh)
