use Rattle.std.proofs.Common.{length}
use Rattle.delaunay_vertices.proofs.BothRounds.{AreLooking}
use Rattle.delaunay_vertices.proofs.joining_edge.find_edge_between.Given as goal

abbrev pub invariant-loop-i : goal.invariant-loop-i
invariant-loop-i g l =
    AreLooking l.dcel.mesh (length l.dcel.directed) l.fn.from l.first l.fn.to l.second l.i
    l.forward l.backward
