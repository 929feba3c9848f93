use Rattle.std.proofs.Common.{length}
use Rattle.delaunay_vertices.proofs.PairEdges.{IsListing}
use Rattle.delaunay_vertices.proofs.pairs.push_pairs.Given as goal

abbrev pub invariant-loop-i : goal.invariant-loop-i
invariant-loop-i g l =
    IsListing l.dcel.mesh (length l.dcel.vertices) l.fn.vertex l.pairs l.fn.work.items l.i
    l.work.items l.fn.work.room l.work.room
