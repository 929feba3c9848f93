use Rattle.delaunay_vertices.proofs.FreedEdges.{IsFreeing}
use Rattle.delaunay_vertices.proofs.freeing.free_edges_at.Given as goal

abbrev pub invariant-loop-i : goal.invariant-loop-i
invariant-loop-i g l =
    IsFreeing g.M.ConstraintMarker.marks l.fn.dcel l.initial.edge l.dcel l.i l.edge
