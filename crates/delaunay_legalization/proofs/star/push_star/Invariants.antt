use Rattle.{delaunay_legalization.proofs.Pushing.IsPushing, half_edge_dcel.specs.out_edges_left}
use Rattle.delaunay_legalization.proofs.star.push_star.Given as goal

abbrev pub invariant-loop-edge : goal.invariant-loop-edge
invariant-loop-edge g l =
    IsPushing l.dcel l.fn.vertex (out_edges_left l.edge-iterator) l.work.items l.fn.work.room
    l.work.room
