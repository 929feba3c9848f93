use Rattle.std.proofs.Common.{length, vec_capacity}
use Rattle.delaunay_vertices.proofs.HullSides.{IsCollecting}
use Rattle.delaunay_vertices.proofs.removal_hull.collect_sides.Given as goal

abbrev pub invariant-loop-i : goal.invariant-loop-i
invariant-loop-i g l = IsCollecting l.dcel.mesh (length l.dcel.directed) (vec_capacity l.fn.sides)
    l.fn.first l.i l.edge l.sides
