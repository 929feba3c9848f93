use Rattle.std.proofs.Common.{◌-◌, length}
use Rattle.delaunay_vertices.proofs.Rounds.{IsCounting}
use Rattle.delaunay_vertices.proofs.star.count_edges.Given as goal

abbrev pub invariant-loop-first : goal.invariant-loop-first
invariant-loop-first g l = IsCounting l.dcel.mesh (length l.dcel.directed) l.first l.count l.edge

abbrev pub decreases-loop-first : goal.decreases-loop-first
decreases-loop-first g l = length l.dcel.directed - l.count
