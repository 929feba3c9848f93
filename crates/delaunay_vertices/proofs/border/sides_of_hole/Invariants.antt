use Rattle.std.proofs.Common.{length}
use Rattle.delaunay_vertices.proofs.Borders.{IsGathering}
use Rattle.delaunay_vertices.proofs.border.sides_of_hole.Given as goal

abbrev pub invariant-loop-i : goal.invariant-loop-i
invariant-loop-i g l =
    IsGathering l.dcel.mesh (length l.dcel.directed) l.initial.edge l.count l.i l.edge l.border
