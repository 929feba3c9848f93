use Rattle.std.proofs.Common.{◌≡◌, length}
use Rattle.delaunay_legalization.proofs.edge_set.EdgeSet.clear.Given as goal

abbrev pub invariant-edges : goal.invariant-edges
invariant-edges l = l.self.room ≡ l.fn.self.room

abbrev pub decreases-edges : goal.decreases-edges
decreases-edges l = length l.self.items
