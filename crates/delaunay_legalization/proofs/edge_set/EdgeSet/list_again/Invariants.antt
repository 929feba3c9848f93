use Rattle.delaunay_legalization.proofs.AmongSides.{IsListingAgain}
use Rattle.delaunay_legalization.proofs.edge_set.EdgeSet.list_again.Given as goal

abbrev pub invariant-loop-i : goal.invariant-loop-i
invariant-loop-i l =
    IsListingAgain l.edges l.i l.self.items l.fn.self.room l.self.room
