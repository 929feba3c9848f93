use Rattle.std.proofs.Common.{arith}
use Rattle.delaunay_legalization.proofs.EdgeSets.{test_tells}
use Rattle.delaunay_legalization.proofs.edge_set.EdgeSet.contains.Goals as goal

pub returns-then-index-len : goal.returns-then-index-len
returns-then-index-len c =
    let inside = c.if-index-len.true in
    let len = c.len.ensures in
    let is = c.index-index.ensures.value in
    rw (← c.self.view_is) (test_tells c.self.invariant is (omega (arith, inside, len, is))
    c.index.ensures)
