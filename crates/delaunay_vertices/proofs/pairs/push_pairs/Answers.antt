use Rattle.delaunay_vertices.proofs.PairEdges.{listing_begins, listing_ends, listing_goes_on}
use Rattle.delaunay_vertices.proofs.pairs.push_pairs.Goals as goal

pub loop-i-init : goal.loop-i-init
loop-i-init g c = listing_begins c.requires.edges

pub loop-i-preserved : goal.loop-i-preserved
loop-i-preserved g c =
    let pushed = c.push_between.ensures in
    listing_goes_on c.loop-i.invariant c.loop-i-test.true c.index-pairs-i.is pushed.kept
    (rw (c.index_left-from.ensures, c.index_left-to.ensures) at pushed.there) pushed.edges
    pushed.capacity

pub returns-clause-there : goal.returns-clause-there
returns-clause-there g c = listing_ends c.loop-i.invariant
    c.recall_invariant.ensures.whole.valid.sound c.loop-i-test.false
