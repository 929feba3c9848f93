use Rattle.std.proofs.Common.{sym}
use Rattle.delaunay_legalization.proofs.AmongSides.{listing_begins, listing_ends, listing_goes_on}
use Rattle.delaunay_legalization.proofs.edge_set.EdgeSet.list_again.Goals as goal

pub loop-i-init : goal.loop-i-init
loop-i-init c = listing_begins c.clear.ensures.room

pub put-requires : goal.put-requires
put-requires c =
    rw c.loop-i.invariant.room_stays (c.requires c.index-edges-i.result
    (rw (← c.other.view_is, ← c.as_slice-edges.ensures.value)
    (c.loop-i.i, c.loop-i-test.true, sym c.index-edges-i.is)))

pub loop-i-preserved : goal.loop-i-preserved
loop-i-preserved c = listing_goes_on c.loop-i.invariant c.loop-i-test.true c.index-edges-i.is
    c.put.ensures.gains c.put.ensures.room

pub returns : goal.returns
returns c k l = listing_ends c.loop-i.invariant c.loop-i-test.false k
    (rw c.as_slice-edges.ensures.value (rw (← c.other.view_is) at l))
