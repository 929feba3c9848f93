use Rattle.std.proofs.Common.{arith}
use Rattle.std.proofs.lemmas.List.{length-set}
use Rattle.delaunay_legalization.proofs.Bits.{one_bit_less}
use Rattle.delaunay_legalization.proofs.EdgeSets.{last_within, one_flagged_less}
use Rattle.delaunay_legalization.proofs.edge_set.EdgeSet.pop.Goals as goal

pub index-word-requires : goal.index-word-requires
index-word-requires c =
    let within = last_within _ _ c.self.invariant c.in_ok-edge.ensures.items in
    let is = c.index-index.ensures.value in
    omega (arith, within, is)

pub index_mut-requires : goal.index_mut-requires
index_mut-requires c =
    let within = last_within _ _ c.self.invariant c.in_ok-edge.ensures.items in
    let is = c.index-index.ensures.value in
    omega (arith, within, is)

pub invariant_of-self-2 : goal.invariant_of-self-2
invariant_of-self-2 c =
    let within = last_within _ _ c.self.invariant c.in_ok-edge.ensures.items in
    let is = c.index-index.ensures.value in
    rw c.pop.ensures.capacity
    (one_flagged_less _ _ c.self.invariant c.in_ok-edge.ensures.items (rw (← is)
    (one_bit_less _ _ (omega (arith, within, is)) c.index-word.ensures)) (length-set _ _ _))
