use Rattle.std.proofs.Common.{◌<◌, length}
use Rattle.half_edge_dcel.proofs.Taken.{front_holds}
use Rattle.half_edge_dcel.proofs.iterators.DirectedEdgeIteratorDoubleEndedIterator.next_back.Goals as goal

pub invariant_of-self : goal.invariant_of-self
invariant_of-self g c =
    let it = c.args.self.now in
    let kept = front_holds
    (λ i. i < length it.dcel.now.directed) _ _ _ c.next_back.ensures.steps it.in_range in
    record { in_range = kept }
