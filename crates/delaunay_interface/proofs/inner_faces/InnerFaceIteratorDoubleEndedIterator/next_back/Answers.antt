use Rattle.std.proofs.Common.{◌<◌, ◌≤◌, length}
use Rattle.half_edge_dcel.proofs.Taken.{front_holds}
use Rattle.delaunay_interface.proofs.inner_faces.InnerFaceIteratorDoubleEndedIterator.next_back.Goals as goal

pub invariant_of-self : goal.invariant_of-self
invariant_of-self g c =
    let it = c.args.self.now in
    let kept = front_holds
    (λ i. (0 < i) × (i ≤ length it.dcel.now.faces)) _ _ _ c.next_back.ensures.steps it.inner in
    record { inner = kept }
