use Rattle.std.proofs.Common.{◌<◌, ◌≤◌, length}
use Rattle.half_edge_dcel.proofs.Taken.{rest_holds}
use Rattle.delaunay_interface.proofs.inner_faces.InnerFaceIteratorIterator.next.Goals as goal

pub invariant_of-self : goal.invariant_of-self
invariant_of-self g c =
    let it = c.args.self.now in
    let kept = rest_holds
    (λ i. (0 < i) × (i ≤ length it.dcel.now.faces)) _ _ _ c.next.ensures.steps it.inner in
    record { inner = kept }
