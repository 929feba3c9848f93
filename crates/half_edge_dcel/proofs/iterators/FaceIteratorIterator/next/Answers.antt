use Rattle.std.proofs.Common.{◌≤◌, length, rules}
use Rattle.half_edge_dcel.proofs.Taken.{rest_holds}
use Rattle.half_edge_dcel.proofs.iterators.FaceIteratorIterator.next.Goals as goal

pub invariant_of-self : goal.invariant_of-self
invariant_of-self g c =
    let it = c.args.self.now in
    let kept =
    rest_holds (λ i. i ≤ length it.dcel.now.faces) _ _ _ c.next.ensures.steps it.in_range in
    record { in_range = kept }

pub returns-in_err-face-clause-steps : goal.returns-in_err-face-clause-steps
returns-in_err-face-clause-steps g c = search rules
