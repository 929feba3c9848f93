use Rattle.std.proofs.Common.{◌/◌, ℕ, ap}
use Rattle.delaunay_legalization.proofs.EdgeSets.{flags_resized}
use Rattle.delaunay_legalization.proofs.edge_set.EdgeSet.reserve.Goals as goal

pub invariant_of-self-2 : goal.invariant_of-self-2
invariant_of-self-2 c =
    rw c.reserve.ensures.items
    (flags_resized _ c.self.invariant c.reserve.ensures.capacity
    (ap (λ (z : ℕ). z / 64) c.capacity.ensures) c.self.inside.flags.ok.0 c.resize.ensures.items)
