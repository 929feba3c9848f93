use Rattle.std.proofs.Common.{refl}
use Rattle.delaunay_location.proofs.BothWays.{no_edges}
use Rattle.delaunay_location.proofs.nearest_walk.spoke_of.Goals as goal

pub returns-in_err-out_edge : goal.returns-in_err-out_edge
returns-in_err-out_edge g c =
    let read = rw (c.vertex.ensures.dcel, c.vertex.ensures.index) at c.in_err-out_edge.ensures in
    rw c.from_residual.ensures (λ h. no_edges read.whole.valid.sound (read.none.0 refl))
