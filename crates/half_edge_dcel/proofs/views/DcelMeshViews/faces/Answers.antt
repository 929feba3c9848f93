use Rattle.std.proofs.Common.{◌+◌, length, arith}
use Rattle.half_edge_dcel.proofs.Taken.{row_below}
use Rattle.half_edge_dcel.proofs.views.DcelMeshViews.faces.Goals as goal

pub invariant_of-result : goal.invariant_of-result
invariant_of-result g c =
    let all =
    row_below 0 _ (length c.args.self.now.faces + 1) _ c.fixed_faces.ensures (omega arith) in
    record { in_range = λ k d lt. omega (arith, all k d lt) }
