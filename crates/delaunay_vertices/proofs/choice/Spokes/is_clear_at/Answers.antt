use Rattle.std.proofs.Common.{refl}
use Rattle.delaunay_vertices.proofs.Convex.{convex_read}
use Rattle.delaunay_vertices.proofs.choice.Spokes.is_clear_at.Goals as goal

pub is_in_circle-requires-clause-left_turn : goal.is_in_circle-requires-clause-left_turn
is_in_circle-requires-clause-left_turn g c =
    ((convex_read c.self.invariant c.args.edge _ _ _ _ _ _ c.ccw_edge-second.ensures.value
    c.ccw_edge-third.ensures.value refl c.end_of-before.ensures.place c.end_of-corner.ensures.place
    c.end_of-after.ensures.place).0 (rw (← c.self.view_is) at c.requires.convex)).0
