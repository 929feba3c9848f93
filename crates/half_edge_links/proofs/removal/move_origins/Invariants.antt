use Rattle.std.proofs.Common.{◌≡◌, length}
use Rattle.{half_edge_links.proofs.Removing.VertexSound.HasWalked, half_edge_links.specs.shown}
use Rattle.half_edge_links.proofs.removal.move_origins.Given as goal

abbrev pub invariant-loop-i : goal.invariant-loop-i
invariant-loop-i l =
    HasWalked (shown l.fn.half_edges.items) (shown l.half_edges.items) l.first l.v l._i l.h
    × (l.half_edges.capacity ≡ l.fn.half_edges.capacity) × (l._i-end ≡ length l.fn.half_edges.items)
