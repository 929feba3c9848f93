use Rattle.std.proofs.Common.{◌≡◌, length}
use Rattle.std.specs.BinaryHeap.{heap_items}
use Rattle.{delaunay_legalization.proofs.IsGoingRound, half_edge_dcel.specs.out_edges_left}
use Rattle.delaunay_ways.proofs.Spreading.{HasLead, IsSpreading}
use Rattle.delaunay_ways.proofs.search.WaySearch.spread.Given as goal

abbrev pub invariant-loop-edge : goal.invariant-loop-edge
invariant-loop-edge g l =
    let free = g.G.FreeFaces.free l.free in
    (l.self.marks ≡ l.fn.self.marks) × (l.self.steps ≡ l.fn.self.steps)
    × IsSpreading g.V.HasPosition.place l.dcel free l.fn.vertex (length l.fn.self.steps.items)
    (heap_items l.fn.self.leads) (heap_items l.self.leads)
    × IsGoingRound l.dcel l.fn.vertex (HasLead l.dcel.mesh free (heap_items l.self.leads))
    (out_edges_left l.edge-iterator)
