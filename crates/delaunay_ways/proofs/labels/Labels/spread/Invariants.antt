use Rattle.std.proofs.Common.{◌≡◌, ◌+◌, ◌≤◌, ◌∷◌}
use Rattle.delaunay_legalization.specs.{state_of, triangulation_of}
use Rattle.{delaunay_legalization.proofs.IsGoingRound, delaunay_ways.proofs.LabelRounds.HasLabel}
use Rattle.{delaunay_shapes.specs.by_place, half_edge_dcel.specs.out_edges_left}
use Rattle.delaunay_ways.specs.{IsFlood, KeepsLabels, work_of}
use Rattle.delaunay_ways.proofs.labels.Labels.spread.Given as goal

abbrev pub invariant-loop-edge : goal.invariant-loop-edge
invariant-loop-edge g l =
    let free = g.G.FreeFaces.free l.free in
    (l.self.count ≡ l.fn.self.count)
    × IsFlood (triangulation_of g.V.HasPosition.place (state_of l.dcel)) (by_place free)
    l.self.labels.items (l.fn.vertex ∷ l.self.left.items) (l.fn.label + 1)
    × KeepsLabels l.fn.self.labels.items l.self.labels.items
    × (work_of l.self.labels.items l.self.left.items
    ≤ work_of l.fn.self.labels.items l.fn.self.left.items)
    × IsGoingRound l.dcel l.fn.vertex
    (HasLabel l.dcel.mesh free l.self.labels.items l.fn.label) (out_edges_left l.edge-iterator)
