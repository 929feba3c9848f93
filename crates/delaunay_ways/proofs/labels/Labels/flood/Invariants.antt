use Rattle.std.proofs.Common.{◌≡◌, ◌+◌}
use Rattle.std.specs.Prelude.{Some}
use Rattle.delaunay_legalization.specs.{state_of, triangulation_of}
use Rattle.delaunay_shapes.specs.{by_place}
use Rattle.delaunay_ways.specs.{IsFlood, KeepsLabels, label_at, work_of}
use Rattle.delaunay_ways.proofs.labels.Labels.flood.Given as goal

abbrev pub invariant-loop-vertex : goal.invariant-loop-vertex
invariant-loop-vertex g l =
    (l.label ≡ l.fn.self.count) × (l.self.count ≡ l.label + 1)
    × IsFlood (triangulation_of g.V.HasPosition.place (state_of l.dcel))
    (by_place (g.G.FreeFaces.free l.free)) l.self.labels.items l.self.left.items (l.label + 1)
    × KeepsLabels l.fn.self.labels.items l.self.labels.items
    × (label_at l.self.labels.items l.fn.vertex ≡ Some l.label)

abbrev pub decreases-loop-vertex : goal.decreases-loop-vertex
decreases-loop-vertex g l = work_of l.self.labels.items l.self.left.items
