use Rattle.std.proofs.Common.{◌≡◌, [], length}
use Rattle.delaunay_legalization.specs.{state_of, triangulation_of}
use Rattle.{delaunay_shapes.specs.by_place, delaunay_ways.proofs.Labelled.IsLabelling}
use Rattle.delaunay_ways.proofs.parts.reachable.Given as goal

abbrev pub invariant-loop-index : goal.invariant-loop-index
invariant-loop-index g l =
    IsLabelling (triangulation_of g.V.HasPosition.place (state_of l.dcel))
    (by_place (g.G.FreeFaces.free l.free)) l.labels.labels.items l.parts.items l.labels.count
    × (length l.parts.items ≡ l.index) × (l.labels.left.items ≡ [])
