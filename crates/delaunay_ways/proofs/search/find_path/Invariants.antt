use Rattle.std.specs.BinaryHeap.{heap_items}
use Rattle.delaunay_legalization.specs.{state_of, triangulation_of}
use Rattle.delaunay_shapes.specs.{by_place}
use Rattle.{delaunay_ways.specs.count_unmarked, delaunay_ways.specs.Search.IsSearch}
use Rattle.delaunay_ways.proofs.search.find_path.Given as goal

abbrev pub invariant-loop-lead : goal.invariant-loop-lead
invariant-loop-lead g l = IsSearch (triangulation_of g.V.HasPosition.place (state_of l.dcel))
    (by_place (g.G.FreeFaces.free l.free)) l.first l.last l.search.marks.items
    l.search.steps.items (heap_items l.search.leads)

abbrev pub decreases-loop-lead : goal.decreases-loop-lead
decreases-loop-lead g l = count_unmarked l.search.marks.items
