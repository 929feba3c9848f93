use Rattle.std.proofs.Common.{◌≡◌, [], length, false}
use Rattle.std.specs.Prelude.{replicate}
use Rattle.std.specs.BinaryHeap.{heap_items}
use Rattle.delaunay_ways.specs.{Begins}
use Rattle.delaunay_ways.proofs.search.begin.Given as goal

abbrev pub invariant-loop-vertex : goal.invariant-loop-vertex
invariant-loop-vertex g l =
    (l.search.marks.items ≡ replicate (length l.dcel.vertices) false)
    × (l.search.steps.items ≡ []) × Begins l.last l.vertex-index (heap_items l.search.leads)
