use Rattle.std.proofs.Common.{◌≡◌}
use Rattle.std.specs.BinaryHeap.{heap_items, heap_len}
use Rattle.delaunay_ways.proofs.Searching.{Passes}
use Rattle.delaunay_ways.proofs.search.WaySearch.next.Given as goal

abbrev pub invariant-loop-lead : goal.invariant-loop-lead
invariant-loop-lead l =
    (l.self.marks ≡ l.fn.self.marks) × (l.self.steps ≡ l.fn.self.steps)
    × Passes l.fn.self.marks.items (heap_items l.fn.self.leads) (heap_items l.self.leads)

abbrev pub decreases-loop-lead : goal.decreases-loop-lead
decreases-loop-lead l = heap_len l.self.leads
