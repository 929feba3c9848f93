use Rattle.std.proofs.Common.{◌≡◌, ◌++◌}
use Rattle.std.specs.Prelude.{reverse, vec_len}
use Rattle.delaunay_ways.proofs.short.put_behind.Given as goal

abbrev pub invariant-loop-vertex : goal.invariant-loop-vertex
invariant-loop-vertex l =
    l.done.items ++ reverse l.left.items ≡ l.fn.done.items ++ reverse l.fn.left.items

abbrev pub decreases-loop-vertex : goal.decreases-loop-vertex
decreases-loop-vertex l = vec_len l.left
