use Rattle.std.proofs.Common.{◌+◌, ◌≤◌, length}
use Rattle.std.specs.Prelude.{vec_capacity}
use Rattle.std.specs.Vec.Iter.{into_iter_items}
use Rattle.delaunay_extensions.proofs.Placing.{AreKeyed}
use Rattle.delaunay_extensions.proofs.order.along_curve.Given as goal

abbrev pub invariant-loop-vertex : goal.invariant-loop-vertex
invariant-loop-vertex g l =
    (goal.iterator-loop-vertex g).can_next l.vertex-iterator
    × (goal.iterator-loop-vertex g).is_finite l.vertex-iterator
    × AreKeyed g.V.HasPosition.place l.is_line (into_iter_items l.initial.vertex-iterator)
    (into_iter_items l.vertex-iterator) l.keyed.items
    × (length l.keyed.items + length (into_iter_items l.vertex-iterator) ≤ vec_capacity l.keyed)
