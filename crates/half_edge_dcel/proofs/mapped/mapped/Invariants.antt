use Rattle.std.proofs.Common.{◌≡◌, vec_capacity}
use Rattle.std.specs.Vec.Iter.{into_iter_items}
use Rattle.half_edge_dcel.proofs.Turning.{MapsSoFar}
use Rattle.half_edge_dcel.proofs.mapped.mapped.Given as goal

abbrev pub invariant-loop-item : goal.invariant-loop-item
invariant-loop-item g l =
    (goal.iterator-loop-item g).can_next l.item-iterator
    × (goal.iterator-loop-item g).is_finite l.item-iterator
    × MapsSoFar (λ a b. goal.M-post g l.change a b) l.fn.items.items
    (into_iter_items l.item-iterator) l.into.items
    × (vec_capacity l.into ≡ vec_capacity l.initial.into)
