use Rattle.std.proofs.Common.{◌≡◌, vec_capacity}
use Rattle.half_edge_dcel.specs.{Grows}
use Rattle.half_edge_dcel.proofs.growth.push_defaults.Given as goal

abbrev pub invariant-loop : goal.invariant-loop
invariant-loop g l = record {
  grows : Grows g.T.Default.is_default l.initial.items.items l.items.items l.counter;
  capacity : vec_capacity l.items ≡ vec_capacity l.initial.items;
}
