use Rattle.std.proofs.Common.{◌-◌}
use Rattle.half_edge_dcel.proofs.TurnedEdge.{HasTurned}
use Rattle.half_edge_dcel.proofs.dcel.Dcel.fill_hole.Given as goal

abbrev pub invariant-loop : goal.invariant-loop
invariant-loop g l = HasTurned l.fn.self l.self l.first l.count (l.counter - 3)
