use Rattle.half_edge_dcel.proofs.StripSteps.{IsStripped}
use Rattle.half_edge_dcel.proofs.dcel.Dcel.disconnect.Given as goal

abbrev pub invariant-loop : goal.invariant-loop
invariant-loop g l = IsStripped l.fn.self l.first l.count l.self l.h l.counter
