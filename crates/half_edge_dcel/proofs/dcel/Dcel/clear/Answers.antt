use Rattle.std.proofs.Common.{rules}
use Rattle.half_edge_dcel.proofs.dcel.Dcel.clear.Goals as goal

pub invariant_of-self : goal.invariant_of-self
invariant_of-self g c = search rules

pub returns : goal.returns
returns g c = search rules
