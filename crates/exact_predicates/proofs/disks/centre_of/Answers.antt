use Rattle.exact_predicates.proofs.Widths.{twice_bound, twice_of}
use Rattle.exact_predicates.proofs.disks.centre_of.Goals as goal

pub returns-clause-scale : goal.returns-clause-scale
returns-clause-scale g c = twice_of c.turn_at.ensures.bound c.turn_at.ensures.value

pub returns-clause-scale_bound : goal.returns-clause-scale_bound
returns-clause-scale_bound g c = twice_bound c.turn_at.result c.turn_at.ensures.bound
