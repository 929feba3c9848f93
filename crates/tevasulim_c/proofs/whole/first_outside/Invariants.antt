use Rattle.{c_calls.specs.IsRawInRange, tevasulim_c.specs.FirstAre}
use Rattle.tevasulim_c.proofs.whole.first_outside.Given as goal

abbrev pub invariant-loop-index : goal.invariant-loop-index
invariant-loop-index l = FirstAre IsRawInRange l.points l.index
