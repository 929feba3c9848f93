use Rattle.std.specs.Prelude.{IsTrue}
use Rattle.tevasulim_c.specs.{FirstAre}
use Rattle.tevasulim_c.proofs.whole.first_left_out.Given as goal

abbrev pub invariant-loop-index : goal.invariant-loop-index
invariant-loop-index l = FirstAre IsTrue l.added l.index
