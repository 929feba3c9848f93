use Rattle.{c_calls.specs.Answered, c_calls.specs.Wide.IsFlagOf}
use Rattle.c_calls.proofs.wide.write_flags.Given as goal

abbrev pub invariant-loop-index : goal.invariant-loop-index
invariant-loop-index l = Answered (IsFlagOf l.wide) l.index l.fn.flags l.flags
