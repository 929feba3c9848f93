use Rattle.std.proofs.Common.{sym, ap}
use Rattle.c_calls.specs.Reach.{raw_label}
use Rattle.c_calls.proofs.reach.raw_label.Goals as goal

pub returns-in-Some : goal.returns-in-Some
returns-in-Some c = sym (ap raw_label c.in-Some.is)

pub returns-in-None : goal.returns-in-None
returns-in-None c = sym (ap raw_label c.in-None.is)
