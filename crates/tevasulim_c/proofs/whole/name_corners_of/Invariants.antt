use Rattle.{c_calls.specs.Answered, tevasulim_c.specs.IsNamedOf}
use Rattle.tevasulim_c.proofs.whole.name_corners_of.Given as goal

abbrev pub invariant-loop-index : goal.invariant-loop-index
invariant-loop-index l = Answered (IsNamedOf l.names l.fn.faces) l.index l.fn.faces l.faces
