use Rattle.{c_calls.specs.Answered, c_calls.specs.Reach.IsLabelAt}
use Rattle.c_calls.proofs.reach.write_labels.Given as goal

abbrev pub invariant-loop-index : goal.invariant-loop-index
invariant-loop-index l = Answered (IsLabelAt l.found) l.index l.fn.labels l.labels
