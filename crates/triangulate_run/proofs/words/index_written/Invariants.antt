use Rattle.triangulate_run.proofs.Digits.{IsRead}
use Rattle.triangulate_run.proofs.words.index_written.Given as goal

abbrev pub invariant-loop-digit : goal.invariant-loop-digit
invariant-loop-digit l = IsRead l.word l.digit-index l.number
