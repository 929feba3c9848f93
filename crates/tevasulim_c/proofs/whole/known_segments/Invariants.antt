use Rattle.tevasulim_c.specs.{EndsAtPoints, FirstAre}
use Rattle.tevasulim_c.proofs.whole.known_segments.Given as goal

abbrev pub invariant-loop-index : goal.invariant-loop-index
invariant-loop-index l = FirstAre (EndsAtPoints l.count) l.segments l.index
