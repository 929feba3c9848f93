use Rattle.drawing_faces.proofs.Firsts.{AreFirstsFrom}
use Rattle.drawing_faces.proofs.names.first_indexes.Given as goal

abbrev pub invariant-loop-index : goal.invariant-loop-index
invariant-loop-index l = AreFirstsFrom l.index l.fn.count l.vertices l.firsts.items

abbrev pub decreases-loop-index : goal.decreases-loop-index
decreases-loop-index l = l.index
