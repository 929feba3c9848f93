use Rattle.std.proofs.Common.{take}
use Rattle.c_calls.specs.{GivesNumbers}
use Rattle.c_calls.proofs.list_edits.set_numbers.Given as goal

abbrev pub invariant-loop-index : goal.invariant-loop-index
invariant-loop-index g l =
    GivesNumbers (take l.index l.vertices) (take l.index l.numbers)
    (g.T.Triangulation.state l.fn.points) (g.T.Triangulation.state l.points)
