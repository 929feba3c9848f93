use Rattle.std.proofs.Common.{◌<◌, length, take}
use Rattle.std.specs.Prelude.{All}
use Rattle.c_calls.proofs.list_edits.are_vertices.Given as goal

abbrev pub invariant-loop-index : goal.invariant-loop-index
invariant-loop-index g l =
    All (λ i. i < length (g.T.Triangulation.state l.points).vertices) (take l.index l.indexes)
