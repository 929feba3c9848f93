use Rattle.std.proofs.Common.{map}
use Rattle.c_calls.specs.{Answered, Queries.IsElementAt, Queries.raw_position}
use Rattle.c_calls.proofs.lists.ListPositionsQuery.ask.Given as goal

abbrev pub invariant-loop-index : goal.invariant-loop-index
invariant-loop-index g l =
    let vertices = (g.T.Triangulation.state l.points).vertices in
    Answered (IsElementAt (map raw_position vertices)) l.index l.fn.positions l.positions
