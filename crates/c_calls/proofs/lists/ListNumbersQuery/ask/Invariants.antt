use Rattle.std.proofs.Common.{map}
use Rattle.c_calls.specs.{Answered, Queries.IsElementAt, Queries.number_of}
use Rattle.c_calls.proofs.lists.ListNumbersQuery.ask.Given as goal

abbrev pub invariant-loop-index : goal.invariant-loop-index
invariant-loop-index g l =
    let vertices = (g.T.Triangulation.state l.points).vertices in
    Answered (IsElementAt (map number_of vertices)) l.index l.fn.numbers l.numbers
