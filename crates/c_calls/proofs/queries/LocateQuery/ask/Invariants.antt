use Rattle.c_calls.specs.{Answered, IsAnswerAt, kept_place, Queries.IsLocationIn}
use Rattle.c_calls.proofs.queries.LocateQuery.ask.Given as goal

abbrev pub invariant-loop-index : goal.invariant-loop-index
invariant-loop-index g l = Answered
    (IsAnswerAt l.queries (IsLocationIn kept_place (g.T.Triangulation.state l.points))) l.index
    l.fn.locations l.locations
