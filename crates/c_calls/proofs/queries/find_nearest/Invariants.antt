use Rattle.c_calls.specs.{Answered, IsAnswerAt, kept_place, Queries.IsNearestAnswer}
use Rattle.c_calls.proofs.queries.find_nearest.Given as goal

abbrev pub invariant-loop-index : goal.invariant-loop-index
invariant-loop-index l =
    Answered (IsAnswerAt l.queries (IsNearestAnswer kept_place l.points)) l.index l.fn.vertices
    l.vertices
