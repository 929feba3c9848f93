use Rattle.std.proofs.Common.{ℕ, ◌<◌, get_or}
use Rattle.c_calls.specs.{IsRawInRange, RawPoint}
use Rattle.c_calls.proofs.queries.are_in_range.Given as goal

abbrev pub invariant-loop-point : goal.invariant-loop-point
invariant-loop-point l =
    (k : ℕ) → k < l.point-index → (d : RawPoint) → IsRawInRange (get_or l.points k d)
