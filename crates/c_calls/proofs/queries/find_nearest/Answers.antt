use Rattle.std.proofs.Common.{ℕ, pos, refl, arith}
use Rattle.c_calls.specs.{kept_place, Queries.IsNearestAnswer, Written.answered}
use Rattle.c_calls.proofs.Writing.{all_answered, answer_at, none_answered, one_more}
use Rattle.c_calls.proofs.queries.find_nearest.Goals as goal

pub loop-index-init : goal.loop-index-init
loop-index-init c = none_answered _ c.args.vertices.now

pub loop-index-preserved : goal.loop-index-preserved
loop-index-preserved c =
    let room = c.loop-index.auto.vertices in
    one_more _ c.loop-index.index c.args.vertices.now c.loop-index.vertices c.nearest_at.result
    (omega (arith, room)) c.loop-index.invariant
    (answer_at {A = ℕ} c.args.queries.now (IsNearestAnswer kept_place c.args.points.now)
    c.loop-index.index (record { x = pos 0; y = pos 0 }) c.nearest_at.result (omega arith)
    c.nearest_at.ensures)

pub returns : goal.returns
returns c = answered refl (c.are_in_range.ensures.0 c.if-not-are_in_range.false)
    (all_answered _ c.loop-index.index _ c.args.vertices.now c.loop-index.vertices (omega arith)
    c.loop-index.invariant)
