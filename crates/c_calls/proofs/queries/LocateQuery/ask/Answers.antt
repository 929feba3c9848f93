use Rattle.std.proofs.Common.{pos, refl, arith}
use Rattle.c_calls.specs.{declared.raw.RawLocation.RawLocation, kept_place, Queries.IsLocationIn}
use Rattle.c_calls.specs.Written.{answered}
use Rattle.c_calls.proofs.Writing.{all_answered, answer_at, none_answered, one_more}
use Rattle.c_calls.proofs.queries.LocateQuery.ask.Goals as goal

pub loop-index-init : goal.loop-index-init
loop-index-init g c = none_answered _ c.args.locations.now

pub loop-index-preserved : goal.loop-index-preserved
loop-index-preserved g c =
    let room = c.loop-index.auto.locations in
    one_more _ c.loop-index.index c.args.locations.now c.loop-index.locations c.location_at.result
    (omega (arith, room)) c.loop-index.invariant
    (answer_at {A = RawLocation} c.args.self.now.queries.now
    (IsLocationIn kept_place (g.T.Triangulation.state c.args.points.now)) c.loop-index.index
    (record { x = pos 0; y = pos 0 }) c.location_at.result (omega arith) c.location_at.ensures)

pub returns : goal.returns
returns g c = answered refl (c.are_in_range.ensures.0 c.if-not-are_in_range.false)
    (all_answered _ c.loop-index.index _ c.args.locations.now c.loop-index.locations (omega arith)
    c.loop-index.invariant)
