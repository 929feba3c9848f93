use Rattle.std.proofs.Common.{refl, arith}
use Rattle.c_calls.specs.{listed}
use Rattle.c_calls.proofs.Writing.{all_answered, none_answered, one_more}
use Rattle.c_calls.proofs.lists.ListPositionsQuery.ask.Goals as goal

pub loop-index-init : goal.loop-index-init
loop-index-init g c = none_answered _ c.args.positions.now

pub loop-index-preserved : goal.loop-index-preserved
loop-index-preserved g c =
    let room = c.loop-index.auto.positions in
    one_more _ c.loop-index.index c.args.positions.now c.loop-index.positions c.position_at.result
    (omega (arith, room)) c.loop-index.invariant c.position_at.ensures

pub returns : goal.returns
returns g c = listed refl c.num_vertices-count.ensures.value
    (all_answered _ c.loop-index.index _ c.args.positions.now c.loop-index.positions (omega arith)
    c.loop-index.invariant)
