use Rattle.std.proofs.Common.{refl, arith}
use Rattle.c_calls.specs.{listed}
use Rattle.c_calls.proofs.Writing.{all_answered, none_answered, one_more}
use Rattle.c_calls.proofs.lists.ListNumbersQuery.ask.Goals as goal

pub loop-index-init : goal.loop-index-init
loop-index-init g c = none_answered _ c.args.numbers.now

pub loop-index-preserved : goal.loop-index-preserved
loop-index-preserved g c =
    let room = c.loop-index.auto.numbers in
    one_more _ c.loop-index.index c.args.numbers.now c.loop-index.numbers c.number_at.result
    (omega (arith, room)) c.loop-index.invariant c.number_at.ensures

pub returns : goal.returns
returns g c = listed refl c.num_vertices-count.ensures.value
    (all_answered _ c.loop-index.index _ c.args.numbers.now c.loop-index.numbers (omega arith)
    c.loop-index.invariant)
