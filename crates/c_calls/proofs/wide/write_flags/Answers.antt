use Rattle.std.proofs.Common.{arith}
use Rattle.c_calls.proofs.Writing.{one_more}
use Rattle.c_calls.proofs.wide.write_flags.Goals as goal

pub loop-index-preserved : goal.loop-index-preserved
loop-index-preserved c =
    let room = c.loop-index.auto.flags in
    let fits = c.requires.room in
    let below = c.loop-index-test.true in
    one_more _ c.loop-index.index c.args.flags.now c.loop-index.flags c.flag_of.result
    (omega (arith, room, fits, below)) c.loop-index.invariant c.flag_of.ensures
