use Rattle.std.proofs.Common.{◌∙◌, ◌+◌, ap, arith}
use Rattle.std.proofs.lemmas.List.{get_or_default}
use Rattle.std.specs.Prelude.{None}
use Rattle.{c_calls.proofs.Writing.one_more, c_calls.specs.Reach.raw_label}
use Rattle.c_calls.proofs.reach.write_labels.Goals as goal

pub loop-index-preserved : goal.loop-index-preserved
loop-index-preserved c =
    let index = c.loop-index.index in
    let room = c.loop-index.auto.labels in
    let fits = c.requires.room in
    let many = c.requires.found in
    let below = c.loop-index-test.true in
    one_more _ index c.args.labels.now c.loop-index.labels c.raw_label.result
    (omega (arith, room, fits, below)) c.loop-index.invariant
    (c.raw_label.ensures ∙ ap raw_label (get_or_default c.args.found.now (index + 1) _ None
    (omega (arith, many, below))))
