use Rattle.std.proofs.Common.{◌∙◌, ℕ, List, set, get_or, ap, arith}
use Rattle.c_calls.proofs.Listed.{write_all, write_more}
use Rattle.c_calls.proofs.words.write_bytes.Goals as goal

pub loop-index-preserved : goal.loop-index-preserved
loop-index-preserved c =
    ap (λ (xs : List ℕ). set xs c.loop-index.index (get_or c.args.bytes.now c.loop-index.index 0))
    c.loop-index.invariant
    ∙ write_more c.args.bytes.now c.args.text.now c.loop-index.index c.loop-index-test.true
    c.requires

pub returns : goal.returns
returns c =
    let least = c.loop-index-test.false in let most = c.loop-index.auto.index-end in
    write_all c.args.bytes.now c.args.text.now c.loop-index.text c.loop-index.index
    (omega (arith, least, most)) c.loop-index.invariant
