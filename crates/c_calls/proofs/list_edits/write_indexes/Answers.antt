use Rattle.std.proofs.Common.{◌∙◌, ℕ, List, set, get_or, ap, arith}
use Rattle.std.proofs.lemmas.List.{get_or_read}
use Rattle.c_calls.proofs.Listed.{write_all, write_more}
use Rattle.c_calls.proofs.list_edits.write_indexes.Goals as goal

pub loop-index-preserved : goal.loop-index-preserved
loop-index-preserved c =
    ap (λ (n : ℕ). set c.loop-index.indexes c.loop-index.index n) (c.index.ensures
    ∙ get_or_read c.args.vertices.now c.loop-index.index c.index-vertices-index.result
    c.loop-index-test.true c.index-vertices-index.is 0)
    ∙ ap (λ (xs : List ℕ).
    set xs c.loop-index.index (get_or c.args.vertices.now c.loop-index.index 0))
    c.loop-index.invariant
    ∙ write_more c.args.vertices.now c.args.indexes.now c.loop-index.index c.loop-index-test.true
    c.requires

pub returns : goal.returns
returns c =
    let least = c.loop-index-test.false in let most = c.loop-index.auto.index-end in
    write_all c.args.vertices.now c.args.indexes.now c.loop-index.indexes c.loop-index.index
    (omega (arith, least, most)) c.loop-index.invariant
