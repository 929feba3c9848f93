use Rattle.std.proofs.Common.{sym, ◌∙◌}
use Rattle.std.proofs.lemmas.List.{take_all}
use Rattle.{mesh_files.proofs.WordRows.passes_more, mesh_files.specs.is_in}
use Rattle.mesh_files.proofs.words.split.Goals as goal

pub loop-i-preserved : goal.loop-i-preserved
loop-i-preserved c = passes_more (is_in c.args.stretch) c.args.text.now c.loop-i.i
    c.loop-i-test.true c.loop-i.invariant (sym c.has.ensures ∙ c.if-not-has.false)

pub returns-clause-within : goal.returns-clause-within
returns-clause-within c =
    rw (take_all c.loop-i.i c.args.text.now c.loop-i-test.false) at c.loop-i.invariant
