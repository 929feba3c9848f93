use Rattle.std.proofs.Common.{sym, ◌∙◌}
use Rattle.mesh_files.proofs.WordRows.{row_found, row_passed}
use Rattle.mesh_files.proofs.words.WordLines.next_line.Goals as goal

pub returns-then-is_some : goal.returns-then-is_some
returns-then-is_some c = rw c.next_word.ensures.rest
    (sym c.loop.invariant ∙ row_found c.next_word.result c.loop.self.rest.now
    c.pass_line.new.self.words.now c.pass_line.new.self.rest.now c.next_word.new.self.words.now
    (sym c.is_some.ensures ∙ c.if-is_some.true) c.next_word.ensures.found c.pass_line.ensures)

pub loop-preserved : goal.loop-preserved
loop-preserved c = rw c.next_word.ensures.rest
    (sym (row_passed c.next_word.result c.loop.self.rest.now
    c.pass_line.new.self.words.now c.pass_line.new.self.rest.now c.next_word.new.self.words.now
    (sym c.is_some.ensures ∙ c.if-is_some.false) c.next_word.ensures.found c.pass_line.ensures)
    ∙ c.loop.invariant)
