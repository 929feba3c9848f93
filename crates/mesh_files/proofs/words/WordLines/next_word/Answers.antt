use Rattle.std.proofs.Common.{sym, ◌∙◌}
use Rattle.mesh_files.proofs.WordRows.{comment_left, first_none, first_some, next_word_is}
use Rattle.mesh_files.proofs.WordRows.{no_word_left}
use Rattle.mesh_files.proofs.words.WordLines.next_word.Goals as goal

pub returns-in_default-clause-found : goal.returns-in_default-clause-found
returns-in_default-clause-found c =
    (no_word_left c.args.self.now.words.now c.split.result.0.now c.split.result.1.now
    c.split.ensures.split c.split.ensures.within
    (first_none c.split.result.1.now c.in_default.ensures.value)).0

pub returns-then-first-eq35-clause-found : goal.returns-then-first-eq35-clause-found
returns-then-first-eq35-clause-found c =
    let first = first_some c.split.result.1.now c.in-Some.first.now c.in-Some.ensures.value in
    comment_left c.args.self.now.words.now c.split.result.0.now c.split.result.1.now
    c.split.ensures.split c.split.ensures.within first.0 c.split.ensures.ended
    (first.1 ∙ c.if-first-eq35.true)

pub returns-clause-found : goal.returns-clause-found
returns-clause-found c =
    let first = first_some c.split.result.1.now c.in-Some.first.now c.in-Some.ensures.value in
    next_word_is c.args.self.now.words.now c.split.result.0.now c.split.result.1.now
    c.split-2.result.0.now c.split-2.result.1.now c.split.ensures.split c.split.ensures.within
    first.0 (λ is_hash. c.if-first-eq35.false (sym first.1 ∙ is_hash)) c.split.ensures.ended
    c.split-2.ensures.split c.split-2.ensures.within c.split-2.ensures.ended
