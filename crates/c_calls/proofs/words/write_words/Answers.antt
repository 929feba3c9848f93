use Rattle.std.proofs.Common.{◌∙◌, refl, arith}
use Rattle.c_calls.specs.Words.{words_of_none, words_told}
use Rattle.c_calls.proofs.Texts.{words_end}
use Rattle.c_calls.proofs.words.write_words.Goals as goal

pub returns-then-status-lt-NO_SUCH_STATUS : goal.returns-then-status-lt-NO_SUCH_STATUS
returns-then-status-lt-NO_SUCH_STATUS c =
    words_told refl c.if-status-lt-NO_SUCH_STATUS.true
    (words_end c.args.status c.as_bytes-words.result.now c.args.text.now c.write_bytes.new.text
    (c.as_bytes-words.ensures.value ∙ c.ended_words_of.ensures) c.write_bytes.ensures)

pub returns-else-status-lt-NO_SUCH_STATUS : goal.returns-else-status-lt-NO_SUCH_STATUS
returns-else-status-lt-NO_SUCH_STATUS c =
    let none = c.if-status-lt-NO_SUCH_STATUS.false in
    words_of_none refl (λ less. absurd (omega (arith, less, none)))
    (words_end c.args.status c.as_bytes-words.result.now c.args.text.now c.write_bytes.new.text
    (c.as_bytes-words.ensures.value ∙ c.ended_words_of.ensures) c.write_bytes.ensures)
