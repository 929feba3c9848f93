use Rattle.std.proofs.Common.{None, arith, sym, ◌∙◌}
use Rattle.std.proofs.lemmas.Str.Parse.{digit_at}
use Rattle.std.proofs.lemmas.Grind.{common_steps}
use Rattle.triangulate_run.proofs.Digits.{in_range_digit, one_more, value_lt}
use Rattle.triangulate_run.proofs.Values.{index_from, index_value-ok}
use Rattle.triangulate_run.proofs.words.index_written.Goals as goal

pub returns-then-not-is_ascii_digit-clause-value : goal.returns-then-not-is_ascii_digit-clause-value
returns-then-not-is_ascii_digit-clause-value c = index_from _ None tt λ n h.
    let r = digit_at c.args.word.now c.loop-digit.digit-index h.digits (omega arith) in
    let yes = in_range_digit _ r in
    let is = c.is_ascii_digit.ensures.value in
    let no = c.if-not-is_ascii_digit.true in
    cc

pub overflow_mul-number : goal.overflow_mul-number
overflow_mul-number c =
    omega (arith, value_lt 17 c.loop-digit.invariant (omega arith) (omega arith))

pub overflow_add-number : goal.overflow_add-number
overflow_add-number c =
    let more = one_more c.loop-digit.invariant c.loop-digit-test.true
    (sym c.is_ascii_digit.ensures.value ∙ c.if-not-is_ascii_digit.false) c.from.ensures in
    omega (arith, value_lt 18 more (omega arith) (omega arith))

pub loop-digit-preserved : goal.loop-digit-preserved
loop-digit-preserved c =
    one_more c.loop-digit.invariant c.loop-digit-test.true
    (sym c.is_ascii_digit.ensures.value ∙ c.if-not-is_ascii_digit.false) c.from.ensures

pub returns-clause-small : goal.returns-clause-small
returns-clause-small c = value_lt 18 c.loop-digit.invariant (omega arith) (omega arith)

pub returns-clause-value : goal.returns-clause-value
returns-clause-value c = sym (index_value-ok _ _ (grind (arith, common_steps)))

pub returns-then-is_empty-clause-value : goal.returns-then-is_empty-clause-value
returns-then-is_empty-clause-value c = index_from _ None tt (λ n h. grind (arith, common_steps))
