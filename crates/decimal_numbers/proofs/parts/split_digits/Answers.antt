use Rattle.std.proofs.Common.{get_or, sym, ◌∙◌}
use Rattle.std.proofs.lemmas.Int.Digits.{digits_more}
use Rattle.decimal_numbers.proofs.Splits.{digit_is_low}
use Rattle.decimal_numbers.proofs.parts.split_digits.Goals as goal

pub loop-i-preserved : goal.loop-i-preserved
loop-i-preserved c = digits_more 10 c.args.text.now c.loop-i.i c.loop-i-test.true
    c.loop-i.invariant (digit_is_low (get_or c.args.text.now c.loop-i.i 0)
    (sym c.is_ascii_digit.ensures.value ∙ c.if-not-is_ascii_digit.false))
