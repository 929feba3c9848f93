use Rattle.std.proofs.Common.{arith, get_or}
use Rattle.std.proofs.lemmas.Str.Parse.{digit_at}
use Rattle.decimal_numbers.proofs.Powers.{digit_overflows, digit_taken, digit_value-is}
use Rattle.decimal_numbers.proofs.Splits.{if_none}
use Rattle.decimal_numbers.proofs.decimal.append_digits.Goals as goal

pub overflow_sub-digit : goal.overflow_sub-digit
overflow_sub-digit c =
    let r = digit_at c.args.digits.now c.loop-digit.digit-index c.requires c.loop-digit-test.true in
    omega (arith, r)

pub loop-digit-preserved : goal.loop-digit-preserved
loop-digit-preserved c =
    let r = digit_at c.args.digits.now c.loop-digit.digit-index c.requires c.loop-digit-test.true in
    digit_taken c.args.digits.now c.loop-digit.digit-index c.loop-digit.value _ _
    c.loop-digit-test.true (omega (arith, r)) (omega (arith, r)) c.loop-digit.invariant
    (omega (arith, c.in_ok-value.ensures, c.in_ok-checked_mul.ensures, c.from.ensures))

pub returns-in_err-checked_mul-clause-none : goal.returns-in_err-checked_mul-clause-none
returns-in_err-checked_mul-clause-none c =
    if_none c.from_residual.result _ (digit_overflows c.args.digits.now c.loop-digit.digit-index
    c.loop-digit.value _ c.loop-digit-test.true c.loop-digit.invariant
    (omega (arith, c.in_err-checked_mul.ensures)))

pub returns-in_err-value-clause-none : goal.returns-in_err-value-clause-none
returns-in_err-value-clause-none c =
    let r = digit_at c.args.digits.now c.loop-digit.digit-index c.requires c.loop-digit-test.true in
    let is = digit_value-is (get_or c.args.digits.now c.loop-digit.digit-index 0)
    (omega (arith, r)) (omega (arith, r)) in
    if_none c.from_residual-in_err-value.result _ (digit_overflows c.args.digits.now
    c.loop-digit.digit-index c.loop-digit.value _ c.loop-digit-test.true c.loop-digit.invariant
    (omega (arith, is, c.in_err-value.ensures, c.in_ok-checked_mul.ensures, c.from.ensures)))
