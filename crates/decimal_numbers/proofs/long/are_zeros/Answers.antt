use Rattle.std.proofs.Common.{arith}
use Rattle.std.proofs.lemmas.Str.Parse.{digit_at}
use Rattle.decimal_numbers.proofs.Cuts.{others_follow, zero_passed}
use Rattle.decimal_numbers.proofs.long.are_zeros.Goals as goal

pub returns-then-digit-ne48-clause-others : goal.returns-then-digit-ne48-clause-others
returns-then-digit-ne48-clause-others c = λ _ n.
    let ds = c.args.digits.now in
    let i = c.loop-digit.digit-index in
    let r = digit_at ds i c.requires c.loop-digit-test.true in
    others_follow ds i n c.loop-digit-test.true
    (omega (arith, r, c.if-digit-ne48.true)) (omega (arith, r)) (c.loop-digit.invariant n)

pub loop-digit-preserved : goal.loop-digit-preserved
loop-digit-preserved c = λ n.
    zero_passed c.args.digits.now c.loop-digit.digit-index n c.loop-digit-test.true
    c.if-digit-ne48.false (c.loop-digit.invariant n)
