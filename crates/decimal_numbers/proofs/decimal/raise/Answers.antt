use Rattle.std.proofs.Common.{arith}
use Rattle.std.proofs.lemmas.Grind.{pow_more}
use Rattle.{decimal_numbers.proofs.Powers.too_large, decimal_numbers.proofs.Splits.if_none}
use Rattle.decimal_numbers.proofs.decimal.raise.Goals as goal

pub loop-preserved : goal.loop-preserved
loop-preserved c =
    let more = pow_more 10 c.loop.counter in
    rw more (omega (arith, c.in_ok-value.ensures, c.loop.invariant))

pub returns-in_err-value-clause-none : goal.returns-in_err-value-clause-none
returns-in_err-value-clause-none c =
    let large = too_large c.args.number c.loop.value c.loop.counter c.args.power c.loop.invariant
    c.loop-test.true c.in_err-value.ensures in
    if_none c.from_residual.result _ large
