use Rattle.std.proofs.Common.{arith}
use Rattle.decimal_numbers.proofs.Powers.{zero_taken}
use Rattle.decimal_numbers.proofs.decimal.Decimal.shortened.Goals as goal

pub loop-digits-preserved : goal.loop-digits-preserved
loop-digits-preserved c = record {
  same = zero_taken _ _ _ _ c.loop-digits.invariant.same c.loop-digits-test.true
      c.if-magnitude-eq0.true;
  fewer = omega (arith, c.loop-digits.invariant.fewer);
}
