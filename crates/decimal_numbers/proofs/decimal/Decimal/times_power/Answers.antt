use Rattle.std.proofs.Common.{arith}
use Rattle.std.proofs.lemmas.Int.{ints}
use Rattle.decimal_numbers.proofs.Powers.{power_divided}
use Rattle.decimal_numbers.proofs.decimal.Decimal.times_power.Goals as goal

pub returns-then-self-clause-ok : goal.returns-then-self-clause-ok
returns-then-self-clause-ok c = record {
  units = c.in-Some.units;
  sign = rw c.if-self.true (omega (arith, ints));
  value = power_divided _ _ _ _ c.if-digits-self.false c.in-Some.ensures.some;
}

pub returns-else-self-clause-ok : goal.returns-else-self-clause-ok
returns-else-self-clause-ok c = record {
  units = c.in-Some.units;
  sign = rw c.if-self.false (omega (arith, ints));
  value = power_divided _ _ _ _ c.if-digits-self.false c.in-Some.ensures.some;
}
