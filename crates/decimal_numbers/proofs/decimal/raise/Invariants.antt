use Rattle.std.proofs.Common.{◌≡◌, ◌*◌, ◌^◌}
use Rattle.decimal_numbers.proofs.decimal.raise.Given as goal

abbrev pub invariant-loop : goal.invariant-loop
invariant-loop l = l.value ≡ l.number * 10 ^ l.counter
