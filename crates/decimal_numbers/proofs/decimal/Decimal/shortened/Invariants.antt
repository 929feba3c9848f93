use Rattle.std.proofs.Common.{◌≡◌, ◌*◌, ◌^◌, ◌≤◌}
use Rattle.decimal_numbers.proofs.decimal.Decimal.shortened.Given as goal

abbrev pub invariant-loop-digits : goal.invariant-loop-digits
invariant-loop-digits l = record {
  same : l.magnitude * 10 ^ l.self.digits ≡ l.self.magnitude * 10 ^ l.digits;
  fewer : l.digits ≤ l.self.digits;
}

abbrev pub decreases-loop-digits : goal.decreases-loop-digits
decreases-loop-digits l = l.digits
