use Rattle.std.proofs.Common.{◌≡◌, ◌^◌, ◌<◌, drop}
use Rattle.std.specs.Str.Parse.{digits_value_after}
use Rattle.decimal_numbers.proofs.long.append_some.Given as goal

abbrev pub invariant-loop-i : goal.invariant-loop-i
invariant-loop-i l = record {
  value : digits_value_after 10 l.value (drop l.i l.digits) ≡ digits_value_after 10 l.number l.digits;
  fits : l.number < 10 ^ 18 → l.value < 10 ^ 18;
}
