use Rattle.std.proofs.Common.{◌≡◌, drop}
use Rattle.std.specs.Str.Parse.{digits_value_after}
use Rattle.decimal_numbers.proofs.decimal.append_digits.Given as goal

abbrev pub invariant-loop-digit : goal.invariant-loop-digit
invariant-loop-digit l =
    digits_value_after 10 l.value (drop l.digit-index l.digits)
    ≡ digits_value_after 10 l.number l.digits
