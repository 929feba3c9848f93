use Rattle.std.proofs.Common.{◌≡◌, ◌*◌, ◌^◌, ℕ, drop}
use Rattle.std.specs.Str.Parse.{digits_value_after}
use Rattle.decimal_numbers.proofs.long.are_zeros.Given as goal

abbrev pub invariant-loop-digit : goal.invariant-loop-digit
invariant-loop-digit l = (n : ℕ) → digits_value_after 10 n l.digits
    ≡ digits_value_after 10 (n * 10 ^ l.digit-index) (drop l.digit-index l.digits)
