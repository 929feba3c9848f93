use Rattle.std.proofs.Common.{◌≡◌, true, false}
use Rattle.{decimal_numbers.proofs.Spellings.long_is_one, decimal_numbers.specs.parts_of}
use Rattle.decimal_numbers.proofs.decimal.Decimal.parse.Goals as goal

pub returns-in_default-clause-too_long : goal.returns-in_default-clause-too_long
returns-in_default-clause-too_long c = (
  λ e. absurd (cc),
  λ t. absurd (c.in_default.ensures.none t.parts t.spelled),
)

pub returns-in-Some-value_of-clause-too_long : goal.returns-in-Some-value_of-clause-too_long
returns-in-Some-value_of-clause-too_long c = (
  λ e. absurd (cc),
  λ t. let long = long_is_one c.args.text.now t.parts (parts_of c.in-Some.written) t.spelled
      c.in-Some.ensures.found t.long in
      let bad : true ≡ false = c.in-Some-value_of.ensures.none.1 long in absurd (cc),
)
