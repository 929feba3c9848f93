use Rattle.std.proofs.Common.{◌+◌, ◌*◌, ◌^◌, ◌∙◌, length, ap, refl, arith}
use Rattle.std.proofs.Common.{inl, rules}
use Rattle.std.specs.Str.Parse.{digits_value_after}
use Rattle.decimal_numbers.specs.{IsTooLong, parts_of, raised_by}
use Rattle.decimal_numbers.proofs.Powers.{long_digits, long_raised, long_whole, lowered_magnitude}
use Rattle.decimal_numbers.proofs.Powers.{raised_magnitude, short_lowered, short_raised}
use Rattle.decimal_numbers.proofs.decimal.value_of.Goals as goal

pub returns-then-written-clause-value : goal.returns-then-written-clause-value
returns-then-written-clause-value c =
    let w = c.args.written.now in
    lowered_magnitude (parts_of w) _ _ c.if-written.true
    (c.in_ok-number.ensures.some
    ∙ ap (λ x. digits_value_after 10 x w.fraction.now) c.in_ok-whole.ensures.some)
    (ap (λ x. length w.fraction.now + x) c.in_ok-power.ensures.some)

pub returns-clause-value : goal.returns-clause-value
returns-clause-value c =
    let w = c.args.written.now in
    raised_magnitude (parts_of w) c.in_ok-number.number c.in_ok-magnitude.magnitude
    (length w.fraction.now) c.if-written.false
    (c.in_ok-number.ensures.some
    ∙ ap (λ x. digits_value_after 10 x w.fraction.now) c.in_ok-whole.ensures.some)
    (c.in_ok-magnitude.ensures.some
    ∙ ap (λ x. c.in_ok-number.number * 10 ^ x) c.in_ok-power.ensures.some)
    refl

pub returns-in_err-whole-clause-none : goal.returns-in_err-whole-clause-none
returns-in_err-whole-clause-none c =
    let p = parts_of c.args.written.now in
    let long : IsTooLong p =
    inl (long_whole p.whole p.fraction (raised_by p) c.in_err-whole.ensures.none) in
    (λ e. long, λ l. search rules)

pub returns-in_err-number-clause-none : goal.returns-in_err-number-clause-none
returns-in_err-number-clause-none c =
    let p = parts_of c.args.written.now in
    let whole = c.in_ok-whole.ensures.some in
    let long = long_digits p (rw (← whole) c.in_err-number.ensures.none) in
    (λ e. long, λ l. search rules)

pub returns-then-written-clause-none : goal.returns-then-written-clause-none
returns-then-written-clause-none c =
    let w = c.args.written.now in (
      λ e. absurd (cc),
      λ long. absurd (short_lowered (parts_of w) c.in_ok-number.number c.if-written.true
          (c.in_ok-number.ensures.some
          ∙ ap (λ x. digits_value_after 10 x w.fraction.now) c.in_ok-whole.ensures.some)
          (omega arith) (omega arith) (omega (arith, c.in_ok-power.ensures.some)) long),
    )

pub returns-in_err-magnitude-clause-none : goal.returns-in_err-magnitude-clause-none
returns-in_err-magnitude-clause-none c =
    let w = c.args.written.now in
    let power = c.in_ok-power.ensures.some in
    let long = long_raised (parts_of w) c.in_ok-number.number c.if-written.false
    (c.in_ok-number.ensures.some
    ∙ ap (λ x. digits_value_after 10 x w.fraction.now) c.in_ok-whole.ensures.some)
    (rw (← power) c.in_err-magnitude.ensures.none) in
    (λ e. long, λ l. search rules)

pub returns-clause-none : goal.returns-clause-none
returns-clause-none c =
    let w = c.args.written.now in (
      λ e. absurd (cc),
      λ long. absurd (short_raised (parts_of w) c.in_ok-number.number c.in_ok-magnitude.magnitude
          c.if-written.false
          (c.in_ok-number.ensures.some
          ∙ ap (λ x. digits_value_after 10 x w.fraction.now) c.in_ok-whole.ensures.some)
          (c.in_ok-magnitude.ensures.some
          ∙ ap (λ x. c.in_ok-number.number * 10 ^ x) c.in_ok-power.ensures.some)
          (omega arith) (omega arith) (omega (arith, c.in_ok-power.ensures.some)) long),
    )
