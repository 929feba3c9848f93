use Rattle.std.proofs.Common.{◌+◌, length, arith, ap, refl, sym}
use Rattle.decimal_numbers.proofs.Longs.{kept_value, large_cut, large_raised, raised_value}
use Rattle.{decimal_numbers.proofs.Splits.if_none, decimal_numbers.specs.parts_of}
use Rattle.decimal_numbers.proofs.long.long_value_of.Goals as goal

pub returns-then-written-clause-value : goal.returns-then-written-clause-value
returns-then-written-clause-value c =
    let w = c.args.written.now in
    let of = c.decimal.ensures in
    kept_value (parts_of w) c.in_ok-kept.kept c.decimal.result c.in_ok-power.power
    c.in_ok-kept.ensures.some
    (rw c.if-written.true (ap (λ x. length w.fraction.now + x) (sym c.in_ok-power.ensures.some)))
    (rw c.if-written.true (omega (arith, of.digits))) of.exact of.whole of.cut

pub returns-then-power-kept-clause-value : goal.returns-then-power-kept-clause-value
returns-then-power-kept-clause-value c =
    let w = c.args.written.now in
    let of = c.decimal-then-power-kept.ensures in
    kept_value (parts_of w) c.in_ok-kept.kept c.decimal-then-power-kept.result 0
    c.in_ok-kept.ensures.some (rw c.if-written.false refl)
    (rw c.if-written.false (omega (
      arith,
      of.digits,
      c.in_ok-power.ensures.some,
      c.if-power-kept.true,
    ))) of.exact of.whole of.cut

pub returns-then-kept-gt0-clause-none : goal.returns-then-kept-gt0-clause-none
returns-then-kept-gt0-clause-none c =
    large_cut (parts_of c.args.written.now) c.in_ok-kept.kept c.in_ok-power.power
    c.in_ok-kept.ensures.some c.if-written.false c.in_ok-power.ensures.some c.if-power-kept.false
    c.if-kept-gt0.true

pub returns-in_err-magnitude-clause-none : goal.returns-in_err-magnitude-clause-none
returns-in_err-magnitude-clause-none c =
    if_none c.from_residual-in_err-magnitude.result _
    (large_raised (parts_of c.args.written.now) c.in_ok-kept.kept c.in_ok-power.power
    c.in_ok-kept.ensures.some c.if-written.false c.in_ok-power.ensures.some c.if-power-kept.false
    (omega (arith, c.if-kept-gt0.false)) c.in_err-magnitude.ensures.none)

pub returns-clause-value : goal.returns-clause-value
returns-clause-value c =
    raised_value (parts_of c.args.written.now) c.in_ok-kept.kept c.in_ok-magnitude.magnitude
    c.in_ok-power.power c.args.written.now.negative c.in_ok-kept.ensures.some c.if-written.false
    c.in_ok-power.ensures.some c.if-power-kept.false (omega (arith, c.if-kept-gt0.false))
    c.in_ok-magnitude.ensures.some
