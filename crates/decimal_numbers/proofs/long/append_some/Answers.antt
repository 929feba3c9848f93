use Rattle.std.proofs.Common.{◌-◌, arith, drop, length, length-drop, subst, sym}
use Rattle.std.specs.Str.Parse.{AllDigits}
use Rattle.std.proofs.lemmas.List.{take_all}
use Rattle.std.proofs.lemmas.Str.Parse.{digit_at}
use Rattle.decimal_numbers.proofs.{Cuts.all_dropped, Powers.digit_taken}
use Rattle.decimal_numbers.proofs.long.append_some.Goals as goal

pub returns-then-value-ge-FULL-clause-digits : goal.returns-then-value-ge-FULL-clause-digits
returns-then-value-ge-FULL-clause-digits c =
    let ds = c.args.digits.now in
    subst (λ x. AllDigits 10 x)
    (sym (take_all (length ds - c.loop-i.i) (drop c.loop-i.i ds)
    (omega (arith, length-drop c.loop-i.i ds))))
    (all_dropped ds c.loop-i.i c.requires)

pub overflow_sub-digit : goal.overflow_sub-digit
overflow_sub-digit c =
    let r = digit_at c.args.digits.now c.loop-i.i c.requires c.loop-i-test.true in
    omega (arith, r)

pub loop-i-preserved : goal.loop-i-preserved
loop-i-preserved c =
    let r = digit_at c.args.digits.now c.loop-i.i c.requires c.loop-i-test.true in
    record {
      value = digit_taken c.args.digits.now c.loop-i.i c.loop-i.value _ _ c.loop-i-test.true
          (omega (arith, r)) (omega (arith, r)) c.loop-i.invariant.value
          (omega (arith, c.from.ensures));
      fits = λ h. omega (arith, r, c.from.ensures, c.if-value-ge-FULL.false);
    }
