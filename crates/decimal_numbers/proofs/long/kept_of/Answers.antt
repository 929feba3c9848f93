use Rattle.std.proofs.Common.{arith, inl, inr, ◌∙◌}
use Rattle.decimal_numbers.proofs.Cuts.{all_digits, digits_high, wide_whole}
use Rattle.decimal_numbers.proofs.Splits.{is_none, is_some}
use Rattle.decimal_numbers.proofs.long.kept_of.Goals as goal
use goal.{then-not-is_empty-via-else-not-is_empty+then-fraction-gt-MAX_BEHIND}
use goal.{then-not-is_empty-via-then-not-is_empty}

pub returns-then-not-is_empty-clause-none : goal.returns-then-not-is_empty-clause-none
returns-then-not-is_empty-clause-none c =
    let first = c.append_some-number.ensures in
    elim c.then-not-is_empty.branch [
      | then-not-is_empty-via-then-not-is_empty w ↦
          (let some = is_some _ _ c.is_empty.ensures w.if-not-is_empty.true in
          inl (wide_whole c.args.whole.now c.args.fraction.now c.append_some-number.result.1.now
          c.append_some-number.result.0 first.value (first.full some)))
      | then-not-is_empty-via-else-not-is_empty+then-fraction-gt-MAX_BEHIND w ↦
          inr (omega (arith, w.if-fraction-gt-MAX_BEHIND.true))
    ]

pub returns-clause-some : goal.returns-clause-some
returns-clause-some c =
    let first = c.append_some-number.ensures in
    let next = c.append_some-number-2.ensures in
    let whole = c.args.whole.now in
    let fraction = c.args.fraction.now in
    let k = c.append_some-number-2.result.0 in
    let cut = c.append_some-number-2.result.1.now in
    let none = is_none _ _ c.is_empty.ensures c.if-not-is_empty.false in
    let all = all_digits whole fraction c.append_some-number.result.1.now cut
    c.append_some-number.result.0 k none first.value next.value in
    record {
      length_is = omega (arith, next.fewer);
      fits = next.fits (first.fits (omega arith));
      full = next.full;
      exact = λ e. all ∙ c.are_zeros.ensures.zeros e k;
      above = λ e. rw all (c.are_zeros.ensures.others e k);
      below = rw all (digits_high k cut next.digits);
      few = omega (arith, c.if-fraction-gt-MAX_BEHIND.false);
    }
