use Rattle.std.proofs.Common.{length, arith, ap}
use Rattle.decimal_numbers.proofs.Splits.{integer_is, integer_of, is_none, is_some}
use Rattle.decimal_numbers.proofs.parts.integer_of.Goals as goal

pub returns-then-is_empty-clause-none : goal.returns-then-is_empty-clause-none
returns-then-is_empty-clause-none c = λ n w s.
    let q = integer_is _ _ _ _ _ n w c.split_sign-negative.ensures c.split_digits.ensures.split
    c.split_digits.ensures.digits c.split_digits.ensures.ended s in
    let none = is_none _ _ c.is_empty.ensures c.if-is_empty.true in
    absurd (omega (arith, q.2, ap length q.0, ap length none))

pub returns-then-not-is_empty-clause-none : goal.returns-then-not-is_empty-clause-none
returns-then-not-is_empty-clause-none c = λ n w s.
    let q = integer_is _ _ _ _ _ n w c.split_sign-negative.ensures c.split_digits.ensures.split
    c.split_digits.ensures.digits c.split_digits.ensures.ended s in
    let some = is_some _ _ c.is_empty-2.ensures c.if-not-is_empty.true in
    absurd (omega (arith, some, ap length q.1))

pub returns-clause-found : goal.returns-clause-found
returns-clause-found c =
    let none = is_none _ _ c.is_empty-2.ensures c.if-not-is_empty.false in
    let some = is_some _ _ c.is_empty.ensures c.if-is_empty.false in
    integer_of _ _ _ _ _ c.split_sign-negative.ensures c.split_digits.ensures.split none
    c.split_digits.ensures.digits some
