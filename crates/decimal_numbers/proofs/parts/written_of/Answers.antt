use Rattle.std.proofs.Common.{◌+◌, ◌<◌, length, arith, ap, sym, subst}
use Rattle.{decimal_numbers.specs.Grammar.SpellsNoNumber, decimal_numbers.specs.IsPower}
use Rattle.decimal_numbers.proofs.Splits.{if_none, is_none, is_some, number_of, parts_are}
use Rattle.decimal_numbers.proofs.parts.written_of.Goals as goal
use goal.{else-is_empty-via-else-is_empty, else-is_empty-via-then-is_empty+else-is_empty-2}

pub returns-then-is_empty-2-clause-none : goal.returns-then-is_empty-2-clause-none
returns-then-is_empty-2-clause-none c = λ p s.
    let q = parts_are _ _ _ _ _ _ _ p c.split_sign-negative.ensures c.split_digits.ensures.split
    c.split_digits.ensures.digits c.split_digits.ensures.ended c.split_point.ensures s in
    let none = is_none _ _ c.is_empty.ensures c.if-is_empty.true in
    let none' = is_none _ _ c.is_empty-then-is_empty.ensures c.if-is_empty-2.true in
    absurd (omega (arith, s.some, ap length q.0, ap length q.1, ap length none, ap length none'))

pub returns-in_err-lowers-clause-none : goal.returns-in_err-lowers-clause-none
returns-in_err-lowers-clause-none c =
    let none : SpellsNoNumber c.args.text.now = λ p s.
    let q = parts_are _ _ _ _ _ _ _ p c.split_sign-negative.ensures c.split_digits.ensures.split
    c.split_digits.ensures.digits c.split_digits.ensures.ended c.split_point.ensures s in
    c.in_err-lowers.ensures.none p.lowers p.power
    (subst (λ x. IsPower x p.lowers p.power) (sym q.2) s.is_power) in
    if_none _ _ none

pub returns-clause-found : goal.returns-clause-found
returns-clause-found c =
    let some : 0 < length c.split_digits.result.0.now + length c.split_point.result.0.now =
    elim c.else-is_empty.branch [
      | else-is_empty-via-then-is_empty+else-is_empty-2 w ↦
          (let h = is_some _ _ w.is_empty-then-is_empty.ensures w.if-is_empty-2.false in
          omega (arith, h))
      | else-is_empty-via-else-is_empty w ↦
          (let h = is_some _ _ c.is_empty.ensures w.if-is_empty.false in omega (arith, h))
    ] in
    number_of _ _ _ _ _ c.split_sign-negative.ensures
    c.split_digits.ensures.split c.split_digits.ensures.digits c.split_point.ensures some
    c.in_ok-lowers.ensures.found
