use Rattle.std.proofs.Common.{◌<◌, ◌^◌, ℕ, arith, subst, sym}
use Rattle.decimal_numbers.specs.Value.{IsRounded}
use Rattle.decimal_numbers.proofs.Powers.{rounds, rounds_to_none, ten_or_more}
use Rattle.decimal_numbers.proofs.decimal.Decimal.rounded_to.Goals as goal
use goal.{in-None, in-Some}

pub nearest_quotient-magnitude-requires : goal.nearest_quotient-magnitude-requires
nearest_quotient-magnitude-requires c = ten_or_more _ _ c.in-Some.ensures.some (omega arith)

pub returns-clause-value : goal.returns-clause-value
returns-clause-value c =
    let n = c.args.self.now in
    let k = c.args.digits in
    let small : n.magnitude < 2 ^ 64 = omega arith in
    elim c.match-raise.branch [
      | in-Some w ↦ subst (λ (q : ℕ). IsRounded n.magnitude n.digits k q k) (sym w.magnitude-is)
          (rounds n.magnitude n.digits k w.in-Some.unit w.nearest_quotient-magnitude.result
          c.if-self-digits.false w.in-Some.ensures.some w.nearest_quotient-magnitude.ensures.above
          w.nearest_quotient-magnitude.ensures.below)
      | in-None w ↦ subst (λ (q : ℕ). IsRounded n.magnitude n.digits k q k) (sym w.magnitude-is)
          (rounds_to_none n.magnitude n.digits k small c.if-self-digits.false
          w.in-None.ensures.none)
    ]
