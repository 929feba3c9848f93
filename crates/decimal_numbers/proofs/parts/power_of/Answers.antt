use Rattle.std.proofs.Common.{◌-◌, length, drop, arith, length-drop}
use Rattle.std.proofs.lemmas.List.{take_all}
use Rattle.decimal_numbers.proofs.Splits.{no_power_behind}
use Rattle.decimal_numbers.proofs.parts.power_of.Goals as goal

pub returns-in-101-clause-none : goal.returns-in-101-clause-none
returns-in-101-clause-none c =
    let text = c.args.text.now in
    no_power_behind _ text _ (omega arith)
    (take_all (length text - 1) (drop 1 text) (omega (arith, length-drop 1 text)))
    c.integer_of.ensures.none
