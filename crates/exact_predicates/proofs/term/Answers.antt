use Rattle.std.proofs.Common.{◌∙◌, arith}
use Rattle.exact_predicates.proofs.Widths.{kept_is, long_product, long_product_bound}
use Rattle.exact_predicates.proofs.term.Goals as goal

pub returns-clause-value : goal.returns-clause-value
returns-clause-value c =
    let dot = c.from.ensures ∙ kept_is c.args.dot (omega (arith, c.requires.dot)) in
    let turn = c.from-2.ensures ∙ kept_is c.args.turn (omega (arith, c.requires.turn)) in
    rw (dot, turn) (long_product c.args.dot c.args.turn c.requires.dot c.requires.turn)

pub returns-clause-bound : goal.returns-clause-bound
returns-clause-bound c =
    let dot = c.from.ensures ∙ kept_is c.args.dot (omega (arith, c.requires.dot)) in
    let turn = c.from-2.ensures ∙ kept_is c.args.turn (omega (arith, c.requires.turn)) in
    rw (dot, turn, long_product c.args.dot c.args.turn c.requires.dot c.requires.turn)
    (long_product_bound c.args.dot c.args.turn c.requires.dot c.requires.turn)
