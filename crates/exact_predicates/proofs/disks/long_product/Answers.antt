use Rattle.std.proofs.Common.{◌∙◌, arith}
use Rattle.exact_predicates.proofs.Widths.{kept_is, wide_product, wide_product_bound}
use Rattle.exact_predicates.proofs.disks.long_product.Goals as goal

pub returns-clause-value : goal.returns-clause-value
returns-clause-value c =
    let a = c.from.ensures ∙ kept_is c.args.a (omega (arith, c.requires.a)) in
    let b = c.from-2.ensures ∙ kept_is c.args.b (omega (arith, c.requires.b)) in
    rw (a, b) (wide_product c.args.a c.args.b c.requires.a c.requires.b)

pub returns-clause-bound : goal.returns-clause-bound
returns-clause-bound c =
    let a = c.from.ensures ∙ kept_is c.args.a (omega (arith, c.requires.a)) in
    let b = c.from-2.ensures ∙ kept_is c.args.b (omega (arith, c.requires.b)) in
    rw (a, b, wide_product c.args.a c.args.b c.requires.a c.requires.b)
    (wide_product_bound c.args.a c.args.b c.requires.a c.requires.b)
