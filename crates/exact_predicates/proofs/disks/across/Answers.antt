use Rattle.std.proofs.Common.{arith}
use Rattle.exact_predicates.proofs.Widths.{long_difference_fits, long_difference_of}
use Rattle.exact_predicates.proofs.Widths.{wide_difference_bound, wide_product_of}
use Rattle.exact_predicates.proofs.disks.across.Goals as goal

pub overflow_sub-result : goal.overflow_sub-result
overflow_sub-result c = long_difference_fits c.long_product.result c.long_product-2.result
    (omega (arith, c.long_product.ensures.bound)) (omega (arith, c.long_product-2.ensures.bound))

pub returns-clause-value : goal.returns-clause-value
returns-clause-value c = long_difference_of (omega (arith, c.long_product.ensures.bound))
    (omega (arith, c.long_product-2.ensures.bound))
    (wide_product_of c.args.a c.args.b c.requires.a c.requires.b c.long_product.ensures.value)
    (wide_product_of c.args.c c.args.d c.requires.c c.requires.d c.long_product-2.ensures.value)

pub returns-clause-bound : goal.returns-clause-bound
returns-clause-bound c = wide_difference_bound c.long_product.result c.long_product-2.result
    c.long_product.ensures.bound c.long_product-2.ensures.bound
