use Rattle.exact_predicates.proofs.Widths.{product_of, sum_bound, sum_fits, sum_of}
use Rattle.exact_predicates.proofs.dot_at.Goals as goal

pub overflow_add-result : goal.overflow_add-result
overflow_add-result g c =
    sum_fits c.product.result c.product-2.result c.product.ensures.bound c.product-2.ensures.bound

pub returns-clause-value : goal.returns-clause-value
returns-clause-value g c = sum_of c.product.ensures.bound c.product-2.ensures.bound
    (product_of c.difference.ensures.bound c.difference-2.ensures.bound c.difference.ensures.value
    c.difference-2.ensures.value c.product.ensures.value)
    (product_of c.difference-3.ensures.bound c.difference-4.ensures.bound
    c.difference-3.ensures.value c.difference-4.ensures.value c.product-2.ensures.value)

pub returns-clause-bound : goal.returns-clause-bound
returns-clause-bound g c =
    sum_bound c.product.result c.product-2.result c.product.ensures.bound c.product-2.ensures.bound
