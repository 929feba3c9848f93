use Rattle.delaunay_ways.proofs.Heights.{difference_fits, difference_of, product_of}
use Rattle.delaunay_ways.proofs.wide.turn_at.Goals as goal

pub overflow_sub-result : goal.overflow_sub-result
overflow_sub-result g c =
    difference_fits c.product.result c.product-2.result c.product.ensures.bound
    c.product-2.ensures.bound

pub returns : goal.returns
returns g c = difference_of c.product.ensures.bound c.product-2.ensures.bound
    (product_of c.difference.ensures.bound c.difference-2.ensures.bound c.difference.ensures.value
    c.difference-2.ensures.value c.product.ensures.value)
    (product_of c.difference-3.ensures.bound c.difference-4.ensures.bound
    c.difference-3.ensures.value c.difference-4.ensures.value c.product-2.ensures.value)
