use Rattle.{delaunay_core.proofs.Projections.product_bound, delaunay_ways.proofs.Heights.multiplied}
use Rattle.delaunay_ways.proofs.wide.product.Goals as goal

pub returns-clause-value : goal.returns-clause-value
returns-clause-value c = multiplied c.args.a c.args.b c.requires.a c.requires.b

pub returns-clause-bound : goal.returns-clause-bound
returns-clause-bound c = rw (multiplied c.args.a c.args.b c.requires.a c.requires.b)
    (product_bound c.args.a c.args.b c.requires.a c.requires.b)
