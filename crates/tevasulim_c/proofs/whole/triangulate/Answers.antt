use Rattle.{delaunay_legalization.proofs.both_ways, tevasulim_c.specs.Whole.drawn}
use Rattle.tevasulim_c.proofs.whole.triangulate.Goals as goal

pub draw-requires : goal.draw-requires
draw-requires c = record {
  in_range = c.in_default.ensures;
  few = λ more. both_ways _ (c.are_too_many.ensures.1 more) c.if-are_too_many.false;
}

pub returns : goal.returns
returns c = drawn (record {
  in_range = c.in_default.ensures;
  few = λ more. both_ways _ (c.are_too_many.ensures.1 more) c.if-are_too_many.false;
}) c.draw.ensures
