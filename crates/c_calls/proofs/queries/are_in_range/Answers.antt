use Rattle.std.proofs.Common.{refl, arith}
use Rattle.{c_calls.proofs.Writing.ranges_more, delaunay_legalization.proofs.both_ways}
use Rattle.c_calls.proofs.queries.are_in_range.Goals as goal

pub loop-point-preserved : goal.loop-point-preserved
loop-point-preserved c = ranges_more c.args.points.now c.loop-point.point-index _ (omega arith)
    c.loop-point.invariant (c.is_in_range.ensures.0 c.if-not-is_in_range.false)

pub returns-then-not-is_in_range : goal.returns-then-not-is_in_range
returns-then-not-is_in_range c = (
  λ t. absurd (both_ways _ t refl),
  λ all. absurd (both_ways _
      (c.is_in_range.ensures.1 (all c.loop-point.point-index _ (omega arith)))
      c.if-not-is_in_range.true),
)

pub returns : goal.returns
returns c = (λ t k d h. c.loop-point.invariant k (omega arith) d, λ all. refl)
