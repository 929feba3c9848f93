use Rattle.std.proofs.Common.{arith, refl, subst}
use Rattle.std.specs.Prelude.{All}
use Rattle.std.proofs.lemmas.List.{take_all}
use Rattle.std.proofs.lemmas.List.Elements.{All-more}
use Rattle.drawing_faces.specs.Splitting.{EndsAtVertices}
use Rattle.drawing_faces.proofs.splits.all_end_at_vertices.Goals as goal

pub loop-segment-preserved : goal.loop-segment-preserved
loop-segment-preserved c =
    All-more (EndsAtVertices c.args.count) c.args.segments.now c.loop-segment.segment-index _
    c.loop-segment-test.true c.loop-segment.invariant
    (subst (EndsAtVertices c.args.count) c.segment-item.is (
      omega (arith, c.index.ensures, c.if-index-count.false),
      omega (arith, c.index-else-index-count.ensures, c.if-index-count-2.false),
    ))

pub returns : goal.returns
returns c = (
  λ t. subst (All (EndsAtVertices c.args.count))
      (take_all c.loop-segment.segment-index c.args.segments.now c.loop-segment-test.false)
      c.loop-segment.invariant,
  λ all. refl,
)
