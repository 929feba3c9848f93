use Rattle.std.proofs.Common.{subst}
use Rattle.std.specs.Prelude.{All}
use Rattle.std.proofs.lemmas.List.{take_all}
use Rattle.std.proofs.lemmas.List.Elements.{All-more}
use Rattle.{drawing_faces.proofs.Taking.joining_more, drawing_faces.specs.HasEnds}
use Rattle.drawing_faces.proofs.edits.joinings.Goals as goal

pub loop-segment-preserved : goal.loop-segment-preserved
loop-segment-preserved c =
    let vertices = c.args.vertices.now in
    let segments = c.args.segments.now in
    let i = c.loop-segment.segment-index in
    record {
      edits = joining_more vertices segments i _ c.in-Some.ends
          c.loop-segment.edits.items _ c.loop-segment-test.true c.in-Some.ensures.1
          c.loop-segment.invariant.edits c.in_ok-push.ensures.items;
      ends = All-more (HasEnds vertices c.args.count) segments i _ c.loop-segment-test.true
          c.loop-segment.invariant.ends c.in-Some.ensures.0;
    }

pub returns-clause-ends : goal.returns-clause-ends
returns-clause-ends c =
    subst (All (HasEnds c.args.vertices.now c.args.count))
    (take_all c.loop-segment.segment-index c.args.segments.now c.loop-segment-test.false)
    c.loop-segment.invariant.ends
