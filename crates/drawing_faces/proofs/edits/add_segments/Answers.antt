use Rattle.std.proofs.Common.{length, subst}
use Rattle.std.specs.Prelude.{All}
use Rattle.drawing_faces.specs.{HasEnds, OutOfMemory, position, RefusesEnds}
use Rattle.drawing_faces.proofs.Refusing.{ok_anyway, refused_by, refused_only}
use Rattle.drawing_faces.proofs.Taking.{added_segments}
use Rattle.drawing_faces.proofs.edits.add_segments.Goals as goal

pub returns-in_err-edits-clause-refuses : goal.returns-in_err-edits-clause-refuses
returns-in_err-edits-clause-refuses g c =
    let old = g.T.Triangulation.state c.args.triangulation.now in
    refused_by c.from_residual.result _
    (RefusesEnds c.args.vertices.now (length old.vertices) c.args.segments.now)
    c.from_residual.ensures.1
    (subst (λ count. RefusesEnds c.args.vertices.now count c.args.segments.now
    c.in_err-edits.field-0.0)
    c.num_vertices.ensures.value c.in_err-edits.ensures.refuses)

pub returns-in_err-outcomes-clause-refuses : goal.returns-in_err-outcomes-clause-refuses
returns-in_err-outcomes-clause-refuses g c =
    let old = g.T.Triangulation.state c.args.triangulation.now in
    refused_by c.from_residual-in_err-outcomes.result _
    (RefusesEnds c.args.vertices.now (length old.vertices) c.args.segments.now)
    c.from_residual-in_err-outcomes.ensures.1 tt

pub returns-clause-adds : goal.returns-clause-adds
returns-clause-adds g c =
    added_segments position g.T.Constraints.ConstraintMarker.constraints g.T.Replayable.marking
    (g.T.Triangulation.state c.args.triangulation.now) (g.T.Triangulation.state c.replay.new.points)
    c.added_of.result (λ v. v.items) c.args.vertices.now c.args.segments.now
    c.in_ok-edits.edits.items c.in_ok-outcomes.outcomes.items c.in_ok-edits.ensures.edits
    c.in_ok-outcomes.ensures.answers c.added_of.ensures.added c.added_of.ensures.decided

pub returns-clause-ends : goal.returns-clause-ends
returns-clause-ends g c =
    ok_anyway c.added_of.result (subst (λ count. All (HasEnds c.args.vertices.now count)
    c.args.segments.now) c.num_vertices.ensures.value c.in_ok-edits.ensures.ends)

pub returns-clause-refuses : goal.returns-clause-refuses
returns-clause-refuses g c =
    let old = g.T.Triangulation.state c.args.triangulation.now in
    refused_only c.added_of.result OutOfMemory
    (RefusesEnds c.args.vertices.now (length old.vertices) c.args.segments.now)
    c.added_of.ensures.memory tt
