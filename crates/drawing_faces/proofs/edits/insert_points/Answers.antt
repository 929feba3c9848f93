use Rattle.std.proofs.Common.{length, refl, subst}
use Rattle.delaunay_extensions.specs.{InsertsAll}
use Rattle.drawing_faces.specs.{MayTake, position, Refusals.bulk_fault, RefusesPoints}
use Rattle.drawing_faces.proofs.Refusing.{bulk_refuses, points_may_be_taken, refused_by}
use Rattle.drawing_faces.proofs.edits.insert_points.Goals as goal

pub returns-in_err-values-clause-refuses : goal.returns-in_err-values-clause-refuses
returns-in_err-values-clause-refuses g c =
    let s = g.T.Triangulation.state c.args.triangulation.now in
    refused_by c.from_residual.result _ (RefusesPoints c.args.points.now (length s.vertices))
    c.from_residual.ensures.1 tt

pub returns-in_err-vertices-clause-refuses : goal.returns-in_err-vertices-clause-refuses
returns-in_err-vertices-clause-refuses g c =
    let constraints = g.T.Constraints.ConstraintMarker.constraints in
    let old = g.T.Triangulation.state c.args.triangulation.now in
    let new = g.T.Triangulation.state c.insert_all.new.self in
    refused_by c.from_residual-in_err-vertices.result _
    (RefusesPoints c.args.points.now (length old.vertices))
    c.from_residual-in_err-vertices.ensures.1
    (subst (λ points. RefusesPoints points (length old.vertices)
    (bulk_fault c.in_err-vertices.field-0.0)) c.in_ok-values.ensures
    (bulk_refuses constraints _ (length old.vertices) _ old new
    c.in_err-vertices.ensures.refuses _ refl c.in_err-vertices.ensures.stops))

pub returns-clause-inserts : goal.returns-clause-inserts
returns-clause-inserts g c =
    subst (λ points. InsertsAll position g.T.Constraints.ConstraintMarker.constraints points
    c.in_ok-vertices.vertices.items (g.T.Triangulation.state c.args.triangulation.now)
    (g.T.Triangulation.state c.insert_all.new.self)) c.in_ok-values.ensures
    c.in_ok-vertices.ensures.inserts

pub returns-clause-may_take : goal.returns-clause-may_take
returns-clause-may_take g c =
    let old = g.T.Triangulation.state c.args.triangulation.now in
    let new = g.T.Triangulation.state c.insert_all.new.self in
    subst (λ points. MayTake points (length old.vertices)) c.in_ok-values.ensures
    (points_may_be_taken g.T.Constraints.ConstraintMarker.constraints _ (length old.vertices) _ old
    new c.in_ok-vertices.ensures.refuses c.in_ok-vertices.vertices
    c.in_ok-vertices.vertices.items new.vertices refl
    c.in_ok-vertices.ensures.inserts.handles_are c.recall_invariant-2.ensures.in_range)
