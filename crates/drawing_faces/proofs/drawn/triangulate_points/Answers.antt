use Rattle.std.proofs.Common.{◌≡◌, ◌⊎◌, ◌<◌, length, sym, subst}
use Rattle.std.specs.Prelude.{All}
use Rattle.{delaunay_edit.specs.none, delaunay_extensions.specs.HaveHandles}
use Rattle.drawing_faces.specs.{MayTake, Names.AreFirsts, position, RefusesPoints}
use Rattle.drawing_faces.proofs.Named.{placed_below, placed_names}
use Rattle.drawing_faces.proofs.Refusing.{places_refused, refused_by}
use Rattle.drawing_faces.proofs.drawn.triangulate_points.Goals as goal

pub first_indexes-requires : goal.first_indexes-requires
first_indexes-requires c =
    subst (All (λ h. h < c.num_vertices.result)) (sym c.as_slice.ensures.value)
    (placed_below none c.args.points.now c.in_ok-handles.handles.items c.new-plain.result
    c.insert_points.new.triangulation c.in_ok-handles.ensures.inserts c.num_vertices.result
    c.num_vertices.ensures.value)

pub returns-clause-vertices : goal.returns-clause-vertices
returns-clause-vertices c =
    placed_names none c.args.points.now c.in_ok-handles.handles.items c.new-plain.result
    c.insert_points.new.triangulation c.in_ok-handles.ensures.inserts c.num_vertices.result
    c.num_vertices.ensures.value c.new-plain.ensures.empty.vertices c.recall_invariant.ensures
    c.in_ok-vertices.vertices.items
    (subst (λ hs. AreFirsts c.num_vertices.result hs c.in_ok-vertices.vertices.items)
    c.as_slice.ensures.value c.in_ok-vertices.ensures.firsts)

pub returns-in_err-handles-clause-refuses : goal.returns-in_err-handles-clause-refuses
returns-in_err-handles-clause-refuses c =
    refused_by c.from_residual.result _ (RefusesPoints c.args.points.now 0)
    c.from_residual.ensures.1
    (subst (λ vs. RefusesPoints c.args.points.now (length vs)
    c.in_err-handles.field-0.0) c.new-plain.ensures.empty.vertices
    c.in_err-handles.ensures.refuses)

pub returns-in_err-vertices-clause-refuses : goal.returns-in_err-vertices-clause-refuses
returns-in_err-vertices-clause-refuses c =
    let points = c.args.points.now in
    refused_by c.from_residual-in_err-vertices.result _ (RefusesPoints points 0)
    c.from_residual-in_err-vertices.ensures.1
    (places_refused points c.as_slice.result.now c.insert_points.new.triangulation.vertices
    (subst (λ hs. HaveHandles position points hs c.insert_points.new.triangulation.vertices)
    (sym c.as_slice.ensures.value) c.in_ok-handles.ensures.inserts.handles_are)
    (subst (λ vs. MayTake points (length vs)) c.new-plain.ensures.empty.vertices
    c.in_ok-handles.ensures.may_take) _ c.in_err-vertices.ensures.refuses)

pub returns-clause-may_take : goal.returns-clause-may_take
returns-clause-may_take c =
    subst (λ vs. MayTake c.args.points.now (length vs)) c.new-plain.ensures.empty.vertices
    c.in_ok-handles.ensures.may_take
