use Rattle.std.proofs.Common.{◌≡◌, ◌++◌, ℕ, List, length, drop, refl, subst}
use Rattle.delaunay_extensions.specs.{InsertsAll, StopsAt}
use Rattle.c_calls.specs.{kept_place, Lists.insertion_refused, NumberedPoint, unnumbered_points}
use Rattle.c_calls.proofs.Listed.{is_all_inserted, is_stopped}
use Rattle.c_calls.proofs.list_edits.insert_in_range.Goals as goal

pub returns-in-Ok-insert_all : goal.returns-in-Ok-insert_all
returns-in-Ok-insert_all g c =
    let constraints = g.T.Constraints.ConstraintMarker.constraints in
    let old = g.T.Triangulation.state c.args.points.now in
    let new = g.T.Triangulation.state c.insert_all.new.self in
    is_all_inserted kept_place constraints (unnumbered_points c.args.positions.now)
    c.args.indexes.now c.write_indexes.new.indexes old new c.requires
    c.in-Ok-insert_all.handles.items
    (subst (λ (list : List NumberedPoint).
    InsertsAll kept_place constraints list c.in-Ok-insert_all.handles.items old new) c.in-Ok.ensures
    c.in-Ok-insert_all.ensures.inserts)
    (subst (λ (handles : List ℕ). c.write_indexes.new.indexes
    ≡ handles ++ drop (length handles) c.args.indexes.now) c.as_slice.ensures.value
    c.write_indexes.ensures)

pub returns-in-Err : goal.returns-in-Err
returns-in-Err g c =
    let constraints = g.T.Constraints.ConstraintMarker.constraints in
    let old = g.T.Triangulation.state c.args.points.now in
    let new = g.T.Triangulation.state c.insert_all.new.self in
    is_stopped kept_place constraints (unnumbered_points c.args.positions.now) c.args.indexes.now
    c.args.indexes.now old new c.requires refl c.in-Err.field-0
    (subst (λ (list : List NumberedPoint).
    StopsAt kept_place constraints list c.in-Err.field-0 old new) c.in-Ok.ensures
    c.in-Err.ensures.stops)

pub returns-in_default : goal.returns-in_default
returns-in_default g c = insertion_refused refl c.requires refl refl
