use Rattle.std.proofs.Common.{length, refl, arith}
use Rattle.delaunay_legalization.specs.{constraints_by, state_of}
use Rattle.c_calls.specs.{AreCrossed}
use Rattle.c_calls.proofs.{Crossed.conflict_told, Crossed.crossed_few, Telling.all_told}
use Rattle.c_calls.proofs.Walked.{item_mesh, item_more, meeting_of, walk_begins, walk_ends}
use Rattle.c_calls.proofs.conflicts.write_crossed.Goals as goal

pub loop-item-init : goal.loop-item-init
loop-item-init g c =
    let at = g.V.HasPosition.place in
    let whole = g.V.Scalar.SpadeNum.whole in
    let line = c.args.line.now in
    let constraints = constraints_by g.M.ConstraintMarker.constraints (state_of line.dcel.now) in
    record {
      ready = c.requires.ready;
      so_far = walk_begins at whole (AreCrossed constraints) line c.args.conflicts.now refl;
    }

pub put_conflict-count-requires : goal.put_conflict-count-requires
put_conflict-count-requires g c =
    let at = g.V.HasPosition.place in
    let whole = g.V.Scalar.SpadeNum.whole in
    let line = c.args.line.now in
    let constraints = constraints_by g.M.ConstraintMarker.constraints (state_of line.dcel.now) in
    let more = item_more at whole (AreCrossed constraints) line c.loop-item.line c.loop-item.count
    c.args.conflicts.now c.loop-item.conflicts c.loop-item.invariant.so_far c.next.new.self
    c.in-Some.item c.in-Some.ensures.steps c.requires.ready.items c.requires.ready.are_left
    (crossed_few constraints) in
    let few = c.requires.ready.few in
    omega (arith, more, few)

pub loop-item-preserved : goal.loop-item-preserved
loop-item-preserved g c =
    let at = g.V.HasPosition.place in
    let whole = g.V.Scalar.SpadeNum.whole in
    let line = c.args.line.now in
    let constraints = constraints_by g.M.ConstraintMarker.constraints (state_of line.dcel.now) in
    let so_far = c.loop-item.invariant.so_far in
    let steps = c.in-Some.ensures.steps in
    let mesh = item_mesh at whole (AreCrossed constraints) line c.loop-item.line c.loop-item.count
    c.args.conflicts.now c.loop-item.conflicts so_far c.next.new.self c.in-Some.item steps
    c.requires.ready.items c.requires.ready.are_left in
    record {
      ready = c.in-Some.ensures.goes.keeps;
      so_far = conflict_told at whole constraints line c.loop-item.line c.next.new.self
          c.loop-item.count c.put_conflict-count.result c.args.conflicts.now c.loop-item.conflicts
          c.put_conflict-count.new.conflicts so_far c.in-Some.item steps c.raw_meeting-meeting.result
          (meeting_of at g.M.ConstraintMarker.marks g.M.ConstraintMarker.constraints
          g.met.M.ConstraintMarker.constraints_are_marked line.dcel c.requires.kept c.in-Some.item
          c.raw_meeting-meeting.result mesh c.raw_meeting-meeting.ensures)
          c.conflict_in.result c.conflict_in.ensures c.put_conflict-count.ensures;
    }

pub returns : goal.returns
returns g c = λ items left.
    let at = g.V.HasPosition.place in
    let whole = g.V.Scalar.SpadeNum.whole in
    let line = c.args.line.now in
    let constraints = constraints_by g.M.ConstraintMarker.constraints (state_of line.dcel.now) in
    let all = walk_ends at whole (AreCrossed constraints) line c.loop-item.line c.loop-item.count
    c.args.conflicts.now c.loop-item.conflicts c.loop-item.invariant.so_far c.next.new.self
    c.in_default.ensures.steps items left in (
      all.0,
      all.1,
      all_told all.0 (length c.loop-item.conflicts) c.loop-item.count c.status_by_room.result
          c.args.conflicts.now c.loop-item.conflicts c.loop-item.auto.conflicts all.2
          c.status_by_room.ensures,
    )
