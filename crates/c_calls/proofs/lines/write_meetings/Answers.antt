use Rattle.std.proofs.Common.{◌+◌, List, length, sym, subst, arith}
use Rattle.std.specs.List.{AllZip}
use Rattle.delaunay_legalization.specs.{constraints_by, state_of}
use Rattle.delaunay_location.specs.{item_in}
use Rattle.{c_calls.proofs.Telling.all_told, c_calls.specs.IsMeeting, c_calls.specs.RawMeeting}
use Rattle.c_calls.proofs.Walked.{each_more, IsToldOf, item_mesh, item_more, meeting_of, no_more}
use Rattle.c_calls.proofs.Walked.{walk_begins, walk_ends, walk_goes_on}
use Rattle.c_calls.proofs.lines.write_meetings.Goals as goal

pub loop-item-init : goal.loop-item-init
loop-item-init g c =
    let at = g.V.HasPosition.place in
    let whole = g.V.Scalar.SpadeNum.whole in
    let line = c.args.line.now in
    let R = IsMeeting (constraints_by g.M.ConstraintMarker.constraints
    (state_of line.dcel.now)) in
    let Each = AllZip R in
    record { ready = c.requires.ready; so_far = walk_begins at whole Each line c.args.meetings.now tt }

pub overflow_add-count : goal.overflow_add-count
overflow_add-count g c =
    let at = g.V.HasPosition.place in
    let whole = g.V.Scalar.SpadeNum.whole in
    let line = c.args.line.now in
    let R = IsMeeting (constraints_by g.M.ConstraintMarker.constraints
    (state_of line.dcel.now)) in
    let Each = AllZip R in
    let more = item_more at whole Each line c.loop-item.line c.loop-item.count
    c.args.meetings.now c.loop-item.meetings c.loop-item.invariant.so_far c.next.new.self
    c.in-Some.item c.in-Some.ensures.steps c.requires.ready.items c.requires.ready.are_left
    (no_more R) in
    let few = c.requires.ready.few in
    omega (arith, more, few)

pub loop-item-preserved : goal.loop-item-preserved
loop-item-preserved g c =
    let at = g.V.HasPosition.place in
    let whole = g.V.Scalar.SpadeNum.whole in
    let line = c.args.line.now in
    let R = IsMeeting (constraints_by g.M.ConstraintMarker.constraints
    (state_of line.dcel.now)) in
    let Each = AllZip R in
    let mesh = item_mesh at whole Each line c.loop-item.line c.loop-item.count
    c.args.meetings.now c.loop-item.meetings c.loop-item.invariant.so_far c.next.new.self
    c.in-Some.item c.in-Some.ensures.steps c.requires.ready.items c.requires.ready.are_left in
    record {
      ready = c.in-Some.ensures.goes.keeps;
      so_far = subst (λ (now : List RawMeeting). IsToldOf at whole Each line c.next.new.self
          (c.loop-item.count + 1) c.args.meetings.now now) (sym c.put.ensures)
          (walk_goes_on at whole Each line c.loop-item.line c.loop-item.count
          c.args.meetings.now c.loop-item.meetings c.loop-item.invariant.so_far c.next.new.self
          c.in-Some.item c.in-Some.ensures.steps c.raw_meeting.result
          (λ ms bs e. each_more R ms bs (item_in c.in-Some.item) c.raw_meeting.result e
          (meeting_of at g.M.ConstraintMarker.marks g.M.ConstraintMarker.constraints
          g.met.M.ConstraintMarker.constraints_are_marked line.dcel c.requires.kept c.in-Some.item
          c.raw_meeting.result mesh c.raw_meeting.ensures)));
    }

pub returns : goal.returns
returns g c = λ items left.
    let at = g.V.HasPosition.place in
    let whole = g.V.Scalar.SpadeNum.whole in
    let line = c.args.line.now in
    let R = IsMeeting (constraints_by g.M.ConstraintMarker.constraints
    (state_of line.dcel.now)) in
    let Each = AllZip R in
    let all = walk_ends at whole Each line c.loop-item.line c.loop-item.count
    c.args.meetings.now c.loop-item.meetings c.loop-item.invariant.so_far c.next.new.self
    c.in_default.ensures.steps items left in (
      all.0,
      all.1,
      all_told all.0 (length c.loop-item.meetings) c.loop-item.count c.status_by_room.result
          c.args.meetings.now c.loop-item.meetings c.loop-item.auto.meetings all.2
          c.status_by_room.ensures,
    )
