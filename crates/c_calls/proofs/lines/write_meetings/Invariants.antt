use Rattle.std.specs.List.{AllZip}
use Rattle.delaunay_legalization.specs.{constraints_by, state_of}
use Rattle.c_calls.specs.{IsMeeting}
use Rattle.{c_calls.proofs.Walked.IsToldOf, delaunay_location.specs.IsReady}
use Rattle.c_calls.proofs.lines.write_meetings.Given as goal

abbrev pub invariant-loop-item : goal.invariant-loop-item
invariant-loop-item g l = record {
  ready : IsReady g.V.HasPosition.place g.V.Scalar.SpadeNum.whole g.P.PlaneTests.sites
      g.P.PlaneTests.covered l.line;
  so_far : IsToldOf g.V.HasPosition.place g.V.Scalar.SpadeNum.whole
      (AllZip (IsMeeting (constraints_by g.M.ConstraintMarker.constraints
      (state_of l.fn.line.dcel.now))))
      l.fn.line l.line l.count l.fn.meetings l.meetings;
}

abbrev pub decreases-loop-item : goal.decreases-loop-item
decreases-loop-item g l = l.line.left
