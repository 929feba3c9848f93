use Rattle.{c_calls.proofs.Edited.removal_ended, c_calls.specs.kept_place}
use Rattle.c_calls.proofs.edits.remove.Goals as goal

pub returns : goal.returns
returns g c =
    removal_ended kept_place g.T.Constraints.ConstraintMarker.constraints g.T.Replayable.marking
    (g.T.Triangulation.state c.args.points.now) (g.T.Triangulation.state c.make_edit.new.points)
    c.args.vertex c.status_of_edit.result c.make_edit.result c.status_of_edit.ensures
    (rw c.from_index-vertex.ensures at c.make_edit.ensures.gives)
