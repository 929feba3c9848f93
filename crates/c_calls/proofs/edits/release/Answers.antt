use Rattle.{c_calls.proofs.Edited.release_ended, c_calls.specs.kept_place}
use Rattle.c_calls.proofs.edits.release.Goals as goal

pub returns : goal.returns
returns c =
    release_ended kept_place c.args.from c.args.to c.status_of_edit.result c.args.points.now
    c.make_edit.new.points (
      c.is_vertex.ensures.0 c.if-not-is_vertex.false,
      c.is_vertex-else-not-is_vertex.ensures.0 c.if-not-is_vertex-2.false,
    ) c.make_edit.result c.status_of_edit.ensures
    (rw (c.from_index-from.ensures, c.from_index-to.ensures) at c.make_edit.ensures.gives)
