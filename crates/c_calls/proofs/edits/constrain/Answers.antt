use Rattle.{c_calls.proofs.Edited.addition_ended, c_calls.specs.kept_place}
use Rattle.c_calls.proofs.edits.constrain.Goals as goal

pub returns : goal.returns
returns c =
    addition_ended kept_place c.args.from c.args.to c.status_of_edit.result c.args.points.now
    c.make_edit.new.points c.make_edit.result c.status_of_edit.ensures
    (rw (c.from_index-from.ensures, c.from_index-to.ensures) at c.make_edit.ensures.gives)
