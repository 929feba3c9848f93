use Rattle.std.proofs.Common.{refl, arith}
use Rattle.c_calls.specs.{listed}
use Rattle.c_calls.proofs.Writing.{all_answered, none_answered, one_more}
use Rattle.c_calls.proofs.lists.write_faces.Goals as goal

pub loop-index-init : goal.loop-index-init
loop-index-init g c = none_answered _ c.args.faces.now

pub loop-index-preserved : goal.loop-index-preserved
loop-index-preserved g c =
    let room = c.loop-index.auto.faces in
    one_more _ c.loop-index.index c.args.faces.now c.loop-index.faces c.face_at.result
    (omega (arith, room)) c.loop-index.invariant c.face_at.ensures

pub returns : goal.returns
returns g c = listed refl c.num_inner_faces-count.ensures.value
    (all_answered _ c.loop-index.index _ c.args.faces.now c.loop-index.faces (omega arith)
    c.loop-index.invariant)
