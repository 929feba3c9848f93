use Rattle.std.proofs.lemmas.List.{take_all}
use Rattle.std.proofs.lemmas.Result.{err_from_is_err_and}
use Rattle.triangulate_run.proofs.OutputLemmas.{part_before, passes_at, passes_nil, puts_behind}
use Rattle.triangulate_run.proofs.reply.put_faces.Goals as goal

pub loop-corners-init : goal.loop-corners-init
loop-corners-init g c = record { so_far = passes_nil _ _; works = c.requires.works }

pub loop-corners-preserved : goal.loop-corners-preserved
loop-corners-preserved g c =
    let put = c.in_ok-put_face.ensures in
    let so_far = c.loop-corners.invariant.so_far in
    record { so_far = passes_at _ _ _ _ c.loop-corners-test.true so_far put.0; works = put.1 }

pub returns-in_err-put_face : goal.returns-in_err-put_face
returns-in_err-put_face g c =
    let put = c.in_err-put_face.ensures in
    let so_far = c.loop-corners.invariant.so_far in
    let failed = err_from_is_err_and c.from_residual.result c.from_residual.ensures.1 in
    rw failed.1
    (part_before _ _ _ _ c.loop-corners-test.true so_far _ put.0, put.1)

pub returns : goal.returns
returns g c =
    let all = take_all _ _ c.loop-corners-test.false in
    puts_behind _ _ _ _ _ c.put_fragments.result _ _ (rw all at c.loop-corners.invariant.so_far)
    c.put_fragments.ensures
