use Rattle.std.proofs.Common.{◌+◌, set, sym, subst, arith}
use Rattle.std.proofs.lemmas.Option.{slice_get-get_or}
use Rattle.c_calls.specs.{Answered}
use Rattle.{tevasulim_c.proofs.Drawings.one_more_named, tevasulim_c.specs.IsNamedOf}
use Rattle.tevasulim_c.proofs.whole.name_corners_of.Goals as goal

pub loop-index-preserved : goal.loop-index-preserved
loop-index-preserved c =
    let names = c.args.names.now in
    let l = c.loop-index in
    let below = c.loop-index-test.true in
    let room = c.requires in
    let same = l.auto.faces in
    subst (λ f. Answered (IsNamedOf names c.args.faces.now) (l.index + 1) c.args.faces.now
    (set l.faces l.index f)) (sym c.named_face.ensures)
    (one_more_named names l.index c.args.faces.now l.faces _ (omega (arith, below, room, same))
    l.invariant (slice_get-get_or l.faces l.index _ (omega (arith, below, room, same))))
