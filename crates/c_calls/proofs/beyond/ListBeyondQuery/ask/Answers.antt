use Rattle.std.proofs.Common.{refl, arith, subst}
use Rattle.delaunay_legalization.specs.{triangulation_of}
use Rattle.c_calls.specs.{IsFlagAt, kept_place, listed}
use Rattle.c_calls.proofs.Writing.{all_answered, none_answered, one_more}
use Rattle.c_calls.proofs.beyond.ListBeyondQuery.ask.Goals as goal

pub loop-index-init : goal.loop-index-init
loop-index-init g c = none_answered _ c.args.flags.now

pub loop-index-preserved : goal.loop-index-preserved
loop-index-preserved g c =
    let room = c.loop-index.auto.flags in
    let s = g.T.Triangulation.state c.args.points.now in
    one_more _ c.loop-index.index c.args.flags.now c.loop-index.flags c.flag_at.result
    (omega (arith, room)) c.loop-index.invariant
    (subst (λ k. IsFlagAt (triangulation_of kept_place s) k c.loop-index.index c.flag_at.result)
    c.sides_of-sides.ensures c.flag_at.ensures)

pub returns : goal.returns
returns g c = listed refl c.num_inner_faces-count.ensures.value
    (all_answered _ c.loop-index.index _ c.args.flags.now c.loop-index.flags (omega arith)
    c.loop-index.invariant)
