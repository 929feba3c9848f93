use Rattle.std.proofs.Common.{◌∙◌, ◌+◌, List, length, map, take, set, sym, ap, subst, arith}
use Rattle.std.specs.Prelude.{pos}
use Rattle.c_calls.specs.{raw_point, RawPoint}
use Rattle.c_calls.proofs.Guided.{images_all, images_more}
use Rattle.c_calls.proofs.Telling.{all_told, IsTold, none_told}
use Rattle.c_calls.proofs.ways.write_points.Goals as goal

pub loop-index-init : goal.loop-index-init
loop-index-init c = none_told c.args.points.now

pub loop-index-preserved : goal.loop-index-preserved
loop-index-preserved c =
    let found = c.args.found.now in
    let index = c.loop-index.index in
    subst (λ (now : List RawPoint). IsTold (map raw_point (take (index + 1) found)) (index + 1)
    c.args.points.now now) (sym (c.put.ensures ∙ ap (set c.loop-index.points index)
    c.raw_point.ensures))
    (images_more raw_point found index c.args.points.now c.loop-index.points
    (record { x = pos 0; y = pos 0 }) c.loop-index-test.true c.loop-index.invariant)

pub returns : goal.returns
returns c =
    let found = c.args.found.now in
    let least = c.loop-index-test.false in let most = c.loop-index.auto.index-end in
    all_told (map raw_point found) (length c.loop-index.points) (length found)
    c.status_by_room.result c.args.points.now c.loop-index.points c.loop-index.auto.points
    (images_all raw_point found c.loop-index.index c.args.points.now c.loop-index.points
    (omega (arith, least, most)) c.loop-index.invariant) c.status_by_room.ensures
