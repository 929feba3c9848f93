use Rattle.std.proofs.Common.{refl, arith}
use Rattle.c_calls.specs.{kept_place}
use Rattle.c_calls.proofs.Chains.{path_ends, path_goes_on, path_stops}
use Rattle.c_calls.proofs.list_edits.constrain_path.Goals as goal

pub returns-then-status-ne-WELL : goal.returns-then-status-ne-WELL
returns-then-status-ne-WELL c =
    path_stops kept_place c.args.vertices.now c.loop-index.made c.loop-index.index
    c.constrain-status.result c.args.points.now c.loop-index.points c.constrain-status.new.points
    c.loop-index.invariant.0 c.loop-index-test.true c.loop-index.invariant.1
    c.constrain-status.ensures c.if-status-ne-WELL.true c.requires.there

pub loop-index-preserved : goal.loop-index-preserved
loop-index-preserved c = (
  refl,
  path_goes_on kept_place c.args.vertices.now c.loop-index.made c.loop-index.index
      c.constrain-status.result c.args.points.now c.loop-index.points c.constrain-status.new.points
      c.loop-index.invariant.0 c.loop-index-test.true c.loop-index.invariant.1
      c.constrain-status.ensures c.if-status-ne-WELL.false,
)

pub returns : goal.returns
returns c =
    let least = c.loop-index-test.false in let some = c.requires.some in
    let most = c.loop-index.auto.index-end in
    path_ends kept_place c.args.vertices.now c.loop-index.made c.loop-index.index
    c.args.points.now c.loop-index.points c.loop-index.invariant.0
    (omega (arith, least, most, some)) c.loop-index.invariant.1
