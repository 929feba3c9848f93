use Rattle.std.proofs.Common.{[], refl}
use Rattle.{mesh_files.proofs.TokenRuns.on_ok_too, mesh_files.specs.DrawsRuns}
use Rattle.mesh_files.proofs.geojson.read_object.Goals as goal

pub loop-init : goal.loop-init
loop-init c = ([], refl, c.requires)

pub loop-preserved : goal.loop-preserved
loop-preserved c = c.in_ok-read_token.ensures c.args.text.now.reader c.loop.invariant

pub returns-then-state : goal.returns-then-state
returns-then-state c = on_ok_too c.end.result
    (DrawsRuns c.args.text.now.reader c.read_token.new.drawing)
    (c.in_ok-read_token.ensures c.args.text.now.reader c.loop.invariant).2.drawn
