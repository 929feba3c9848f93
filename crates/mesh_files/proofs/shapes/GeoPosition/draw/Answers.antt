use Rattle.std.proofs.lemmas.Result.{on_ok_weaker}
use Rattle.mesh_files.proofs.PositionRuns.{run_added}
use Rattle.mesh_files.proofs.shapes.GeoPosition.draw.Goals as goal

pub returns : goal.returns
returns c = on_ok_weaker c.add_spot.result
    (run_added c.args.self.now c.args.drawing.now c.add_spot.new.self) c.add_spot.ensures
