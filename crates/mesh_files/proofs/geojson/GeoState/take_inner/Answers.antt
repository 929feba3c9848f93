use Rattle.std.proofs.lemmas.Result.{on_ok_weaker}
use Rattle.mesh_files.proofs.TokenRuns.{goes_on_draws}
use Rattle.mesh_files.proofs.geojson.GeoState.take_inner.Goals as goal

pub returns-then-self : goal.returns-then-self
returns-then-self c = on_ok_weaker c.take_in_list.result
    (goes_on_draws c.args.self.now c.take_in_list.new.self c.args.drawing.now)
    c.take_in_list.ensures

pub returns-in-Key : goal.returns-in-Key
returns-in-Key c = on_ok_weaker c.begin_member.result
    (goes_on_draws c.args.self.now c.begin_member.new.self c.args.drawing.now)
    c.begin_member.ensures
