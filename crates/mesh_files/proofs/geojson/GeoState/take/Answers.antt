use Rattle.std.proofs.lemmas.Result.{on_ok_weaker}
use Rattle.mesh_files.proofs.TokenRuns.{goes_on_draws}
use Rattle.mesh_files.proofs.geojson.GeoState.take.Goals as goal

pub take_inner-requires : goal.take_inner-requires
take_inner-requires c = rw c.in-Inner.is (λ tokens rest. tt)

pub returns-in-Inner : goal.returns-in-Inner
returns-in-Inner c = on_ok_weaker c.take_inner.result
    (λ draws tokens rest run h. draws tokens rest h.shape_is h.drawn) c.take_inner.ensures

pub returns-in-Ok : goal.returns-in-Ok
returns-in-Ok c = on_ok_weaker c.take_step.result (λ goes tokens rest run h.
    goes_on_draws c.args.self.now c.take_step.new.self c.args.drawing.now goes tokens rest
    h.shape_is h.drawn) c.take_step.ensures
