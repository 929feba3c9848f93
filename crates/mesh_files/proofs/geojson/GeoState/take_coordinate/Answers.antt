use Rattle.std.proofs.lemmas.Result.{on_ok_weaker}
use Rattle.mesh_files.proofs.geojson.GeoState.take_coordinate.Goals as goal

pub returns-in-Number : goal.returns-in-Number
returns-in-Number c = rw c.in-Number.is c.take_first.ensures

pub returns-in-Some : goal.returns-in-Some
returns-in-Some c = on_ok_weaker c.end_parts.result
    (λ draws tokens rest run h. draws tokens rest h.shape_is h.drawn) c.end_parts.ensures
