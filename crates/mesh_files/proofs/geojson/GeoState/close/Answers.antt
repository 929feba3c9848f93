use Rattle.mesh_files.proofs.geojson.GeoState.close.Goals as goal
use goal.{in-None-outer, in-Some-outer}

pub returns : goal.returns
returns c = λ tokens rest shape drawn. elim c.match-outer-2.branch [
  | in-Some-outer w ↦ rw w.self-is (record {
    wanted_is = c.requires tokens rest;
    shape_is = shape;
    drawn = c.in_ok-draw-in-Ok.ensures tokens shape drawn;
  })
  | in-None-outer w ↦ rw w.self-is (record {
    wanted_is = c.requires tokens rest;
    shape_is = shape;
    drawn = c.in_ok-draw-in-Ok.ensures tokens shape drawn;
  })
]
