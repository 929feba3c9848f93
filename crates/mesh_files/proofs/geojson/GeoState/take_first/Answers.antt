use Rattle.mesh_files.proofs.{PositionRuns.runs_same, TokenRuns.first_read}
use Rattle.mesh_files.proofs.geojson.GeoState.take_first.Goals as goal

pub returns : goal.returns
returns c = λ tokens rest run h. record {
  wanted_is = first_read tokens rest c.args.word.now c.as_bytes.result.now c.in_ok-x.x
      c.as_bytes.ensures.value c.in_ok-x.ensures.written run;
  shape_is = h.shape_is;
  drawn = runs_same tokens c.args.drawing.now c.number.new.self c.in_ok-x.ensures.same h.drawn;
}
