use Rattle.mesh_files.proofs.{PositionRuns.runs_same, TokenRuns.second_read}
use Rattle.mesh_files.proofs.geojson.GeoState.take_second.Goals as goal

pub returns : goal.returns
returns c = λ tokens rest run h. record {
  wanted_is = second_read tokens rest c.in-Number.word.now c.as_bytes.result.now c.args.x
      c.in_ok-y.y c.new.result c.as_bytes.ensures.value c.in_ok-y.ensures.written c.new.ensures.x
      c.new.ensures.y (rw (c.requires, c.in-Number.is) at h.wanted_is);
  shape_is = h.shape_is;
  drawn = runs_same tokens c.args.drawing.now c.number.new.self c.in_ok-y.ensures.same h.drawn;
}
