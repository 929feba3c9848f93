use Rattle.std.proofs.Common.{◌∙◌, ◌∷◌, sym}
use Rattle.json.specs.Token.{number}
use Rattle.mesh_files.proofs.{PositionRuns.runs_same, TokenRuns.height_kept, TokenRuns.height_read}
use Rattle.mesh_files.proofs.geojson.GeoState.take_height.Goals as goal

pub returns : goal.returns
returns c = λ tokens rest run h. record {
  wanted_is = height_read tokens rest c.args.word.now c.as_bytes.result.now c.args.position
      c.in_ok-height.height c.as_bytes.ensures.value c.in_ok-height.ensures.written
      (sym c.is_some.ensures ∙ c.if-is_some.false) (rw c.requires at h.wanted_is);
  shape_is = h.shape_is;
  drawn = runs_same tokens c.args.drawing.now c.number.new.self c.in_ok-height.ensures.same h.drawn;
}

pub returns-then-is_some : goal.returns-then-is_some
returns-then-is_some c = λ tokens rest run h. record {
  wanted_is = rw c.requires (height_kept c.args.position tokens (number c.args.word.now ∷ rest) rest
      (sym c.is_some.ensures ∙ c.if-is_some.true) (rw c.requires at h.wanted_is));
  shape_is = h.shape_is;
  drawn = h.drawn;
}
