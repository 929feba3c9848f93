use Rattle.std.proofs.Common.{◌∷◌, refl}
use Rattle.std.proofs.lemmas.Result.{on_ok_weaker}
use Rattle.json.specs.Token.{end_array}
use Rattle.mesh_files.proofs.TokenRuns.{position_read}
use Rattle.mesh_files.proofs.geojson.GeoState.end_position.Goals as goal

pub returns-in-Some : goal.returns-in-Some
returns-in-Some c = on_ok_weaker c.end_parts.result (λ draws tokens rest run h.
    let at = position_read tokens (end_array ∷ rest) c.args.position refl
    (rw c.requires at h.wanted_is) in
    let added = c.in_ok-add.ensures tokens at h.shape_is h.drawn in
    draws tokens rest added.0 added.1) c.end_parts.ensures

pub returns-in-None : goal.returns-in-None
returns-in-None c = λ tokens rest run h.
    let at = position_read tokens (end_array ∷ rest) c.args.position refl
    (rw c.requires at h.wanted_is) in
    let added = c.in_ok-add.ensures tokens at h.shape_is h.drawn in
    record { wanted_is = tt; shape_is = added.0; drawn = added.1 }
