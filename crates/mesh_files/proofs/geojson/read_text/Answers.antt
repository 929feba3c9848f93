use Rattle.mesh_files.proofs.TokenRuns.{nothing_read}
use Rattle.mesh_files.proofs.geojson.read_text.Goals as goal

pub read_object-requires : goal.read_object-requires
read_object-requires c = nothing_read c.new-text.result.reader c.new-state.result c.args.drawing.now
    c.new-state.ensures.wanted (c.new-state.ensures.shape c.new-text.result.reader) c.requires
