use Rattle.mesh_files.proofs.Skips.{skip_is_behind}
use Rattle.mesh_files.proofs.json_text.JsonText.skip_value.Goals as goal

pub returns-in-Ok : goal.returns-in-Ok
returns-in-Ok c =
    skip_is_behind _ c.args.self.now.reader c.skip_value.new.self c.in-Ok.ensures.value
