use Rattle.std.proofs.Common.{refl}
use Rattle.mesh_files.proofs.PositionRuns.{line_more}
use Rattle.mesh_files.proofs.shapes.Shape.end_line.Goals as goal

pub returns : goal.returns
returns c = λ tokens shape drawn.
    let line = rw c.in-Some.is at shape.open_is in
    let ended = c.in_ok-closing.ensures tokens line.1 drawn in
    (line_more tokens c.args.self.now _ _ shape ended.0 refl c.in_ok-push.ensures.items, ended.1)
