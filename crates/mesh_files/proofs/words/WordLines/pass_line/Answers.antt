use Rattle.mesh_files.proofs.WordRows.{next_line_is}
use Rattle.mesh_files.proofs.words.WordLines.pass_line.Goals as goal

pub returns : goal.returns
returns c = rw c.behind_first-self.ensures
    (next_line_is c.args.self.now.rest.now c.split.result.0.now c.split.result.1.now c.requires
    c.split.ensures.split c.split.ensures.within c.split.ensures.ended)
