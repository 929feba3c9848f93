use Rattle.std.proofs.Common.{◌≡◌}
use Rattle.mesh_files.specs.{rows_of}
use Rattle.mesh_files.proofs.words.WordLines.next_line.Given as goal

abbrev pub invariant-loop : goal.invariant-loop
invariant-loop l = rows_of l.self.rest.now ≡ rows_of l.initial.self.rest.now
