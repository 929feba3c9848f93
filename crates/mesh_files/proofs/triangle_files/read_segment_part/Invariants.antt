use Rattle.std.proofs.Common.{ℕ, List}
use Rattle.mesh_files.specs.{SameNumbers, TakesRows}
use Rattle.mesh_files.proofs.triangle_files.read_segment_part.Given as goal

abbrev pub invariant-loop : goal.invariant-loop
invariant-loop l = (rows : List (List (List ℕ)))
    × TakesRows rows l.initial.source l.source
    × SameNumbers l.initial.drawing l.drawing
