use Rattle.std.proofs.Common.{ℕ, List}
use Rattle.mesh_files.specs.{Drawn.DrawsHoles, Drawn.SamePoints, TakesRows}
use Rattle.mesh_files.proofs.triangle_files.read_holes.Given as goal

abbrev pub invariant-loop : goal.invariant-loop
invariant-loop l = (rows : List (List (List ℕ)))
    × TakesRows rows l.initial.source l.source
    × DrawsHoles rows l.drawing
    × SamePoints l.initial.drawing l.drawing
