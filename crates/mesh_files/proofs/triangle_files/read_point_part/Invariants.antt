use Rattle.std.proofs.Common.{◌≡◌, ℕ, List}
use Rattle.mesh_files.specs.{TakesRows, Triangle.DrawsPoints}
use Rattle.mesh_files.proofs.triangle_files.read_point_part.Given as goal

abbrev pub invariant-loop-index : goal.invariant-loop-index
invariant-loop-index l = (points : List (List (List ℕ)))
    × TakesRows points l.initial.source l.source
    × DrawsPoints points l.has_heights l.drawing
    × (l.drawing.holes.items ≡ l.initial.drawing.holes.items)
