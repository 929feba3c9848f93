use Rattle.std.proofs.Common.{List}
use Rattle.json.specs.Token.{Token}
use Rattle.mesh_files.specs.{DrawsRuns, HasPositions}
use Rattle.mesh_files.proofs.shapes.Shape.draw.Given as goal

abbrev pub invariant-loop-line : goal.invariant-loop-line
invariant-loop-line l = (tokens : List Token) → HasPositions tokens l.fn.self
    → DrawsRuns tokens l.initial.drawing → DrawsRuns tokens l.drawing
