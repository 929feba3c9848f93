use Rattle.std.proofs.Common.{take}
use Rattle.std.specs.List.{All}
use Rattle.drawing_faces.specs.Splitting.{EndsAtVertices}
use Rattle.drawing_faces.proofs.splits.all_end_at_vertices.Given as goal

abbrev pub invariant-loop-segment : goal.invariant-loop-segment
invariant-loop-segment l = All (EndsAtVertices l.count) (take l.segment-index l.segments)
