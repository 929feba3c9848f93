use Rattle.std.proofs.Common.{◌≡◌, map, take}
use Rattle.std.specs.List.{All}
use Rattle.{drawing_faces.specs.Drawing.joining_of, drawing_faces.specs.HasEnds}
use Rattle.drawing_faces.proofs.edits.joinings.Given as goal

abbrev pub invariant-loop-segment : goal.invariant-loop-segment
invariant-loop-segment l = record {
  edits : l.edits.items ≡ map (joining_of l.vertices) (take l.segment-index l.segments);
  ends : All (HasEnds l.vertices l.count) (take l.segment-index l.segments);
}
