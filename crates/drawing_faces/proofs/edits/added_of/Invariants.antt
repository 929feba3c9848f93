use Rattle.std.proofs.Common.{◌≡◌, map}
use Rattle.std.specs.List.{All}
use Rattle.drawing_faces.specs.Drawing.{is_added, IsDecided}
use Rattle.drawing_faces.proofs.edits.added_of.Given as goal

abbrev pub invariant-loop-outcome : goal.invariant-loop-outcome
invariant-loop-outcome l = (l.added.items ≡ map is_added l.yielded) × All IsDecided l.yielded
