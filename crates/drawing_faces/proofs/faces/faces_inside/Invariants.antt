use Rattle.std.proofs.Common.{◌≡◌, ◌++◌, ◌+◌, drop}
use Rattle.drawing_faces.specs.{faces_inside}
use Rattle.drawing_faces.proofs.faces.faces_inside.Given as goal

abbrev pub invariant-loop-i : goal.invariant-loop-i
invariant-loop-i l =
    l.kept.items ++ faces_inside (drop (l.i + 1) l.layers) (drop l.i l.faces)
    ≡ faces_inside (drop 1 l.layers) l.faces
