use Rattle.std.proofs.Common.{◌≡◌, map, take}
use Rattle.drawing_faces.specs.{face_of, places_of}
use Rattle.drawing_faces.proofs.names.name_corners.Given as goal

abbrev pub invariant-loop-face : goal.invariant-loop-face
invariant-loop-face l =
    l.rows.items ≡ map (λ c. places_of l.names (face_of c)) (take l.face-index l.faces)
