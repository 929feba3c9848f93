use Rattle.plane_theorems.proofs.{Parts.Around.part_knows_faces, Parts.Behind.beyond_side_is_hidden}
use Rattle.plane_theorems.proofs.Parts.Known.{part_face_is_seen, part_faces_tie}
use Rattle.plane_theorems.proofs.parts_hold.Goals as goal

pub returns : goal.returns
returns c = record {
  part_face_is_seen = part_face_is_seen;
  part_faces_tie = part_faces_tie;
  part_knows_faces = part_knows_faces;
  beyond_side_is_hidden = beyond_side_is_hidden;
}
