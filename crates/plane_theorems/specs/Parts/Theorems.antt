-- Theorems: which faces of a part of the points and constraints are faces of the whole, and what
-- the part need not know of it.
use Rattle.plane_theorems.specs.Parts.Hidden.{BeyondSideIsHidden}
use Rattle.plane_theorems.specs.Parts.Parts.{PartFaceIsSeen, PartFacesTie, PartKnowsFaces}

-- each field is a theorem
pub record PartTheorems : Type 0 where
  -- a triple of a part that no constraint enters, and whose circle neither contains nor
  -- carries another vertex that is seen from inside it, is a face of the whole, where the part
  -- knows each vertex of the whole that is seen from inside the triple and that the closed
  -- disk has, and each constraint of the whole that enters the triple
  pub part_face_is_seen : PartFaceIsSeen
  -- a face of a part that knows what the whole has in its closed disk, in this sense, has one
  -- circle with each face of the whole that overlaps it
  pub part_faces_tie : PartFacesTie
  -- where a part with the hull of the whole knows the disks of its faces at a vertex, each
  -- face of the whole there has one circle with a face of the part there
  pub part_knows_faces : PartKnowsFaces
  -- within the closed disk of a triple of a part, what the whole has beyond a side that is a
  -- constraint of the part is not seen from inside the triple, so the part need not know it
  pub beyond_side_is_hidden : BeyondSideIsHidden
