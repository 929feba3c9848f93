-- Theorems: lines of sight over free faces.
use Rattle.plane_theorems.specs.Sight.Sight.{InFreeByPlace, SightByLine}

-- each field is a theorem
pub record SightTheorems : Type 0 where
  -- a segment is a line of sight exactly if its ends are in closed free faces and it passes
  -- free faces at each item that it meets
  pub sight_by_line : SightByLine
  -- whether a point is in a closed free face, by the face, edge or vertex that it is on
  pub in_free_by_place : InFreeByPlace
