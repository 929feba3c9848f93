-- Lines of sight: segments over faces that are free, and how the items that a segment meets tell
-- them.
use Rattle.std.specs.Prelude.{◌≢◌, ◌⊎◌, ◌↔◌, ◌<◌, ℕ, Bool, List, length}
use Rattle.std.specs.Prelude.{⊤, IsTrue, Contains, slice_index_or}
use Rattle.plane.specs.{across, along, at_vertex, Face, face, Fraction, InCorners, InsideCorners}
use Rattle.plane.specs.{IsEdge, IsFace, IsLineList, IsOuter, IsSame, IsVertex, Item, on, OnSegment}
use Rattle.plane.specs.{side, TilesHull, Triangulation, TurnsLeft, vertex, WithinSegment}
use Rattle.plane_theorems.specs.Tiling.Laws.{IsTurned}

-- face n of the list
abbrev pub face_at : Triangulation → ℕ → Face
face_at t n = slice_index_or t.faces n (face 0 0 0)

-- p is in a closed face that is free
pub record IsInFree (t : Triangulation) (free : ℕ → Bool) (p : Fraction) : Type 0 where
  pub index : ℕ
  pub within : index < length t.faces
  pub is_free : IsTrue (free index)
  pub inside : InCorners t (face_at t index).a (face_at t index).b (face_at t index).c p

-- each point of the segment from p to q is in a closed face that is free
abbrev pub IsInSight : Triangulation → (ℕ → Bool) → Fraction → Fraction → Type 0
IsInSight t free p q = (r : Fraction) → OnSegment p q r → IsInFree t free r

-- the face on the left of the way from i to j is free
pub record HasFreeFace (t : Triangulation) (free : ℕ → Bool) (i j : ℕ) : Type 0 where
  pub index : ℕ
  pub within : index < length t.faces
  pub is_free : IsTrue (free index)
  pub third : ℕ
  pub corners : IsTurned (face_at t index).a (face_at t index).b (face_at t index).c i j third

-- the faces that the segment from p to q has beside an item which it meets are free: both at a
-- crossed edge, but that on the right of an edge that carries p, and that on the left of one that
-- carries q; one of both at an edge that it runs along
abbrev pub PassesFree : Triangulation → (ℕ → Bool) → Fraction → Fraction → Item → Type 0
PassesFree t free p q (at_vertex i) = ⊤
PassesFree t free p q (across i j) =
    (side (vertex t i) (vertex t j) p ≢ on → HasFreeFace t free j i)
    × (side (vertex t i) (vertex t j) q ≢ on → HasFreeFace t free i j)
PassesFree t free p q (along i j) = HasFreeFace t free i j ⊎ HasFreeFace t free j i

-- a segment is a line of sight exactly if its ends are in closed free faces and it passes free
-- faces at each item of its line list
abbrev pub SightByLine : Type 0
SightByLine = (t : Triangulation) → TilesHull t → (free : ℕ → Bool) (p q : Fraction)
    (items : List Item) → IsLineList t p q items → IsInSight t free p q
    ↔ (IsInFree t free p × IsInFree t free q
    × ((m : Item) → Contains items m → PassesFree t free p q m))

-- a point is in a closed free face by where it is: strictly inside the face, within an edge with
-- one beside it, at a vertex with one around it, and never on the left of an outer edge
abbrev pub InFreeByPlace : Type 0
InFreeByPlace = (t : Triangulation) → TilesHull t → (free : ℕ → Bool) (p : Fraction)
    → ((i j k : ℕ) → IsFace t i j k → InsideCorners t i j k p
    → IsInFree t free p ↔ HasFreeFace t free i j)
    × ((i j : ℕ) → IsEdge t i j → WithinSegment (vertex t i) (vertex t j) p
    → IsInFree t free p ↔ (HasFreeFace t free i j ⊎ HasFreeFace t free j i))
    × ((i : ℕ) → IsVertex t i → IsSame p (vertex t i)
    → IsInFree t free p ↔ ((j : ℕ) × HasFreeFace t free i j))
    × ((i j : ℕ) → IsOuter t i j → TurnsLeft (vertex t i) (vertex t j) p → ¬ IsInFree t free p)
