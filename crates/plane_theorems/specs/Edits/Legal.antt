-- Edges that pass the circle test, and a number that falls as failing edges are flipped.
-- point_of points i: the point with index i; (0, 0) past the end of the list
-- Pass points i j k l: the faces i j k and j i l pass at their common edge: neither far corner is
--   inside the circle of the other face
-- AllPassBut points faces cs left: each edge passes, but perhaps constraints and those left to test
-- IsSideOfOne faces i j: i j is a side of a face
-- IsRoundSide a b c d i j: i j is a side of the quadrilateral a b c d
-- lifted_volume points faces: the sum of the lifted areas of the faces, without its sign; each flip
--   lowers it
use Rattle.std.specs.Prelude.{◌⊎◌, ℕ, List, ℤ, pos, ◌+ℤ◌, ◌*ℤ◌, nat_abs, slice_index_or}
use Rattle.plane.specs.{Face, InsideCircle, IsSamePair, Joins, place, Point, turn_at}
use Rattle.plane_theorems.specs.{Edits.Change.IsFaceOf, Tiling.Local.total}

-- the faces i j k and j i l pass at their common edge: neither opposite vertex is inside the
-- other's circle
abbrev pub Pass : List Point → ℕ → ℕ → ℕ → ℕ → Type 0
Pass points i j k l =
    (¬ InsideCircle (place points i) (place points j) (place points k) (place points l))
    × (¬ InsideCircle (place points j) (place points i) (place points l) (place points k))

-- each edge between two faces passes, but perhaps constraints and those that are left to test
abbrev pub AllPassBut : List Point → List Face → List (ℕ × ℕ) → List (ℕ × ℕ) → Type 0
AllPassBut points faces constraints left = (i j k l : ℕ) → IsFaceOf faces i j k
    → IsFaceOf faces j i l → ¬ Joins constraints i j → ¬ Joins left i j → Pass points i j k l

-- i and j are next to one another round the quadrilateral a b c d
abbrev pub IsRoundSide : ℕ → ℕ → ℕ → ℕ → ℕ → ℕ → Type 0
IsRoundSide a b c d i j = (IsSamePair i j a b ⊎ IsSamePair i j b c)
    ⊎ (IsSamePair i j c d ⊎ IsSamePair i j d a)

-- i and j are two corners of one of the faces
abbrev pub IsSideOfOne : List Face → ℕ → ℕ → Type 0
IsSideOfOne faces i j = (k : ℕ) × (IsFaceOf faces i j k ⊎ IsFaceOf faces j i k)

-- the squared length of the way from (0, 0) to p
abbrev pub squared_length : Point → ℤ
squared_length p = p.x *ℤ p.x +ℤ p.y *ℤ p.y

-- where a vertex is
abbrev pub point_of : List Point → ℕ → Point
point_of points i = slice_index_or points i (record { x = pos 0; y = pos 0 })

-- twice the area of a face times the sum of its corners' squared lengths: six times the volume
-- below the corners, each lifted by its squared length
abbrev pub lifted_area : List Point → Face → ℤ
lifted_area points f = turn_at (point_of points f.a) (point_of points f.b) (point_of points f.c)
    *ℤ (squared_length (point_of points f.a) +ℤ squared_length (point_of points f.b)
    +ℤ squared_length (point_of points f.c))

-- the sum of the faces' lifted areas, without its sign
abbrev pub lifted_volume : List Point → List Face → ℕ
lifted_volume points faces = nat_abs (total (lifted_area points) faces)
