-- What a constraint at a side of a triple hides of the triple's disk.
use Rattle.std.specs.Prelude.{◌⊎◌, ℕ, List}
use Rattle.plane.specs.{InsideCircle, IsSeen, Joins, OnCircle, Triangulation, TurnsLeft, vertex}
use Rattle.plane_theorems.specs.Parts.Parts.{IsPartOfPlane}

-- within the closed disk of a triple of a part, all vertices of the whole beyond a side that is a
-- constraint of the part are hidden
abbrev pub BeyondSideIsHidden : Type 0
BeyondSideIsHidden = (s t : Triangulation) (constraints others : List (ℕ × ℕ))
    → IsPartOfPlane s constraints t others
    → (i j k n : ℕ) → TurnsLeft (vertex s i) (vertex s j) (vertex s k) → Joins constraints i j
    → TurnsLeft (vertex s j) (vertex s i) (vertex t n)
    → InsideCircle (vertex s i) (vertex s j) (vertex s k) (vertex t n)
    ⊎ OnCircle (vertex s i) (vertex s j) (vertex s k) (vertex t n)
    → ¬ IsSeen t others (vertex s i) (vertex s j) (vertex s k) (vertex t n)
