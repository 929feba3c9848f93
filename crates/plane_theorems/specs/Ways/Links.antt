-- Vertices that are joined by sides of free faces.
use Rattle.std.specs.Prelude.{◌≡◌, ◌⊎◌, ◌<◌, ℕ, Bool, true, false, List, [], ◌∷◌, length}
use Rattle.std.specs.Prelude.{Contains, slice_index_or}
use Rattle.plane.specs.{Fraction, InCorners, Triangulation}
use Rattle.plane_theorems.specs.Sight.Sight.{face_at, HasFreeFace}
use Rattle.plane_theorems.specs.Tiling.Local.{IsCorner}

-- a free face has a side between two vertices
abbrev pub IsLinked : Triangulation → (ℕ → Bool) → ℕ → ℕ → Type 0
IsLinked t free i j = HasFreeFace t free i j ⊎ HasFreeFace t free j i

-- each of these vertices is a corner of each closed face that has p
abbrev pub AreSharedCorners : Triangulation → Fraction → List ℕ → Type 0
AreSharedCorners t p vs = (n : ℕ) → n < length t.faces
    → InCorners t (face_at t n).a (face_at t n).b (face_at t n).c p
    → (v : ℕ) → Contains vs v → IsCorner (face_at t n) v

-- each of these vertices is linked with the next one, and the last one is among some vertices
abbrev pub IsPath : Triangulation → (ℕ → Bool) → List ℕ → List ℕ → Type 0
IsPath t free last [] = ⊥
IsPath t free last (v ∷ []) = Contains last v
IsPath t free last (v ∷ w ∷ vs) = IsLinked t free w v × IsPath t free last (w ∷ vs)

-- a path begins with one of some vertices
abbrev pub BeginsIn : List ℕ → List ℕ → Type 0
BeginsIn first [] = ⊥
BeginsIn first (v ∷ vs) = Contains first v

-- vertex v is marked
abbrev pub IsMarked : List Bool → ℕ → Type 0
IsMarked marks v = slice_index_or marks v false ≡ true

-- some vertices are closed under links, have the last ones and none of the first ones
pub record AreApart (t : Triangulation) (free : ℕ → Bool) (first last : List ℕ) : Type 0 where
  pub marks : List Bool
  pub followed : (v w : ℕ) → IsMarked marks v → IsLinked t free v w → IsMarked marks w
  pub begun : (v : ℕ) → Contains last v → IsMarked marks v
  pub none : (v : ℕ) → Contains first v → ¬ IsMarked marks v
