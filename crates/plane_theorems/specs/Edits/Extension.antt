-- A new vertex outside the hull, while it is joined to one outer edge after another.
use Rattle.std.specs.Prelude.{◌≡◌, ℕ, ◌<◌, List, [], ◌∷◌, ◌++◌, length, Contains}
use Rattle.plane.specs.{Face, face, place, Point, TurnsLeft}
use Rattle.plane_theorems.specs.Edits.Change.{FacesChange, OuterChange}

-- the faces on the edges of a path from u, with the corner q
abbrev pub fan : ℕ → ℕ → List ℕ → List Face
fan q u [] = []
fan q u (v ∷ vs) = face u v q ∷ fan q v vs

-- the edges of a path from u
abbrev pub steps : ℕ → List ℕ → List (ℕ × ℕ)
steps u [] = []
steps u (v ∷ vs) = (u, v) ∷ steps v vs

-- the end of a path from u
abbrev pub last_of : ℕ → List ℕ → ℕ
last_of u [] = u
last_of u (v ∷ vs) = last_of v vs

-- the edges of the path are outer edges that have the point n on their left
abbrev pub IsSeenRun : List Point → ℕ → List (ℕ × ℕ) → ℕ → List ℕ → Type 0
IsSeenRun points n outer u [] = Unit {0}
IsSeenRun points n outer u (v ∷ vs) = Contains outer (u, v)
    × TurnsLeft (place points u) (place points v) (place points n) × IsSeenRun points n outer v vs

-- the new vertex q is joined to the outer edges from u to w, all of which it sees: faces and outer
-- edges before and now
pub record IsExtending (points : List Point) (q : Point) (faces new : List Face)
    (outer now : List (ℕ × ℕ)) (u w : ℕ) : Type 0 where
  pub second : ℕ
  pub rest : List ℕ
  pub last : last_of second rest ≡ w
  pub ends : (i j : ℕ) → Contains outer (i, j) → (i < length points) × (j < length points)
  pub run : IsSeenRun (points ++ q ∷ []) (length points) outer u (second ∷ rest)
  pub faces_change : FacesChange faces new [] (fan (length points) u (second ∷ rest))
  pub outer_change :
      OuterChange outer now (steps u (second ∷ rest)) ((u, length points) ∷ (length points, w) ∷ [])
