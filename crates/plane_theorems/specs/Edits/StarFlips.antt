-- The faces round a vertex after a flip of one of its edges: the neighbours without the one that it
-- led to.
use Rattle.std.specs.Prelude.{◌≡◌, ℕ, suc, ◌+◌, ◌-◌, ◌<◌, ◌≤◌, List, [], ◌∷◌, nat_lt, if◌then◌else◌}
use Rattle.plane.specs.{Face, face, place, Point, TurnsLeft}
use Rattle.plane_theorems.specs.Edits.Change.{FacesChange, OuterChange}
use Rattle.plane_theorems.specs.Edits.Removal.{IsStar}
use Rattle.plane_theorems.specs.{Edits.RemovalHull.IsHullStar, Tiling.Local.LocalMesh}

-- the edge from v to neighbour i + 1, across a strictly convex quadrilateral, is flipped
pub record IsStarFlip (points : List Point) (faces new : List Face) (outer outer' : List (ℕ × ℕ))
    (v : ℕ) (neighbour : ℕ → ℕ) (i : ℕ) : Type 0 where
  pub far : TurnsLeft (place points (neighbour i)) (place points (neighbour (suc i)))
      (place points (neighbour (suc (suc i))))
  pub near : TurnsLeft (place points v) (place points (neighbour i))
      (place points (neighbour (suc (suc i))))
  pub faces_change : FacesChange faces new (face v (neighbour i) (neighbour (suc i))
      ∷ face v (neighbour (suc i)) (neighbour (suc (suc i))) ∷ [])
      (face v (neighbour i) (neighbour (suc (suc i)))
      ∷ face (neighbour i) (neighbour (suc i)) (neighbour (suc (suc i))) ∷ [])
  pub outer_change : OuterChange outer outer' [] []

-- at an inner vertex the star goes on, from the neighbour after the one that is left out
abbrev pub InnerStarShrinks : Type 0
InnerStarShrinks = (points : List Point) (faces new : List Face) (outer outer' : List (ℕ × ℕ))
    (v k : ℕ) (neighbour : ℕ → ℕ) (i : ℕ) → LocalMesh points faces outer
    → IsStar faces v k neighbour → 4 ≤ k → IsStarFlip points faces new outer outer' v neighbour i
    → (next : ℕ → ℕ) × IsStar new v (k - 1) next
    × ((j : ℕ) → j < k - 1 → next j ≡ neighbour (j + suc (suc i)))

-- the neighbours without neighbour i
abbrev pub without : ℕ → (ℕ → ℕ) → ℕ → ℕ
without i neighbour j = if nat_lt j i then neighbour j else neighbour (suc j)

-- on the hull the first and the last neighbour stay
abbrev pub HullStarShrinks : Type 0
HullStarShrinks = (points : List Point) (faces new : List Face) (outer outer' : List (ℕ × ℕ))
    (v k : ℕ) (neighbour : ℕ → ℕ) (i : ℕ) → LocalMesh points faces outer
    → IsHullStar faces outer v k neighbour → suc i < k
    → IsStarFlip points faces new outer outer' v neighbour i
    → IsHullStar new outer' v (k - 1) (without (suc i) neighbour)
    × (without (suc i) neighbour 0 ≡ neighbour 0)
    × (without (suc i) neighbour (k - 1) ≡ neighbour k)

-- ---- two readings of the faces round a vertex
-- at an inner vertex they have as many neighbours, the same ones from another on
abbrev pub StarsAgree : Type 0
StarsAgree = (points : List Point) (faces : List Face) (outer : List (ℕ × ℕ)) (v k l : ℕ)
    (neighbour other : ℕ → ℕ) → LocalMesh points faces outer → IsStar faces v k neighbour
    → IsStar faces v l other
    → (k ≡ l) × ((s : ℕ) × (s < k) × ((i : ℕ) → other i ≡ neighbour (i + s)))

-- on the hull they are one
abbrev pub HullStarsAgree : Type 0
HullStarsAgree = (points : List Point) (faces : List Face) (outer : List (ℕ × ℕ)) (v k l : ℕ)
    (neighbour other : ℕ → ℕ) → LocalMesh points faces outer → IsHullStar faces outer v k neighbour
    → IsHullStar faces outer v l other
    → (k ≡ l) × ((i : ℕ) → i ≤ k → other i ≡ neighbour i)
