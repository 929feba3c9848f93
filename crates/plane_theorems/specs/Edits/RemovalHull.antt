-- What is proved of the removal of a vertex on the hull: its inner edges can be flipped away, then
-- its faces dropped, or closed by one where its side is flat.
use Rattle.std.specs.Prelude.{◌≡◌, ◌≢◌, ◌⊎◌, ℕ, zero, suc, ◌<◌, ◌≤◌, List, [], ◌∷◌, Contains}
use Rattle.plane.specs.{Face, face, on, place, Point, side, TurnsLeft}
use Rattle.plane_theorems.specs.Edits.Change.{FacesChange, IsFaceOf, OuterChange}
use Rattle.plane_theorems.specs.Edits.Removal.{LineMeshWithout, LocalMeshWithout}
use Rattle.plane_theorems.specs.Tiling.Local.{LocalMesh}

-- the faces at v, one after another to the left, from the outer edge that reaches v to the one that
-- leaves it: their corners besides v are neighbours 0, 1, .., k
pub record IsHullStar (faces : List Face) (outer : List (ℕ × ℕ)) (v k : ℕ)
    (neighbour : ℕ → ℕ) : Type 0 where
  pub around : (i : ℕ) → i < k → IsFaceOf faces v (neighbour i) (neighbour (suc i))
  pub only : (a b : ℕ) → IsFaceOf faces v a b
      → (i : ℕ) × (i < k) × (neighbour i ≡ a) × (neighbour (suc i) ≡ b)
  pub arrives : Contains outer (neighbour 0, v)
  pub leaves : Contains outer (v, neighbour k)

-- the first k of these faces
abbrev pub strip : ℕ → (ℕ → ℕ) → ℕ → List Face
strip v neighbour zero = []
strip v neighbour (suc k) = face v (neighbour k) (neighbour (suc k)) ∷ strip v neighbour k

-- the ways from each of the first k neighbours to the next
abbrev pub chain : (ℕ → ℕ) → ℕ → List (ℕ × ℕ)
chain neighbour zero = []
chain neighbour (suc k) = (neighbour k, neighbour (suc k)) ∷ chain neighbour k

-- a vertex of the hull is at a corner, or on a flat side with two faces or more
abbrev pub CornerOrFlat : Type 0
CornerOrFlat = (points : List Point) (faces : List Face) (outer : List (ℕ × ℕ)) (v k : ℕ)
    (neighbour : ℕ → ℕ) → LocalMesh points faces outer → IsHullStar faces outer v k neighbour
    → TurnsLeft (place points v) (place points (neighbour 0)) (place points (neighbour k))
    ⊎ ((side (place points (neighbour 0)) (place points v) (place points (neighbour k)) ≡ on)
    × (2 ≤ k))

-- at a vertex on a flat side of the hull, with three faces or more, the edge to a neighbour i + 1
-- lies across a strictly convex quadrilateral
abbrev pub FlatStarFlips : Type 0
FlatStarFlips =
    (points : List Point) (faces : List Face) (outer : List (ℕ × ℕ)) (v k : ℕ) (neighbour : ℕ → ℕ)
    → LocalMesh points faces outer → IsHullStar faces outer v k neighbour → 3 ≤ k
    → side (place points (neighbour 0)) (place points v) (place points (neighbour k)) ≡ on
    → (i : ℕ) × (suc i < k) × TurnsLeft (place points (neighbour i))
    (place points (neighbour (suc i))) (place points (neighbour (suc (suc i)))) × TurnsLeft
    (place points v) (place points (neighbour i)) (place points (neighbour (suc (suc i))))

-- at a corner of the hull, the edge to a neighbour i + 1 lies across a strictly convex
-- quadrilateral wherever the neighbours turn left there
abbrev pub CornerStarFlips : Type 0
CornerStarFlips = (points : List Point) (faces : List Face) (outer : List (ℕ × ℕ)) (v k : ℕ)
    (neighbour : ℕ → ℕ) → LocalMesh points faces outer → IsHullStar faces outer v k neighbour
    → TurnsLeft (place points v) (place points (neighbour 0)) (place points (neighbour k)) → (i : ℕ)
    → suc i < k → TurnsLeft (place points v) (place points (neighbour i))
    (place points (neighbour (suc (suc i))))

-- the two faces at a vertex on a flat side of the hull become the one of its neighbours
abbrev pub FlatSideCloses : Type 0
FlatSideCloses = (points : List Point) (faces new : List Face) (outer outer' : List (ℕ × ℕ)) (v : ℕ)
    (neighbour : ℕ → ℕ) → LocalMesh points faces outer → IsHullStar faces outer v 2 neighbour
    → side (place points (neighbour 0)) (place points v) (place points (neighbour 2)) ≡ on
    → FacesChange faces new (face v (neighbour 0) (neighbour 1) ∷ face v (neighbour 1) (neighbour 2)
    ∷ []) (face (neighbour 0) (neighbour 1) (neighbour 2) ∷ [])
    → OuterChange outer outer' ((neighbour 0, v) ∷ (v, neighbour 2) ∷ [])
    ((neighbour 0, neighbour 2) ∷ []) → LocalMeshWithout v points new outer'

-- no three neighbours in a row turn left
abbrev pub NoneTurnsLeft : List Point → ℕ → (ℕ → ℕ) → Type 0
NoneTurnsLeft points k neighbour = (i : ℕ) → suc i < k → ¬ TurnsLeft (place points (neighbour i))
    (place points (neighbour (suc i))) (place points (neighbour (suc (suc i))))

-- at a corner of the hull where no neighbours turn left, the faces go, and the ways between
-- neighbours become outer edges
abbrev pub CornerGoes : Type 0
CornerGoes = (points : List Point) (faces new : List Face) (outer outer' : List (ℕ × ℕ)) (v k : ℕ)
    (neighbour : ℕ → ℕ) → LocalMesh points faces outer → IsHullStar faces outer v k neighbour
    → TurnsLeft (place points v) (place points (neighbour 0)) (place points (neighbour k))
    → NoneTurnsLeft points k neighbour
    → FacesChange faces new (strip v neighbour k) []
    → OuterChange outer outer' ((neighbour 0, v) ∷ (v, neighbour k) ∷ []) (chain neighbour k)
    → new ≢ [] → LocalMeshWithout v points new outer'

-- and where these were all faces, the other vertices are on one line
abbrev pub CornerLeavesLine : Type 0
CornerLeavesLine = (points : List Point) (faces new : List Face) (outer outer' : List (ℕ × ℕ))
    (v k : ℕ) (neighbour : ℕ → ℕ) → LocalMesh points faces outer
    → IsHullStar faces outer v k neighbour
    → TurnsLeft (place points v) (place points (neighbour 0)) (place points (neighbour k))
    → NoneTurnsLeft points k neighbour
    → FacesChange faces new (strip v neighbour k) []
    → OuterChange outer outer' ((neighbour 0, v) ∷ (v, neighbour k) ∷ []) (chain neighbour k)
    → new ≡ [] → LineMeshWithout v points outer'
