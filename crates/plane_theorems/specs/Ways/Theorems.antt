-- Theorems: chains of positions through free faces, by sides of these faces.
use Rattle.std.specs.Prelude.{ℕ, Bool, List, [], ◌∷◌, map, Contains}
use Rattle.plane.specs.{Fraction, InsideCorners, IsEdge, IsFace, IsSame, IsVertex, TilesHull}
use Rattle.plane.specs.{Triangulation, vertex, WithinSegment}
use Rattle.plane_theorems.specs.{Sight.Sight.IsInFree, Ways.Chains.IsChain, Ways.Chains.IsJoined}
use Rattle.plane_theorems.specs.Ways.Links.{AreApart, AreSharedCorners, BeginsIn, IsPath}

-- a position at a vertex, within an edge or inside a face: which vertices are corners of each
-- closed face that has it
abbrev pub CornersAtVertex : Type 0
CornersAtVertex = (t : Triangulation) → TilesHull t → (v : ℕ) → (p : Fraction) → IsVertex t v
    → IsSame p (vertex t v) → AreSharedCorners t p (v ∷ v ∷ v ∷ [])

abbrev pub CornersOnEdge : Type 0
CornersOnEdge = (t : Triangulation) → TilesHull t → (i j : ℕ) → (p : Fraction) → IsEdge t i j
    → WithinSegment (vertex t i) (vertex t j) p → AreSharedCorners t p (i ∷ j ∷ j ∷ [])

abbrev pub CornersInFace : Type 0
CornersInFace = (t : Triangulation) → TilesHull t → (i j k : ℕ) → (p : Fraction) → IsFace t i j k
    → InsideCorners t i j k p → AreSharedCorners t p (i ∷ j ∷ k ∷ [])

-- a path of vertices along sides of free faces, from a corner at p to one at q, is a chain
abbrev pub PathIsChain : Type 0
PathIsChain = (t : Triangulation) → TilesHull t → (free : ℕ → Bool) → (p q : Fraction)
    → (first last vs : List ℕ) → IsInFree t free p → IsInFree t free q
    → AreSharedCorners t p first → AreSharedCorners t q last → BeginsIn first vs
    → IsPath t free last vs → IsChain t free p (map (vertex t) vs) q

-- where no sides of free faces lead from a corner at p to one at q, no chain of any positions does
abbrev pub ApartIsNotJoined : Type 0
ApartIsNotJoined = (t : Triangulation) → TilesHull t → (free : ℕ → Bool) → (p q : Fraction)
    → (first last : List ℕ) → (v w : ℕ) → Contains first v → Contains last w
    → IsInFree t free p → IsInFree t free q → AreSharedCorners t p first
    → AreSharedCorners t q last → AreApart t free first last → ¬ IsJoined t free p q

-- each field is a theorem
pub record WayTheorems : Type 0 where
  pub corners_at_vertex : CornersAtVertex
  pub corners_on_edge : CornersOnEdge
  pub corners_in_face : CornersInFace
  pub path_is_chain : PathIsChain
  pub apart_is_not_joined : ApartIsNotJoined
