-- What is proved of removals: an inner vertex can be brought to three neighbours, or to four with
-- it strictly between two of them, and its faces merged; the last vertex takes the freed index.
use Rattle.std.specs.Prelude.{◌≡◌, ◌⊎◌, ◌-◌, ◌≤◌, [], ◌∷◌, ◌≢◌}
use Rattle.std.specs.Prelude.{ℕ, suc, List, length, map, swap_remove, Contains}
use Rattle.plane.specs.{Face, face, IsIndex, place, Point, TurnsLeft, WithinSegment}
use Rattle.plane_theorems.specs.Edits.Change.{FacesChange, OuterChange}
use Rattle.plane_theorems.specs.Edits.Removal.{IsStar, LineMeshWithout, LocalMeshWithout}
use Rattle.plane_theorems.specs.Edits.Removal.{renumbered, renumbered_pair}
use Rattle.plane_theorems.specs.Tiling.Local.{LineMesh, LocalMesh}

-- at an inner vertex with four neighbours or more, the edge to a neighbour i + 1 lies across a
-- strictly convex quadrilateral; or there are four, and the vertex is strictly between two opposite
-- ones
abbrev pub InnerStarFlips : Type 0
InnerStarFlips = (points : List Point) (faces : List Face) (outer : List (ℕ × ℕ)) (v k : ℕ)
    (neighbour : ℕ → ℕ) → LocalMesh points faces outer → IsStar faces v k neighbour → 4 ≤ k
    → ((i : ℕ) × TurnsLeft (place points (neighbour i)) (place points (neighbour (suc i)))
    (place points (neighbour (suc (suc i)))) × TurnsLeft (place points v)
    (place points (neighbour i)) (place points (neighbour (suc (suc i)))))
    ⊎ ((k ≡ 4) × ((i : ℕ) × WithinSegment (place points (neighbour i))
    (place points (neighbour (suc (suc i)))) (place points v)))

-- the three faces at v become the one of its neighbours
abbrev pub ThreeFacesMerge : Type 0
ThreeFacesMerge = (points : List Point) (faces new : List Face) (outer outer' : List (ℕ × ℕ))
    (v : ℕ) (neighbour : ℕ → ℕ) → LocalMesh points faces outer → IsStar faces v 3 neighbour
    → FacesChange faces new (face v (neighbour 0) (neighbour 1) ∷ face v (neighbour 1) (neighbour 2)
    ∷ face v (neighbour 2) (neighbour 0) ∷ [])
    (face (neighbour 0) (neighbour 1) (neighbour 2) ∷ [])
    → OuterChange outer outer' [] [] → LocalMeshWithout v points new outer'

-- the four faces at v, which is strictly between neighbours 0 and 2, become two
abbrev pub FourFacesMerge : Type 0
FourFacesMerge = (points : List Point) (faces new : List Face) (outer outer' : List (ℕ × ℕ)) (v : ℕ)
    (neighbour : ℕ → ℕ) → LocalMesh points faces outer → IsStar faces v 4 neighbour
    → WithinSegment (place points (neighbour 0)) (place points (neighbour 2)) (place points v)
    → FacesChange faces new (face v (neighbour 0) (neighbour 1) ∷ face v (neighbour 1) (neighbour 2)
    ∷ face v (neighbour 2) (neighbour 3) ∷ face v (neighbour 3) (neighbour 0) ∷ [])
    (face (neighbour 0) (neighbour 1) (neighbour 2)
    ∷ face (neighbour 0) (neighbour 2) (neighbour 3) ∷ [])
    → OuterChange outer outer' [] [] → LocalMeshWithout v points new outer'

-- v goes, and the last vertex takes its index
abbrev pub LastTakesFreedIndex : Type 0
LastTakesFreedIndex = (points : List Point) (faces : List Face) (outer : List (ℕ × ℕ)) (v : ℕ)
    (d : Point) → IsIndex points v → LocalMeshWithout v points faces outer
    → LocalMesh (swap_remove points v d) (map (renumbered v (length points - 1)) faces)
    (map (renumbered_pair v (length points - 1)) outer)

-- ---- on one line
-- the end v, whose only neighbour is i, goes
abbrev pub EndOfLineGoes : Type 0
EndOfLineGoes = (points : List Point) (outer now : List (ℕ × ℕ)) (v i : ℕ) → LineMesh points outer
    → Contains outer (v, i) → ((j : ℕ) → Contains outer (v, j) → j ≡ i)
    → OuterChange outer now ((v, i) ∷ (i, v) ∷ []) [] → LineMeshWithout v points now

-- v goes from between its neighbours i and j, which are joined
abbrev pub MiddleOfLineGoes : Type 0
MiddleOfLineGoes = (points : List Point) (outer now : List (ℕ × ℕ)) (v i j : ℕ)
    → LineMesh points outer → Contains outer (v, i) → Contains outer (v, j) → i ≢ j
    → OuterChange outer now ((v, i) ∷ (i, v) ∷ (v, j) ∷ (j, v) ∷ []) ((i, j) ∷ (j, i) ∷ [])
    → LineMeshWithout v points now

-- and the last vertex takes its index
abbrev pub LastTakesFreedIndexOnLine : Type 0
LastTakesFreedIndexOnLine = (points : List Point) (outer : List (ℕ × ℕ)) (v : ℕ) (d : Point)
    → IsIndex points v → LineMeshWithout v points outer
    → LineMesh (swap_remove points v d) (map (renumbered_pair v (length points - 1)) outer)
