-- What is proved of flipping the edges that fail the circle test, until none does.
use Rattle.std.specs.Prelude.{◌≡◌, ◌↔◌, ◌⊎◌, ℕ, suc, ◌-◌, ◌*◌, ◌<◌, ◌≤◌, List, [], ◌∷◌, length}
use Rattle.plane.specs.{Face, face, InsideCircle, IsLocallyDelaunay, IsSamePair, Joins, place}
use Rattle.plane.specs.{Point, TurnsLeft, whole}
use Rattle.plane_theorems.specs.{Edits.Away.AreAway, Edits.Away.IsAway, Tiling.Local.LocalMesh}
use Rattle.plane_theorems.specs.{Edits.Change.FacesChange, Edits.Change.IsFaceOf, Edits.Legal.Pass}
use Rattle.plane_theorems.specs.Edits.Legal.{AllPassBut, IsRoundSide, IsSideOfOne, lifted_volume}

-- one question for both sides of an edge: whether the faces i j k and j i l pass
abbrev pub OneQuestionForBoth : Type 0
OneQuestionForBoth = (i j k l : Point) → TurnsLeft (whole i) (whole j) (whole k)
    → TurnsLeft (whole j) (whole i) (whole l) → InsideCircle (whole i) (whole j) (whole k) (whole l)
    ↔ InsideCircle (whole j) (whole i) (whole l) (whole k)

-- an edge from a to c that fails lies across a strictly convex quadrilateral a b c d
abbrev pub FailingIsConvex : Type 0
FailingIsConvex = (a b c d : Point) → TurnsLeft (whole a) (whole b) (whole c)
    → TurnsLeft (whole a) (whole c) (whole d) → InsideCircle (whole a) (whole c) (whole d) (whole b)
    → TurnsLeft (whole a) (whole b) (whole d) × TurnsLeft (whole b) (whole c) (whole d)

-- its flip lowers the lifted volume
abbrev pub FlipLowers : Type 0
FlipLowers = (points : List Point) (faces new : List Face) (outer : List (ℕ × ℕ)) (a b c d : ℕ)
    → LocalMesh points faces outer → IsFaceOf faces a b c → IsFaceOf faces a c d
    → FacesChange faces new (face a b c ∷ face a c d ∷ []) (face a b d ∷ face b c d ∷ [])
    → InsideCircle (place points a) (place points c) (place points d) (place points b)
    → lifted_volume points new < lifted_volume points faces

-- and leaves the four sides of the quadrilateral to test: the other edges and the new diagonal pass
abbrev pub FlipLeavesSides : Type 0
FlipLeavesSides = (points : List Point) (faces new : List Face)
    (outer constraints before after : List (ℕ × ℕ)) (a b c d : ℕ) → LocalMesh points faces outer
    → IsFaceOf faces a b c → IsFaceOf faces a c d
    → FacesChange faces new (face a b c ∷ face a c d ∷ []) (face a b d ∷ face b c d ∷ [])
    → InsideCircle (place points a) (place points c) (place points d) (place points b)
    → AllPassBut points faces constraints before
    → ((i j : ℕ) → Joins before i j → IsSamePair i j a c ⊎ Joins after i j)
    → ((i j : ℕ) → IsRoundSide a b c d i j → Joins constraints i j ⊎ Joins after i j)
    → AllPassBut points new constraints after

-- an edge that is a constraint, passes, or has the outer face beside it, is left no longer
abbrev pub PassingIsDropped : Type 0
PassingIsDropped = (points : List Point) (faces : List Face)
    (constraints before after : List (ℕ × ℕ)) (u v : ℕ) → AllPassBut points faces constraints before
    → ((i j : ℕ) → Joins before i j → IsSamePair i j u v ⊎ Joins after i j)
    → ((k l : ℕ) → IsFaceOf faces u v k → IsFaceOf faces v u l → ¬ Joins constraints u v
    → Pass points u v k l) → AllPassBut points faces constraints after

-- any change of faces leaves the sides of the faces that were made
abbrev pub ChangeLeavesSides : Type 0
ChangeLeavesSides = (points : List Point) (faces new gone made : List Face)
    (constraints before after : List (ℕ × ℕ)) → FacesChange faces new gone made
    → AllPassBut points faces constraints before → ((i j : ℕ) → Joins before i j → Joins after i j)
    → ((i j : ℕ) → IsSideOfOne made i j → Joins constraints i j ⊎ Joins after i j)
    → AllPassBut points new constraints after

-- where none is left, each edge that is no constraint passes
abbrev pub NoneLeftIsLocallyDelaunay : Type 0
NoneLeftIsLocallyDelaunay =
    (points : List Point) (faces : List Face) (edges constraints : List (ℕ × ℕ))
    → AllPassBut points faces constraints []
    → IsLocallyDelaunay (record { points = points; faces = faces; edges = edges }) constraints

-- ---- a bound on the flips of one legalising
-- a pair that has been flipped away is no edge
abbrev pub AwayIsNoEdge : Type 0
AwayIsNoEdge = (points : List Point) (faces : List Face) (outer : List (ℕ × ℕ)) (i j k : ℕ)
    → LocalMesh points faces outer → IsAway points faces i j → ¬ IsFaceOf faces i j k

-- the flip of a failing edge adds its pair to those that are away
abbrev pub FlipGoesAway : Type 0
FlipGoesAway = (points : List Point) (faces new : List Face) (outer away : List (ℕ × ℕ))
    (a b c d : ℕ) → LocalMesh points faces outer → IsFaceOf faces a b c → IsFaceOf faces a c d
    → FacesChange faces new (face a b c ∷ face a c d ∷ []) (face a b d ∷ face b c d ∷ [])
    → InsideCircle (place points a) (place points c) (place points d) (place points b)
    → AreAway points faces away
    → (more : List (ℕ × ℕ)) × AreAway points new more × (length more ≡ suc (length away))
    × Joins more a c × ((i j : ℕ) → Joins away i j → Joins more i j)

-- there are at most n (n - 1) / 2 of them, where n is the number of vertices
abbrev pub AwayIsBounded : Type 0
AwayIsBounded = (points : List Point) (faces : List Face) (away : List (ℕ × ℕ))
    → AreAway points faces away → 2 * length away ≤ length points * (length points - 1)
