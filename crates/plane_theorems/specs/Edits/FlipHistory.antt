-- Flips of failing edges, one after another, as one legalising makes them: what they leave alone.
use Rattle.std.specs.Prelude.{◌⊎◌, ℕ, zero, suc, ◌-◌, ◌*◌, ◌≤◌, List, [], ◌∷◌, length}
use Rattle.plane.specs.{Face, face, InsideCircle, IsSamePair, place, Point}
use Rattle.plane_theorems.specs.Edits.Change.{FacesChange, IsFaceOf}
use Rattle.plane_theorems.specs.{Edits.Legal.IsSideOfOne, Tiling.Local.LocalMesh}

-- the edge from a to c, between the faces a b c and a c d, fails the circle test and is flipped
pub record IsFailingFlip (points : List Point) (faces new : List Face) (a b c d : ℕ) : Type 0 where
  pub first : IsFaceOf faces a b c
  pub second : IsFaceOf faces a c d
  pub fails : InsideCircle (place points a) (place points c) (place points d) (place points b)
  pub change : FacesChange faces new (face a b c ∷ face a c d ∷ []) (face a b d ∷ face b c d ∷ [])

-- some faces become others by a number of flips of failing edges
pub data ByFailingFlips (points : List Point) (start : List Face) : ℕ → List Face → Type 0 where
  no_flip : ByFailingFlips points start zero start
  one_more : {count : ℕ} {before now : List Face} → ByFailingFlips points start count before
      → (a b c d : ℕ) → IsFailingFlip points before now a b c d
      → ByFailingFlips points start (suc count) now

-- one flip takes the edge from a to c and brings the one from b to d, and no other
abbrev pub FlipTouchesOneEdge : Type 0
FlipTouchesOneEdge = (faces new : List Face) (a b c d : ℕ) → IsFaceOf faces a b c
    → IsFaceOf faces a c d
    → FacesChange faces new (face a b c ∷ face a c d ∷ []) (face a b d ∷ face b c d ∷ [])
    → ((i j : ℕ) → IsSideOfOne faces i j → IsSideOfOne new i j ⊎ IsSamePair i j a c)
    × ((i j : ℕ) → IsSideOfOne new i j → IsSideOfOne faces i j ⊎ IsSamePair i j b d)

-- an edge that was flipped away does not come back
abbrev pub FlippedStaysAway : Type 0
FlippedStaysAway = (points : List Point) (faces new now : List Face) (outer : List (ℕ × ℕ))
    (a b c d count : ℕ) → LocalMesh points faces outer → IsFailingFlip points faces new a b c d
    → ByFailingFlips points new count now → ¬ IsSideOfOne now a c

-- edges and faces that stand before and after stand all the time between
abbrev pub WhatStandsWasNotTouched : Type 0
WhatStandsWasNotTouched = (points : List Point) (start between now : List Face)
    (outer : List (ℕ × ℕ)) (earlier later : ℕ) → LocalMesh points start outer
    → ByFailingFlips points start earlier between → ByFailingFlips points between later now
    → ((i j : ℕ) → IsSideOfOne start i j → IsSideOfOne now i j → IsSideOfOne between i j)
    × ((i j k : ℕ) → IsFaceOf start i j k → IsFaceOf now i j k → IsFaceOf between i j k)

-- there are at most n (n - 1) / 2 flips, where n is the number of vertices
abbrev pub FlipsAreBounded : Type 0
FlipsAreBounded = (points : List Point) (start now : List Face) (outer : List (ℕ × ℕ)) (count : ℕ)
    → LocalMesh points start outer → ByFailingFlips points start count now
    → 2 * count ≤ length points * (length points - 1)
