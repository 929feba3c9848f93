-- What is proved of insertions and flips: the mesh stays local, or a line.
use Rattle.std.specs.Prelude.{◌↔◌, ◌⊎◌, ◌≢◌, ℕ, ◌<◌, List, [], ◌∷◌, ◌++◌, length, Contains}
use Rattle.plane.specs.{Face, face, Fraction, InsideTriangle, InTriangle, IsIndex, IsPast, place}
use Rattle.plane.specs.{Point, TurnsLeft, whole, WithinSegment}
use Rattle.plane_theorems.specs.Edits.Change.{FacesChange, IsFaceOf, OuterChange}
use Rattle.plane_theorems.specs.Edits.Extension.{IsExtending}
use Rattle.plane_theorems.specs.Tiling.Local.{alone, LineMesh, LocalMesh}

-- a vertex q strictly inside the face a b c: it is joined to the three corners
abbrev pub InsertionInsideKeeps : Type 0
InsertionInsideKeeps = (points : List Point) (faces new : List Face) (outer outer' : List (ℕ × ℕ))
    (q : Point) (a b c : ℕ) → LocalMesh points faces outer → IsFaceOf faces a b c
    → InsideTriangle (place points a) (place points b) (place points c) (whole q)
    → FacesChange faces new (face a b c ∷ [])
    (face a b (length points) ∷ face b c (length points) ∷ face c a (length points) ∷ [])
    → OuterChange outer outer' [] [] → LocalMesh (points ++ q ∷ []) new outer'

-- a vertex q strictly within the side of two faces a b c and b a d: it is joined to the four
-- corners
abbrev pub InsertionWithinSideKeeps : Type 0
InsertionWithinSideKeeps =
    (points : List Point) (faces new : List Face) (outer outer' : List (ℕ × ℕ)) (q : Point)
    (a b c d : ℕ) → LocalMesh points faces outer → IsFaceOf faces a b c → IsFaceOf faces b a d
    → WithinSegment (place points a) (place points b) (whole q)
    → FacesChange faces new (face a b c ∷ face b a d ∷ []) (face (length points) d b
    ∷ face d (length points) a ∷ face b c (length points) ∷ face c a (length points) ∷ [])
    → OuterChange outer outer' [] []
    → LocalMesh (points ++ q ∷ []) new outer'

-- a vertex q strictly within the outer edge from u to v of the face v u c: the edge gives way to
-- its halves
abbrev pub InsertionWithinOuterKeeps : Type 0
InsertionWithinOuterKeeps =
    (points : List Point) (faces new : List Face) (outer outer' : List (ℕ × ℕ)) (q : Point)
    (u v c : ℕ) → LocalMesh points faces outer → Contains outer (u, v) → IsFaceOf faces v u c
    → WithinSegment (place points u) (place points v) (whole q)
    → FacesChange faces new (face v u c ∷ [])
    (face v (length points) c ∷ face (length points) u c ∷ [])
    → OuterChange outer outer' ((u, v) ∷ []) ((u, length points) ∷ (length points, v) ∷ [])
    → LocalMesh (points ++ q ∷ []) new outer'

-- the faces a b c and a c d of a strictly convex quadrilateral are exchanged for a b d and b c d
abbrev pub FlipKeeps : Type 0
FlipKeeps = (points : List Point) (faces new : List Face) (outer outer' : List (ℕ × ℕ))
    (a b c d : ℕ) → LocalMesh points faces outer → IsFaceOf faces a b c → IsFaceOf faces a c d
    → TurnsLeft (place points a) (place points b) (place points d)
    → TurnsLeft (place points b) (place points c) (place points d)
    → FacesChange faces new (face a b c ∷ face a c d ∷ []) (face a b d ∷ face b c d ∷ [])
    → OuterChange outer outer' [] [] → LocalMesh points new outer'

-- and cover the same points
abbrev pub FlipCovers : Type 0
FlipCovers = (a b c d p : Fraction) → TurnsLeft a b c → TurnsLeft a c d → TurnsLeft a b d
    → TurnsLeft b c d → (InTriangle a b c p ⊎ InTriangle a c d p)
    ↔ (InTriangle a b d p ⊎ InTriangle b c d p)

-- ---- a vertex q outside the hull: a face on an outer edge that sees it, then on the next and on
-- the one before, until neither sees it
-- the first face
abbrev pub ExtensionBegins : Type 0
ExtensionBegins =
    (points : List Point) (faces new : List Face) (outer now : List (ℕ × ℕ)) (q : Point) (u w : ℕ)
    → ((i j : ℕ) → Contains outer (i, j) → (i < length points) × (j < length points))
    → Contains outer (u, w)
    → TurnsLeft (place (points ++ q ∷ []) u) (place (points ++ q ∷ []) w)
    (place (points ++ q ∷ []) (length points))
    → FacesChange faces new [] (face u w (length points) ∷ [])
    → OuterChange outer now ((u, w) ∷ []) ((u, length points) ∷ (length points, w) ∷ [])
    → IsExtending points q faces new outer now u w

-- the outer edge from w to x sees q, and is joined too: there is one outer edge less
abbrev pub ExtensionGoesOn : Type 0
ExtensionGoesOn = (points : List Point) (faces new more : List Face) (outer now less : List (ℕ × ℕ))
    (q : Point) (u w x : ℕ) → IsExtending points q faces new outer now u w → Contains now (w, x)
    → TurnsLeft (place (points ++ q ∷ []) w) (place (points ++ q ∷ []) x)
    (place (points ++ q ∷ []) (length points))
    → FacesChange new more [] (face w x (length points) ∷ [])
    → OuterChange now less ((length points, w) ∷ (w, x) ∷ []) ((length points, x) ∷ [])
    → IsExtending points q faces more outer less u x × (length less < length now)

-- and so, on the other side, the outer edge from t to u
abbrev pub ExtensionGoesBack : Type 0
ExtensionGoesBack = (points : List Point) (faces new more : List Face)
    (outer now less : List (ℕ × ℕ)) (q : Point) (t u w : ℕ)
    → IsExtending points q faces new outer now u w → Contains now (t, u)
    → TurnsLeft (place (points ++ q ∷ []) t) (place (points ++ q ∷ []) u)
    (place (points ++ q ∷ []) (length points))
    → FacesChange new more [] (face t u (length points) ∷ [])
    → OuterChange now less ((t, u) ∷ (u, length points) ∷ []) ((t, length points) ∷ [])
    → IsExtending points q faces more outer less t w × (length less < length now)

-- where neither the edge before nor the edge after sees q, no outer edge does
abbrev pub ExtensionEnds : Type 0
ExtensionEnds = (points : List Point) (faces new : List Face) (outer now : List (ℕ × ℕ)) (q : Point)
    (t u w x : ℕ) → LocalMesh points faces outer → IsExtending points q faces new outer now u w
    → Contains now (t, u) → Contains now (w, x)
    → ¬ TurnsLeft (place (points ++ q ∷ []) t) (place (points ++ q ∷ []) u)
    (place (points ++ q ∷ []) (length points)) → ¬ TurnsLeft (place (points ++ q ∷ []) w)
    (place (points ++ q ∷ []) x) (place (points ++ q ∷ []) (length points))
    → LocalMesh (points ++ q ∷ []) new now

-- the same over a line of vertices, with q off it: the faces stand on each edge of the line
abbrev pub ExtensionOverLineEnds : Type 0
ExtensionOverLineEnds = (points : List Point) (new : List Face) (outer now : List (ℕ × ℕ))
    (q : Point) (u w : ℕ) → LineMesh points outer → IsExtending points q [] new outer now u w
    → ((t : ℕ) → Contains now (t, u) → ¬ TurnsLeft (place (points ++ q ∷ []) t)
    (place (points ++ q ∷ []) u) (place (points ++ q ∷ []) (length points)))
    → ((x : ℕ) → Contains now (w, x) → ¬ TurnsLeft (place (points ++ q ∷ []) w)
    (place (points ++ q ∷ []) x) (place (points ++ q ∷ []) (length points)))
    → LocalMesh (points ++ q ∷ []) new now

-- ---- a vertex q on the line of all vertices
-- past the end i: it is joined to i
abbrev pub InsertionPastEndKeeps : Type 0
InsertionPastEndKeeps = (points : List Point) (outer now : List (ℕ × ℕ)) (q : Point) (i : ℕ)
    → LineMesh points outer → IsIndex points i
    → ((k : ℕ) → IsIndex points k → place points k ≢ whole q) → IsPast (alone points) i (whole q)
    → OuterChange outer now [] ((i, length points) ∷ (length points, i) ∷ [])
    → LineMesh (points ++ q ∷ []) now

-- strictly within the pair of neighbours i and j: it is joined to both in its place
abbrev pub InsertionBetweenKeeps : Type 0
InsertionBetweenKeeps = (points : List Point) (outer now : List (ℕ × ℕ)) (q : Point) (i j : ℕ)
    → LineMesh points outer → Contains outer (i, j)
    → WithinSegment (place points i) (place points j) (whole q)
    → OuterChange outer now ((i, j) ∷ (j, i) ∷ []) ((i, length points) ∷ (length points, j)
    ∷ (j, length points) ∷ (length points, i) ∷ []) → LineMesh (points ++ q ∷ []) now
