-- What is proved of the walk along a segment as a whole: that there is one, where it starts, and
-- that it ends.
use Rattle.std.specs.Prelude.{◌≡◌, ◌≢◌, ℕ, ◌<◌, ◌≤◌, ◌+◌, ◌↔◌, List, [], ◌∷◌, length, ◌⊎◌}
use Rattle.plane.specs.{across, along, at_vertex, Face, Fraction, InsideCorners, IsEdge, IsFace}
use Rattle.plane.specs.{IsLineList, IsLocation, IsNearer, IsOuter, IsSame, IsVertex, Item}
use Rattle.plane.specs.{JoinsLine, left, Meets, on, OnSegment, outside_hull, Point, right, side}
use Rattle.plane.specs.{TilesHull, Triangulation, TurnsLeft, vertex, WithinSegment}
use Rattle.plane_theorems.specs.{Segments.LineLaws.ArePlacedOnce, Tiling.Laws.EdgesMeetAtVertices}
use Rattle.plane_theorems.specs.Segments.Steps.{ComesNext, GoesOn, IsAhead, IsFirst, IsLast, IsWalk}
use Rattle.plane_theorems.specs.Tiling.Local.{AreEdgesOf, IsMesh}

-- the faces tile the hull, or all vertices are on one line
abbrev pub IsLaid : Triangulation → Type 0
IsLaid t = TilesHull t ⊎ (JoinsLine t × EdgesMeetAtVertices t × ArePlacedOnce t)

-- so is each mesh with its own edges
abbrev pub MeshesAreLaid : Type 0
MeshesAreLaid = (points : List Point) (faces : List Face) (outer edges : List (ℕ × ℕ))
    → IsMesh points faces outer →
    AreEdgesOf faces outer edges → IsLaid (record { points = points; faces = faces; edges = edges })

-- each segment has a walk, it has one alone, and the walk has no more items than there are vertices
-- and edges
abbrev pub EachSegmentHasWalk : Type 0
EachSegmentHasWalk = (t : Triangulation) → IsLaid t → (p q : Fraction) → ¬ IsSame p q
    → ((items : List Item) × IsWalk t p q items)
    × ((items more : List Item) → IsWalk t p q items → IsWalk t p q more → items ≡ more)
    × ((items : List Item) → IsWalk t p q items → length items ≤ length t.points + length t.edges)

-- from each item that the segment meets on there is a list of the rest; the next item is at its
-- head, and the last leaves nothing: its length falls at each step
abbrev pub RestFalls : Type 0
RestFalls = (t : Triangulation) → IsLaid t → (p q : Fraction) → ¬ IsSame p q
    → ((m : Item) → Meets t p q m → (rest : List Item) × GoesOn t p q m rest ×
    (length rest < length t.points + length t.edges))
    × ((m n : Item) (rest : List Item) → GoesOn t p q m rest → ComesNext t p q m n →
    (later : List Item) × (rest ≡ n ∷ later) × GoesOn t p q n later)
    × ((m : Item) (rest : List Item) → GoesOn t p q m rest → IsLast t p q m → rest ≡ [])
    × ((m : Item) (items : List Item) → IsWalk t p q items → IsFirst t p q m
    → (rest : List Item) × (items ≡ m ∷ rest) ×
    GoesOn t p q m rest)

-- the line list is the walk
abbrev pub LineListIsWalk : Type 0
LineListIsWalk = (t : Triangulation) → IsLaid t → (p q : Fraction) → ¬ IsSame p q
    → (items : List Item) →
    IsLineList t p q items ↔ IsWalk t p q items

-- from strictly inside a face a b c, where b is on the left of the segment and a is not: it ends
-- inside the face, goes through the corner a, or crosses the side from b to a; and there is such a
-- side
abbrev pub FirstFromFace : Type 0
FirstFromFace = (t : Triangulation) → TilesHull t → (p q : Fraction) → ¬ IsSame p q → (a b c : ℕ)
    → IsFace t a b c →
    InsideCorners t a b c p
    → (side p q (vertex t b) ≡ left
    → (side p q (vertex t a) ≢ left → side (vertex t a) (vertex t b) q ≡ left → IsWalk t p q [])
    × (side p q (vertex t a) ≡ on → side (vertex t a) (vertex t b) q ≢ left
    → IsFirst t p q (at_vertex a))
    × (side p q (vertex t a) ≡ right → side (vertex t a) (vertex t b) q ≢ left
    → IsFirst t p q (across b a)))
    × (((side p q (vertex t a) ≢ left) × (side p q (vertex t b) ≡ left)) ⊎
    (((side p q (vertex t b) ≢ left) × (side p q (vertex t c) ≡ left)) ⊎
    ((side p q (vertex t c) ≢ left) × (side p q (vertex t a) ≡ left))))

-- from the left of an outer edge, where the segment crosses no outer edge from its left: the
-- nearest vertex on the segment comes first, and without one it meets nothing
abbrev pub FirstFromOutside : Type 0
FirstFromOutside = (t : Triangulation) → TilesHull t → (p q : Fraction) → ¬ IsSame p q → (i j : ℕ)
    → IsOuter t i j →
    TurnsLeft (vertex t i) (vertex t j) p
    → ((a b : ℕ) → IsOuter t a b → ¬ Meets t p q (across b a))
    → ((v : ℕ) → Meets t p q (at_vertex v) → ((w : ℕ) → Meets t p q (at_vertex w) →
    ¬ IsNearer p (vertex t w) (vertex t v)) → IsFirst t p q (at_vertex v))
    × (((v : ℕ) → ¬ Meets t p q (at_vertex v)) → IsWalk t p q [])

-- where all vertices are on one line, at a vertex: nothing comes after it where the segment ends
-- there, or no edge there points to its end; else the edge that does
abbrev pub NextOnLine : Type 0
NextOnLine = (t : Triangulation) → JoinsLine t → EdgesMeetAtVertices t → ArePlacedOnce t
    → (p q : Fraction) → ¬ IsSame p q →
    (v : ℕ) → Meets t p q (at_vertex v)
    → (IsSame (vertex t v) q → IsLast t p q (at_vertex v))
    × ((b : ℕ) → ¬ IsSame (vertex t v) q → IsEdge t v b → IsAhead (vertex t v) (vertex t b) q →
    ComesNext t p q (at_vertex v) (along v b))
    × (¬ IsSame (vertex t v) q → ((b : ℕ) → IsEdge t v b → ¬ IsAhead (vertex t v) (vertex t b) q) →
    IsLast t p q (at_vertex v))

-- and the first item there: the vertex at the start, the edge that carries it, an edge that is
-- crossed (alone), or, where no edge carries the start, the nearest vertex on the segment; without
-- these it meets nothing
abbrev pub FirstOnLine : Type 0
FirstOnLine = (t : Triangulation) → JoinsLine t → EdgesMeetAtVertices t → ArePlacedOnce t
    → (p q : Fraction) → ¬ IsSame p q
    → ((v : ℕ) → IsVertex t v → IsSame p (vertex t v) → IsFirst t p q (at_vertex v))
    × ((a b : ℕ) → WithinSegment (vertex t a) (vertex t b) p → Meets t p q (along a b)
    → IsFirst t p q (along a b))
    × ((a b : ℕ) → Meets t p q (across a b) → IsWalk t p q (across a b ∷ []))
    × (((a b : ℕ) → IsEdge t a b → ¬ OnSegment (vertex t a) (vertex t b) p)
    → ((v : ℕ) → Meets t p q (at_vertex v) → ((w : ℕ) → Meets t p q (at_vertex w) →
    ¬ IsNearer p (vertex t w) (vertex t v)) → IsFirst t p q (at_vertex v))
    × (((v : ℕ) → ¬ Meets t p q (at_vertex v)) → ((a b : ℕ) → ¬ Meets t p q (across a b))
    → IsWalk t p q []))

-- from a point to itself: the vertex there, or the edge that carries it; nothing strictly inside a
-- face or on the left of an outer edge
abbrev pub EqualEnds : Type 0
EqualEnds = (t : Triangulation) (p q : Fraction) → IsSame p q
    → ((v : ℕ) → IsVertex t v → IsSame p (vertex t v) → IsLineList t p q (at_vertex v ∷ []))
    × ((i j : ℕ) → IsEdge t i j → WithinSegment (vertex t i) (vertex t j) p
    → IsLineList t p q (along i j ∷ []))
    × (TilesHull t → (a b c : ℕ) → IsFace t a b c → InsideCorners t a b c p → IsLineList t p q [])
    × (TilesHull t → (i j : ℕ) → IsOuter t i j → TurnsLeft (vertex t i) (vertex t j) p
    → IsLineList t p q [])
    × (JoinsLine t → ((i : ℕ) → IsVertex t i → ¬ IsSame p (vertex t i)) →
    ((i j : ℕ) → IsEdge t i j → ¬ WithinSegment (vertex t i) (vertex t j) p) → IsLineList t p q [])

-- from strictly within an edge: where the segment goes to one of its sides, the edge, crossed from
-- the other; where it goes along the line of the edge, the edge in the direction of the end that is
-- ahead; and one is
abbrev pub FirstFromEdge : Type 0
FirstFromEdge = (t : Triangulation) → IsLaid t → (p q : Fraction) → ¬ IsSame p q → (a b : ℕ)
    → IsEdge t a b →
    WithinSegment (vertex t a) (vertex t b) p
    → (side (vertex t a) (vertex t b) q ≡ left → IsFirst t p q (across a b))
    × (side (vertex t a) (vertex t b) q ≡ right → IsFirst t p q (across b a))
    × (side (vertex t a) (vertex t b) q ≡ on → IsAhead p (vertex t b) q → IsFirst t p q (along a b))
    × (side (vertex t a) (vertex t b) q ≡ on → IsAhead p (vertex t b) q ⊎ IsAhead p (vertex t a) q)

-- where all vertices are on one line: outside, no vertex is at the point and no edge carries it
abbrev pub OutsideIsOffLine : Type 0
OutsideIsOffLine = (t : Triangulation) → JoinsLine t → EdgesMeetAtVertices t → ArePlacedOnce t
    → (p : Fraction) (i j : ℕ) →
    IsLocation t p (outside_hull i j)
    → ((k : ℕ) → IsVertex t k → ¬ IsSame p (vertex t k)) ×
    ((a b : ℕ) → IsEdge t a b → ¬ OnSegment (vertex t a) (vertex t b) p)

-- and there too four sides tell whether an edge is crossed, and there is no edge with fewer than
-- two vertices
abbrev pub CrossingOnLine : Type 0
CrossingOnLine = (t : Triangulation) → JoinsLine t → EdgesMeetAtVertices t → ArePlacedOnce t
    → ((p q : Fraction) → ¬ IsSame p q → (a b : ℕ) → IsEdge t a b
    → Meets t p q (across a b) ↔ ((side p q (vertex t a) ≡ left) × (side p q (vertex t b) ≡ right) ×
    (side (vertex t a) (vertex t b) p ≢ left) × (side (vertex t a) (vertex t b) q ≢ right)))
    × (length t.points ≤ 1 → (a b : ℕ) → ¬ IsEdge t a b)
