-- What is proved of the items that a segment meets, one after another.
use Rattle.std.specs.Prelude.{◌≡◌, ◌≢◌, ℕ, ◌↔◌, List, ◌⊎◌}
use Rattle.plane.specs.{across, along, at_vertex, Fraction, InsideCorners, IsBefore, IsEdge, IsFace}
use Rattle.plane.specs.{IsLineList, IsOuter, IsSame, IsVertex, Item, JoinsLine, left, Meets, on}
use Rattle.plane.specs.{right, side, TilesHull, Triangulation, vertex, WithinSegment}
use Rattle.plane_theorems.specs.Segments.Steps.{ComesNext, IsAhead, IsFirst, IsLast, IsWalk}
use Rattle.plane_theorems.specs.Tiling.Laws.{EdgesMeetAtVertices}

-- none of the items that a segment meets is before itself, and the order goes through
abbrev pub ItemsFollow : Type 0
ItemsFollow = (t : Triangulation) (p q : Fraction) → ¬ IsSame p q
    → ((m n : Item) → IsBefore t p q m n → ¬ IsBefore t p q n m)
    × ((m n k : Item) → IsBefore t p q m n → IsBefore t p q n k → IsBefore t p q m k)

-- after an edge from a to b with a face a b d on its left: where d is on the left of the segment
-- the side from d to b comes next, on its right the side from a to d, on its line d; unless the
-- segment ends inside the face
abbrev pub NextAfterCrossing : Type 0
NextAfterCrossing = (t : Triangulation) → TilesHull t → (p q : Fraction) → ¬ IsSame p q
    → (a b d : ℕ) → Meets t p q (across a b) → IsFace t a b d
    → (side p q (vertex t d) ≡ left → side (vertex t b) (vertex t d) q ≢ left
    → ComesNext t p q (across a b) (across d b))
    × (side p q (vertex t d) ≡ right → side (vertex t d) (vertex t a) q ≢ left
    → ComesNext t p q (across a b) (across a d))
    × (side p q (vertex t d) ≡ on → side (vertex t b) (vertex t d) q ≢ left
    → ComesNext t p q (across a b) (at_vertex d))
    × (side p q (vertex t d) ≢ right → side (vertex t b) (vertex t d) q ≡ left
    → IsLast t p q (across a b))
    × (side p q (vertex t d) ≡ right → side (vertex t d) (vertex t a) q ≡ left
    → IsLast t p q (across a b))

-- an edge comes last where the segment ends on it, or the outer face is on its left
abbrev pub LastCrossing : Type 0
LastCrossing = (t : Triangulation) → TilesHull t → (p q : Fraction) → ¬ IsSame p q → (a b : ℕ)
    → Meets t p q (across a b)
    → (side (vertex t a) (vertex t b) q ≡ on → IsLast t p q (across a b))
    × (IsOuter t a b → IsLast t p q (across a b))

-- after an overlap comes the vertex at its end, unless the segment ends before
abbrev pub NextAfterOverlap : Type 0
NextAfterOverlap = (t : Triangulation) → TilesHull t → (p q : Fraction) → ¬ IsSame p q → (a b : ℕ)
    → Meets t p q (along a b)
    → (WithinSegment (vertex t a) (vertex t b) q → IsLast t p q (along a b))
    × (¬ WithinSegment (vertex t a) (vertex t b) q → ComesNext t p q (along a b) (at_vertex b))

-- after a vertex v comes the overlap that starts there; else, where the segment goes into a face v
-- b c, the side from c to b, unless it ends inside the face; and nothing where it ends at v
abbrev pub NextAfterVertex : Type 0
NextAfterVertex = (t : Triangulation) → TilesHull t → (p q : Fraction) → ¬ IsSame p q → (v : ℕ)
    → Meets t p q (at_vertex v)
    → (IsSame (vertex t v) q → IsLast t p q (at_vertex v))
    × ((b : ℕ) → Meets t p q (along v b) → ComesNext t p q (at_vertex v) (along v b))
    × ((b c : ℕ) → IsFace t v b c → side (vertex t v) (vertex t b) q ≡ left
    → side (vertex t c) (vertex t v) q ≡ left
    → (side (vertex t b) (vertex t c) q ≡ left → IsLast t p q (at_vertex v))
    × (side (vertex t b) (vertex t c) q ≢ left → ComesNext t p q (at_vertex v) (across c b)))

-- a vertex is the last where no edge there points to the segment's end, and no open cone of a face
-- there holds it
abbrev pub LastVertex : Type 0
LastVertex = (t : Triangulation) → TilesHull t → (p q : Fraction) → ¬ IsSame p q → (v : ℕ)
    → Meets t p q (at_vertex v) → ¬ IsSame (vertex t v) q
    → ((b : ℕ) → IsEdge t v b → ¬ IsAhead (vertex t v) (vertex t b) q)
    → ((b c : ℕ) → IsFace t v b c → side (vertex t v) (vertex t b) q ≡ left
    → side (vertex t c) (vertex t v) q ≢ left)
    → IsLast t p q (at_vertex v)

-- an edge at a vertex of the segment that points to the segment's end is overlapped
abbrev pub OverlapAhead : Type 0
OverlapAhead = (t : Triangulation) → TilesHull t → (p q : Fraction) → ¬ IsSame p q → (v b : ℕ)
    → Meets t p q (at_vertex v) → ¬ IsSame (vertex t v) q
    → IsEdge t v b → IsAhead (vertex t v) (vertex t b) q → Meets t p q (along v b)

-- an edge is crossed from the right of the segment to its left exactly if four sides say so
abbrev pub CrossingBySides : Type 0
CrossingBySides = (t : Triangulation) → TilesHull t → (p q : Fraction) → ¬ IsSame p q → (a b : ℕ)
    → IsEdge t a b
    → Meets t p q (across a b) ↔ ((side p q (vertex t a) ≡ left) × (side p q (vertex t b) ≡ right)
    × (side (vertex t a) (vertex t b) p ≢ left) × (side (vertex t a) (vertex t b) q ≢ right))

-- the vertex at the segment's start comes first; else the edge that carries the start; else, of the
-- edges met, a side of the face that the start is strictly inside, or an outer edge with the outer
-- face on the start's side
abbrev pub FirstItem : Type 0
FirstItem = (t : Triangulation) → TilesHull t → (p q : Fraction) → ¬ IsSame p q
    → ((v : ℕ) → IsVertex t v → IsSame p (vertex t v) → IsFirst t p q (at_vertex v))
    × ((a b : ℕ) → WithinSegment (vertex t a) (vertex t b) p → (Meets t p q (across a b)
    → IsFirst t p q (across a b)) × (Meets t p q (along a b) → IsFirst t p q (along a b)))
    × ((a b c : ℕ) → Meets t p q (across b a) → IsFace t a b c → InsideCorners t a b c p
    → IsFirst t p q (across b a))
    × ((a b : ℕ) → Meets t p q (across b a) → IsOuter t a b → IsFirst t p q (across b a))

-- a walk from the first item to the last gives the line list
abbrev pub WalkIsLineList : Type 0
WalkIsLineList = (t : Triangulation) → TilesHull t → (p q : Fraction) → ¬ IsSame p q
    → (items : List Item) → IsWalk t p q items → IsLineList t p q items

-- no two vertices are in one place
abbrev pub ArePlacedOnce : Triangulation → Type 0
ArePlacedOnce t = (i j : ℕ) → IsVertex t i → IsVertex t j → IsSame (vertex t i) (vertex t j) → i ≡ j

-- where all vertices are on one line: the items have their order; a crossed edge is the last; after
-- an overlap comes the vertex at its end, unless the segment ends before; and a walk gives the line
-- list
abbrev pub StepsOnOneLine : Type 0
StepsOnOneLine = (t : Triangulation) → JoinsLine t → EdgesMeetAtVertices t → ArePlacedOnce t
    → (p q : Fraction) → ¬ IsSame p q
    → ((m n : Item) → Meets t p q m → Meets t p q n
    → (m ≡ n) ⊎ (IsBefore t p q m n ⊎ IsBefore t p q n m))
    × ((a b : ℕ) → Meets t p q (across a b) → IsLast t p q (across a b))
    × ((i j : ℕ) → Meets t p q (along i j)
    → (WithinSegment (vertex t i) (vertex t j) q → IsLast t p q (along i j))
    × (¬ WithinSegment (vertex t i) (vertex t j) q → ComesNext t p q (along i j) (at_vertex j)))
    × ((list : List Item) → IsWalk t p q list → IsLineList t p q list)
