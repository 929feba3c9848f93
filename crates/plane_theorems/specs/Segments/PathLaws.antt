-- What is proved of a segment that is made an edge by flips.
use Rattle.std.specs.Prelude.{◌≡◌, ◌⊎◌, ◌↔◌, ℕ, ◌<◌, List, [], ◌∷◌}
use Rattle.plane.specs.{Cross, Face, face, IsEdge, IsFace, Point, right, side, TilesHull}
use Rattle.plane.specs.{Triangulation, TurnsLeft, vertex, whole}
use Rattle.plane_theorems.specs.{Edits.Change.FacesChange, Segments.Measure.crossing_sum}
use Rattle.plane_theorems.specs.Edits.Legal.{point_of}
use Rattle.plane_theorems.specs.Segments.Path.{ComesAfterOnLeft, ComesAfterOnRight, IsCrossing}
use Rattle.plane_theorems.specs.Segments.Path.{IsFreeOfVertices, IsLastLeft, IsLastRight}

-- where no edge crosses it, it is an edge
abbrev pub UncrossedIsEdge : Type 0
UncrossedIsEdge = (t : Triangulation) (i j : ℕ) → TilesHull t → IsFreeOfVertices t i j
    → ((v y : ℕ) → ¬ IsCrossing t i j v y) → IsEdge t i j

-- the edge from the last right end to the last left end there lies across a strictly convex
-- quadrilateral v x y z
abbrev pub ChosenFlipIsConvex : Type 0
ChosenFlipIsConvex = (t : Triangulation) (i j v x y z : ℕ) → TilesHull t → IsFreeOfVertices t i j
    → IsCrossing t i j v y → IsFace t v x y → IsFace t v y z → IsLastRight t i j v
    → IsLastLeft t i j v y
    → TurnsLeft (vertex t v) (vertex t x) (vertex t z)
    × TurnsLeft (vertex t x) (vertex t y) (vertex t z)

-- and its flip lowers the sum of ranks
abbrev pub ChosenFlipLowers : Type 0
ChosenFlipLowers = (t : Triangulation) (new : List Face) (i j v x y z : ℕ) → TilesHull t
    → IsFreeOfVertices t i j → IsCrossing t i j v y → IsFace t v x y → IsFace t v y z
    → IsLastRight t i j v → IsLastLeft t i j v y
    → FacesChange t.faces new (face v x y ∷ face v y z ∷ []) (face v x z ∷ face x y z ∷ [])
    → crossing_sum t.points new i j < crossing_sum t.points t.faces i j

-- an edge crosses the segment exactly if one of its two ways does so from right to left: four sides
-- are asked for each
abbrev pub CrossingIsEitherWay : Type 0
CrossingIsEitherWay = (t : Triangulation) (i j v y : ℕ) → TilesHull t → IsFreeOfVertices t i j
    → IsEdge t v y → Cross (vertex t i) (vertex t j) (vertex t v) (vertex t y)
    ↔ (IsCrossing t i j v y ⊎ IsCrossing t i j y v)

-- where some edge crosses, there is one from a last right end to a last left end there
abbrev pub ChosenFlipExists : Type 0
ChosenFlipExists = (t : Triangulation) (i j u w : ℕ) → TilesHull t → IsCrossing t i j u w
    → (v : ℕ) × (y : ℕ) × IsCrossing t i j v y × IsLastRight t i j v × IsLastLeft t i j v y

-- a scan finds them: what comes after the last so far comes after all before it
abbrev pub EndsAreOrdered : Type 0
EndsAreOrdered = (i j u v w : Point)
    → (side (whole i) (whole j) (whole u) ≡ right → side (whole i) (whole j) (whole v) ≡ right
    → side (whole i) (whole j) (whole w) ≡ right → ComesAfterOnRight i u v
    → ComesAfterOnRight i v w → ComesAfterOnRight i u w)
    × (TurnsLeft (whole i) (whole j) (whole u) → TurnsLeft (whole i) (whole j) (whole v)
    → TurnsLeft (whole i) (whole j) (whole w) → ComesAfterOnLeft i u v → ComesAfterOnLeft i v w
    → ComesAfterOnLeft i u w)
    × (¬ ComesAfterOnRight i u u) × (¬ ComesAfterOnLeft i u u)

-- an end that none comes after is a last one
abbrev pub LastHasNoneAfter : Type 0
LastHasNoneAfter = (t : Triangulation) (i j v y : ℕ)
    → (((u w : ℕ) → IsCrossing t i j u w → ¬ ComesAfterOnRight (point_of t.points i)
    (point_of t.points v) (point_of t.points u)) → IsLastRight t i j v)
    × (((w : ℕ) → IsCrossing t i j v w → ¬ ComesAfterOnLeft (point_of t.points i)
    (point_of t.points y) (point_of t.points w)) → IsLastLeft t i j v y)
