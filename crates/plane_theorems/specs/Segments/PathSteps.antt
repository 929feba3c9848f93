-- What the flips of a path and the removal of a vertex keep, and the joining of straight halves in
-- the words of plain states.
use Rattle.std.specs.Prelude.{◌≡◌, ◌≢◌, ◌⊎◌, ◌↔◌, ℕ, ◌-◌, ◌<◌, List, [], ◌∷◌, length, Contains}
use Rattle.plane.specs.{Adds, AreNeighboursOn, CanAdd, Cross, Face, face, IsEdge, IsPlain}
use Rattle.plane.specs.{IsSamePair, Joins, JoinsLine, place, Plain, Point, points_of, TakesOut}
use Rattle.plane.specs.{TilesHull, Triangulation, vertex, WithinSegment}
use Rattle.plane_theorems.specs.Edits.Change.{FacesChange, OuterChange}
use Rattle.plane_theorems.specs.{Edits.Legal.IsSideOfOne, Edits.Removal.new_index}
use Rattle.plane_theorems.specs.{Segments.Constraints.AreNextOn, Tiling.Laws.EdgesMeetAtVertices}
use Rattle.plane_theorems.specs.Segments.Path.{IsCrossing, IsFreeOfVertices}
use Rattle.plane_theorems.specs.Tiling.Local.{IsCorner, LocalMesh}

-- the flip of an edge that crosses the segment of i and j: constraints that do not cross it stay
-- edges
abbrev pub PathFlipKeepsConstraints : Type 0
PathFlipKeepsConstraints = (t after : Triangulation) (constraints : List (ℕ × ℕ)) (i j v x y z : ℕ)
    → TilesHull t → TilesHull after → IsFreeOfVertices t i j → IsCrossing t i j v y
    → FacesChange t.faces after.faces (face v x y ∷ face v y z ∷ []) (face v x z ∷ face x y z ∷ [])
    → ((a b : ℕ) → Joins constraints a b → IsEdge t a b) → ((a b : ℕ) → Joins constraints a b
    → ¬ Cross (vertex t i) (vertex t j) (vertex t a) (vertex t b))
    → (a b : ℕ) → Joins constraints a b → IsEdge after a b

-- a subconstraint of a path has no vertex strictly within
abbrev pub SubconstraintIsFree : Type 0
SubconstraintIsFree = (t : Triangulation) (i j a b : ℕ) → AreNextOn t.points i j a b
    → IsFreeOfVertices t a b

-- where all vertices are on one line, it is an edge
abbrev pub SubconstraintOnLineIsEdge : Type 0
SubconstraintOnLineIsEdge = (t : Triangulation) (i j : ℕ) → JoinsLine t → IsFreeOfVertices t i j
    → IsEdge t i j

-- where only faces and outer edges at a vertex go, constraints that do not end there stay edges
abbrev pub RemovalKeepsConstraints : Type 0
RemovalKeepsConstraints = (points : List Point) (faces new gone made : List Face)
    (outer outer' left come constraints : List (ℕ × ℕ)) (v : ℕ) → LocalMesh points faces outer
    → FacesChange faces new gone made → OuterChange outer outer' left come
    → ((f : Face) → Contains gone f → IsCorner f v)
    → ((i j : ℕ) → Contains left (i, j) → (i ≡ v) ⊎ (j ≡ v))
    → ((a b : ℕ) → Joins constraints a b → IsSideOfOne faces a b)
    → (a b : ℕ) → Joins constraints a b → a ≢ v → b ≢ v → IsSideOfOne new a b ⊎ Joins outer' a b

-- i and j are no pair, no pair crosses their segment, and their path is one subconstraint: to add
-- it is to join them
pub record CanBeJoined {V : Type 0} (position : V → Point) (s : Plain V) (i j : ℕ) : Type 0 where
  pub ends : (i < length s.vertices) × (j < length s.vertices)
  pub not_yet : ¬ Joins s.constraints i j
  pub free : CanAdd position s i j
  pub one_subconstraint : (a b : ℕ) → AreNeighboursOn position (points_of position s) i j a b
      ↔ IsSamePair a b i j
  pub joined : (now : Plain V) → now.vertices ≡ s.vertices
      → ((a b : ℕ) → Joins now.constraints a b ↔ (Joins s.constraints a b ⊎ IsSamePair a b i j))
      → Adds position s now i j

-- where a vertex has gone from within a straight constraint, the far ends of its halves can be
-- joined, under the indexes that they then have
abbrev pub StraightHalvesJoinAfterRemoval : Type 0 → Type 0
StraightHalvesJoinAfterRemoval V = (position : V → Point) (old new : Plain V) (faces : List Face)
    (edges : List (ℕ × ℕ)) (v a b : ℕ) → IsPlain position old
    → EdgesMeetAtVertices (record { points = points_of position old; faces = faces; edges = edges })
    → ((c d : ℕ) → Joins old.constraints c d → Joins edges c d)
    → Joins old.constraints a v → Joins old.constraints v b
    → WithinSegment (place (points_of position old) a) (place (points_of position old) b)
    (place (points_of position old) v)
    → TakesOut position old new v → CanBeJoined position new
    (new_index v (length old.vertices - 1) a) (new_index v (length old.vertices - 1) b)
