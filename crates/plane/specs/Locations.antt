-- Where a point is in a triangulation.
-- Location: on a vertex, on an edge, in a face, outside the hull beyond an edge, or in no
--   triangulation
-- IsLocation t p l: l says truly where p is in t
-- IsOuter t i j: i j is an edge with no face on the left of the direction from i to j
-- IsPast t i p: p is beyond the end i of vertices on one line
use Rattle.std.specs.Prelude.{◌≢◌, ◌⊎◌, ℕ, ◌≤◌, length}
use Rattle.plane.specs.Fractions.{Fraction, InsideTriangle, IsSame, WithinSegment}
use Rattle.plane.specs.Sides.{TurnsLeft}
use Rattle.plane.specs.Tiling.{HasFace, IsEdge, IsFace, IsVertex, Triangulation, vertex}

-- what a query point lies on: a vertex, an edge, a face, the outside beyond an outer edge, or
-- nothing
pub data Location : Type 0 where
  on_vertex : ℕ → Location
  on_edge : ℕ → ℕ → Location
  on_face : ℕ → ℕ → ℕ → Location
  outside_hull : ℕ → ℕ → Location
  no_triangulation : Location

-- the edge from i to j has the outer face on its left
abbrev pub IsOuter : Triangulation → ℕ → ℕ → Type 0
IsOuter t i j = IsEdge t i j × ¬ HasFace t i j

-- p is past the end i of a line of vertices: i is strictly between p and each other vertex
abbrev pub IsPast : Triangulation → ℕ → Fraction → Type 0
IsPast t i p = (k : ℕ) → IsVertex t k → k ≢ i → WithinSegment p (vertex t k) (vertex t i)

-- the cases exclude one another in a tiling, so none says that those before it fail
abbrev pub IsLocation : Triangulation → Fraction → Location → Type 0
IsLocation t p (on_vertex i) = IsVertex t i × IsSame p (vertex t i)
IsLocation t p (on_edge i j) = IsEdge t i j × WithinSegment (vertex t i) (vertex t j) p
IsLocation t p (on_face i j k) =
    IsFace t i j k × InsideTriangle (vertex t i) (vertex t j) (vertex t k) p
IsLocation t p (outside_hull i j) =
    IsOuter t i j × (TurnsLeft (vertex t i) (vertex t j) p ⊎ IsPast t i p)
IsLocation t p no_triangulation =
    (length t.points ≤ 1) × ((i : ℕ) → IsVertex t i → ¬ IsSame p (vertex t i))
