-- The edges that cross a segment between two vertices, and the one among them that is flipped next.
use Rattle.std.specs.Prelude.{◌≡◌, ◌≢◌, ◌⊎◌, ℕ, ◌≤ℤ◌, ◌<ℤ◌}
use Rattle.plane.specs.{IsEdge, IsVertex, on, Point, right, side, squared_vector, Triangulation}
use Rattle.plane.specs.{TurnsLeft, vertex, whole, WithinSegment}
use Rattle.plane_theorems.specs.Edits.Legal.{point_of}

-- i and j are two vertices with none strictly between them
pub record IsFreeOfVertices (t : Triangulation) (i j : ℕ) : Type 0 where
  pub apart : i ≢ j
  pub first : IsVertex t i
  pub second : IsVertex t j
  pub none_between : (k : ℕ) → IsVertex t k → ¬ WithinSegment (vertex t i) (vertex t j) (vertex t k)

-- the edge from v, on the right of the way from i to j, to y, on its left, has i on its left and j
-- on its right
pub record IsCrossing (t : Triangulation) (i j v y : ℕ) : Type 0 where
  pub edge : IsEdge t v y
  pub from_right : side (vertex t i) (vertex t j) (vertex t v) ≡ right
  pub to_left : TurnsLeft (vertex t i) (vertex t j) (vertex t y)
  pub start : TurnsLeft (vertex t v) (vertex t y) (vertex t i)
  pub end : side (vertex t v) (vertex t y) (vertex t j) ≡ right

-- seen from i, no right end of a crossing edge comes after v: none is right of the way to v, or on
-- it and farther
pub record IsLastRight (t : Triangulation) (i j v : ℕ) : Type 0 where
  pub around : (u w : ℕ) → IsCrossing t i j u w
      → ¬ (side (vertex t i) (vertex t v) (vertex t u) ≡ right)
  pub nearer : (u w : ℕ) → IsCrossing t i j u w → side (vertex t i) (vertex t v) (vertex t u) ≡ on
      → squared_vector (point_of t.points i) (point_of t.points u)
      ≤ℤ squared_vector (point_of t.points i) (point_of t.points v)

-- and no left end of a crossing edge at v comes after y
pub record IsLastLeft (t : Triangulation) (i j v y : ℕ) : Type 0 where
  pub around : (w : ℕ) → IsCrossing t i j v w → ¬ TurnsLeft (vertex t i) (vertex t y) (vertex t w)
  pub nearer : (w : ℕ) → IsCrossing t i j v w → side (vertex t i) (vertex t y) (vertex t w) ≡ on
      → squared_vector (point_of t.points i) (point_of t.points w)
      ≤ℤ squared_vector (point_of t.points i) (point_of t.points y)

-- seen from i, u comes after v among points on the right: it is right of the way to v, or on it and
-- farther
abbrev pub ComesAfterOnRight : Point → Point → Point → Type 0
ComesAfterOnRight i v u = (side (whole i) (whole v) (whole u) ≡ right)
    ⊎ ((side (whole i) (whole v) (whole u) ≡ on) × (squared_vector i v <ℤ squared_vector i u))

-- and w comes after y among points on the left
abbrev pub ComesAfterOnLeft : Point → Point → Point → Type 0
ComesAfterOnLeft i y w = TurnsLeft (whole i) (whole y) (whole w)
    ⊎ ((side (whole i) (whole y) (whole w) ≡ on) × (squared_vector i y <ℤ squared_vector i w))
