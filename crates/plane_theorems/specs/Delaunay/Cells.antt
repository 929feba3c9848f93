-- Cells: what the faces with their corners on one circle cover. And a part of the vertices, with a
-- triangulation of its own.
use Rattle.std.specs.Prelude.{◌≡◌, ◌⊎◌, ◌↔◌, ℕ, List, Contains}
use Rattle.plane.specs.{Fraction, InCorners, InsideCircle, IsFace, IsVertex, OnCircle, Point}
use Rattle.plane.specs.{Triangulation, vertex, whole}

-- the circle of a b c carries the three vertices
abbrev pub AreOnCircle : Triangulation → Fraction → Fraction → Fraction → ℕ → ℕ → ℕ → Type 0
AreOnCircle t a b c i j k =
    OnCircle a b c (vertex t i) × OnCircle a b c (vertex t j) × OnCircle a b c (vertex t k)

-- p is in the cell of the circle of a b c: in a closed face whose corners it carries
pub record InCell (t : Triangulation) (a b c p : Fraction) : Type 0 where
  pub i : ℕ
  pub j : ℕ
  pub k : ℕ
  pub is_face : IsFace t i j k
  pub on_circle : AreOnCircle t a b c i j k
  pub within : InCorners t i j k p

-- the list has the vertices that the circle of a b c carries, and no other point
abbrev pub ListsCircle : Triangulation → Fraction → Fraction → Fraction → List Point → Type 0
ListsCircle t a b c on =
    (p : Point) → Contains on p ↔ (Contains t.points p × OnCircle a b c (whole p))

-- p is the position of a vertex
abbrev pub HasVertexAt : Triangulation → Fraction → Type 0
HasVertexAt t p = (n : ℕ) × IsVertex t n × (p ≡ vertex t n)

-- a b c are the positions of the corners of a face
abbrev pub HasFaceAt : Triangulation → Fraction → Fraction → Fraction → Type 0
HasFaceAt t a b c = (i j k : ℕ) × IsFace t i j k × (a ≡ vertex t i) × (b ≡ vertex t j)
    × (c ≡ vertex t k)

-- the vertices of s are a part of those of t, by position
abbrev pub HasVerticesOf : Triangulation → Triangulation → Type 0
HasVerticesOf t s = (n : ℕ) → IsVertex s n → HasVertexAt t (vertex s n)

-- no vertex of t that is not one of s, by position, is inside the circle of a b c or on it
abbrev pub HasDiskOf : Triangulation → Triangulation → Fraction → Fraction → Fraction → Type 0
HasDiskOf s t a b c = (n : ℕ) → IsVertex t n
    → InsideCircle a b c (vertex t n) ⊎ OnCircle a b c (vertex t n) → HasVertexAt s (vertex t n)
