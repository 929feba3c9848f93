-- Triangulations of one plain state with different histories: the same vertices and constraints by
-- position, under whatever indexes.
use Rattle.std.specs.Prelude.{◌≡◌, ◌≢◌, ℕ, List}
use Rattle.plane.specs.{AreEquallyFar, Fraction, InsideCircle, InsideCorners, InsideTriangle}
use Rattle.plane.specs.{IsCentre, IsConstrainedDelaunay, IsFace, IsSeen, IsVertex, Joins, OnCircle}
use Rattle.plane.specs.{OnSegment, Triangulation, TurnsLeft, vertex}

-- a left-turning triple that no constraint enters, and whose circle neither contains nor carries a
-- further vertex that is seen from inside the triple
pub record IsVisiblyEmpty (t : Triangulation) (constraints : List (ℕ × ℕ))
    (i j k : ℕ) : Type 0 where
  pub corners : IsVertex t i × IsVertex t j × IsVertex t k
  pub turns : TurnsLeft (vertex t i) (vertex t j) (vertex t k)
  pub unentered : (p : Fraction) → InsideTriangle (vertex t i) (vertex t j) (vertex t k) p
      → (m n : ℕ) → Joins constraints m n → ¬ OnSegment (vertex t m) (vertex t n) p
  pub clear : (n : ℕ) → IsVertex t n → n ≢ i → n ≢ j → n ≢ k
      → IsSeen t constraints (vertex t i) (vertex t j) (vertex t k) (vertex t n)
      → (¬ InsideCircle (vertex t i) (vertex t j) (vertex t k) (vertex t n))
      × (¬ OnCircle (vertex t i) (vertex t j) (vertex t k) (vertex t n))

-- the vertices of s and its constraints, by the positions of their ends, stand in t too
pub record IsPartOf (s : Triangulation) (constraints : List (ℕ × ℕ)) (t : Triangulation)
    (others : List (ℕ × ℕ)) : Type 0 where
  pub vertices : (i : ℕ) → IsVertex s i → (m : ℕ) × IsVertex t m × (vertex s i ≡ vertex t m)
  pub pairs : (i j : ℕ) → Joins constraints i j
      → (m n : ℕ) × Joins others m n × (vertex s i ≡ vertex t m) × (vertex s j ≡ vertex t n)

-- each stands in the other: the vertices and the constraints are the same by position
abbrev pub AreOneState : Triangulation → List (ℕ × ℕ) → Triangulation → List (ℕ × ℕ) → Type 0
AreOneState s constraints t others =
    IsPartOf s constraints t others × IsPartOf t others s constraints

-- each face of s is a face of t by the positions of its corners
abbrev pub HasFacesOf : Triangulation → Triangulation → Type 0
HasFacesOf t s = (i j k : ℕ) → IsFace s i j k → (l m n : ℕ) × IsFace t l m n
    × (vertex s i ≡ vertex t l) × (vertex s j ≡ vertex t m) × (vertex s k ≡ vertex t n)

-- no circle of a left-turning triple of vertices carries a fourth
abbrev pub NoFourOnCircle : Triangulation → Type 0
NoFourOnCircle t = (i j k n : ℕ) → IsVertex t i → IsVertex t j → IsVertex t k → IsVertex t n
    → TurnsLeft (vertex t i) (vertex t j) (vertex t k)
    → n ≢ i → n ≢ j → n ≢ k → ¬ OnCircle (vertex t i) (vertex t j) (vertex t k) (vertex t n)

-- two triples have one circle: one centre, and one distance from it
pub record HaveOneCircle (a b c d e f : Fraction) : Type 0 where
  pub centre : Fraction
  pub of_first : IsCentre a b c centre
  pub of_second : IsCentre d e f centre
  pub far : AreEquallyFar centre a d

-- the faces of t depend on its vertices and constraints alone: each visibly empty triple is one;
-- each other constrained Delaunay triangulation of the same state has the same, by position, where
-- no four vertices are on one circle; and a face of each that overlap have one circle
pub record IsHistoryFree (t : Triangulation) (constraints : List (ℕ × ℕ)) : Type 0 where
  pub visible : (i j k : ℕ) → IsVisiblyEmpty t constraints i j k → IsFace t i j k
  pub unique : (s : Triangulation) (others : List (ℕ × ℕ)) → AreOneState t constraints s others
      → IsConstrainedDelaunay s others → NoFourOnCircle t → HasFacesOf s t × HasFacesOf t s
  pub tied : (s : Triangulation) (others : List (ℕ × ℕ)) → AreOneState t constraints s others
      → IsConstrainedDelaunay s others → (i j k l m n : ℕ) (q : Fraction) → IsFace t i j k
      → IsFace s l m n → InsideCorners t i j k q → InsideCorners s l m n q
      → HaveOneCircle (vertex t i) (vertex t j) (vertex t k) (vertex s l) (vertex s m) (vertex s n)
