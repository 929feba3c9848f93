-- A part of the vertices and constraints of a plane, and what it has to know of the whole for a
-- face of its own triangulation to be one of the whole's.
use Rattle.std.specs.Prelude.{◌≡◌, ◌⊎◌, ℕ, List, map}
use Rattle.plane.specs.{Fraction, InHull, InsideCircle, InsideCorners, InsideTriangle}
use Rattle.plane.specs.{IsConstrainedDelaunay, IsFace, IsSeen, IsVertex, Joins, OnCircle, OnSegment}
use Rattle.plane.specs.{TilesHull, Triangulation, vertex, whole}
use Rattle.plane_theorems.specs.Delaunay.Cells.{HasFaceAt, HasVertexAt, HasVerticesOf}
use Rattle.plane_theorems.specs.Delaunay.History.{HaveOneCircle, IsVisiblyEmpty}

-- s, with some constraints, is a part of t, with others: its vertices are some of t's, by position,
-- and each point of its constraints is a point of t's. A constraint of s may be several of t's one
-- after another, where t has vertices on it that s has not
pub record IsPartOfPlane (s : Triangulation) (constraints : List (ℕ × ℕ)) (t : Triangulation)
    (others : List (ℕ × ℕ)) : Type 0 where
  pub vertices : HasVerticesOf t s
  pub covered : (i j : ℕ) → Joins constraints i j → (p : Fraction)
      → OnSegment (vertex s i) (vertex s j) p
      → (m n : ℕ) × Joins others m n × OnSegment (vertex t m) (vertex t n) p

-- s, with some constraints, knows what t, with others, has for the triple a b c: each vertex of t
-- that is seen from inside the triple, and inside its circle or on it, is one of s, by position;
-- and each point of a constraint of t that is strictly inside the triple is on a constraint of s
pub record KnowsDisk (s : Triangulation) (constraints : List (ℕ × ℕ)) (t : Triangulation)
    (others : List (ℕ × ℕ)) (a b c : Fraction) : Type 0 where
  pub seen : (n : ℕ) → IsVertex t n → IsSeen t others a b c (vertex t n)
      → InsideCircle a b c (vertex t n) ⊎ OnCircle a b c (vertex t n) → HasVertexAt s (vertex t n)
  pub entering : (p : Fraction) → InsideTriangle a b c p → (m n : ℕ) → Joins others m n
      → OnSegment (vertex t m) (vertex t n) p
      → (i j : ℕ) × Joins constraints i j × OnSegment (vertex s i) (vertex s j) p

-- a visibly empty triple of a part that knows its disk is a face of the whole
abbrev pub PartFaceIsSeen : Type 0
PartFaceIsSeen = (s t : Triangulation) (constraints others : List (ℕ × ℕ))
    → IsPartOfPlane s constraints t others → IsConstrainedDelaunay t others
    → (i j k : ℕ) → IsVisiblyEmpty s constraints i j k
    → KnowsDisk s constraints t others (vertex s i) (vertex s j) (vertex s k)
    → HasFaceAt t (vertex s i) (vertex s j) (vertex s k)

-- where a face of a part that knows its disk and a face of the whole overlap, they have one circle
abbrev pub PartFacesTie : Type 0
PartFacesTie = (s t : Triangulation) (constraints others : List (ℕ × ℕ))
    → IsPartOfPlane s constraints t others → IsConstrainedDelaunay s constraints
    → IsConstrainedDelaunay t others
    → (i j k l m n : ℕ) (q : Fraction) → IsFace s i j k
    → KnowsDisk s constraints t others (vertex s i) (vertex s j) (vertex s k)
    → IsFace t l m n → InsideCorners s i j k q → InsideCorners t l m n q
    → HaveOneCircle (vertex s i) (vertex s j) (vertex s k) (vertex t l) (vertex t m) (vertex t n)

-- a part with the hull of the whole: where it knows the disks of its faces at a vertex, each face of
-- the whole there has one circle with a face of the part there
abbrev pub PartKnowsFaces : Type 0
PartKnowsFaces = (s t : Triangulation) (constraints others : List (ℕ × ℕ))
    → IsPartOfPlane s constraints t others → IsConstrainedDelaunay s constraints → TilesHull s
    → IsConstrainedDelaunay t others
    → ((p : Fraction) → InHull (map whole t.points) p → InHull (map whole s.points) p)
    → (i : ℕ) → IsVertex s i
    → ((j k : ℕ) → IsFace s i j k
    → KnowsDisk s constraints t others (vertex s i) (vertex s j) (vertex s k))
    → (l m n : ℕ) → IsFace t l m n → vertex s i ≡ vertex t l
    → (j k : ℕ) × IsFace s i j k × HaveOneCircle (vertex s i) (vertex s j) (vertex s k) (vertex t l)
    (vertex t m) (vertex t n)
