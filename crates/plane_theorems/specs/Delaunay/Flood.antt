-- A flood through the faces of a tiling: from the edges found, to each edge that shares a face with
-- one of them and is in the region too.
use Rattle.std.specs.Prelude.{◌≡◌, ◌⊎◌, ℕ, ℤ, List}
use Rattle.plane.specs.{Fraction, InClosedCircle, InClosedRectangle, IsEdge, IsEdgeIn, IsFace}
use Rattle.plane.specs.{IsOuter, IsSamePair, Joins, JoinsLine, Location, no_triangulation, on_edge}
use Rattle.plane.specs.{on_face, on_vertex, outside_hull, Point, TilesHull, Triangulation}

-- a closed circle, by its centre and its squared radius, or a closed rectangle, by two corners
pub data Region : Type 0 where
  circle : Point → ℤ → Region
  rectangle : Point → Point → Region

-- p is a point of the closed circle, or of the closed rectangle
abbrev pub InRegion : Region → Fraction → Type 0
InRegion (circle centre radius_2) p = InClosedCircle centre radius_2 p
InRegion (rectangle lower upper) p = InClosedRectangle lower upper p

-- where a side of a face is found, so is each other side of the face that is in the region
pub record IsFlooded (t : Triangulation) (region : Region) (found : List (ℕ × ℕ)) : Type 0 where
  pub next : (i j k : ℕ) → IsFace t i j k → Joins found i j → IsEdgeIn (InRegion region) t j k
      → Joins found j k
  pub last : (i j k : ℕ) → IsFace t i j k → Joins found i j → IsEdgeIn (InRegion region) t k i
      → Joins found k i

-- an edge in the region, beside a point of the region that is where m says: each edge at a vertex,
-- the edge itself, a side of the face, an outer edge
abbrev pub HasStart : Triangulation → Region → Location → Type 0
HasStart t region (on_vertex i) = (k : ℕ) → IsEdge t i k → IsEdgeIn (InRegion region) t i k
HasStart t region (on_edge i j) = IsEdgeIn (InRegion region) t i j
HasStart t region (on_face i j k) = IsEdgeIn (InRegion region) t i j
    ⊎ (IsEdgeIn (InRegion region) t j k ⊎ IsEdgeIn (InRegion region) t k i)
HasStart t region (outside_hull i j) = (m n : ℕ) × IsOuter t m n × IsEdgeIn (InRegion region) t m n
HasStart t region no_triangulation = ⊥

-- where an edge is found, so is each other edge at one of its ends that is in the region
pub record IsFloodedByVertices (t : Triangulation) (region : Region)
    (found : List (ℕ × ℕ)) : Type 0 where
  pub next : (i j k : ℕ) → Joins found i j → IsEdgeIn (InRegion region) t j k → Joins found j k

-- through the faces, and along shared vertices where there is none
pub record IsFloodedAround (t : Triangulation) (region : Region)
    (found : List (ℕ × ℕ)) : Type 0 where
  pub faces : TilesHull t → IsFlooded t region found
  pub line : JoinsLine t → IsFloodedByVertices t region found

-- the centre of a circle, the lower corner of a rectangle
abbrev pub start_point : Region → Point
start_point (circle centre radius_2) = centre
start_point (rectangle lower upper) = lower

-- the edges that a search tries first from a point that is where m says: those at the vertex, the
-- edge itself, the sides of the face, the outer edges
abbrev pub IsTried : Triangulation → Location → ℕ → ℕ → Type 0
IsTried t (on_vertex i) a b = (a ≡ i) × IsEdge t a b
IsTried t (on_edge i j) a b = IsSamePair a b i j
IsTried t (on_face i j k) a b = IsSamePair a b i j ⊎ (IsSamePair a b j k ⊎ IsSamePair a b k i)
IsTried t (outside_hull i j) a b = IsOuter t a b
IsTried t no_triangulation a b = ⊥
