-- What is proved of tilings, constraints and circles, whatever made them.
use Rattle.std.specs.Prelude.{◌≡◌, ◌⊎◌, ◌↔◌, ◌≤ℤ◌, ◌+◌, ◌<◌, ◌≤◌, []}
use Rattle.std.specs.Prelude.{ℕ, ℤ, List, length, Bool, true, false, not, count_by, slice_index_or}
use Rattle.std.specs.Prelude.{slice_set, map}
use Rattle.plane.specs.{EachPairOnce, Fraction, InClosedCircle, InClosedRectangle, InCorners}
use Rattle.plane.specs.{InHull, InsideCircle, InsideCorners, IsBefore, IsConstrainedDelaunay}
use Rattle.plane.specs.{IsEdge, IsEdgeIn, IsFace, IsLocallyDelaunay, IsLocation, IsNearer}
use Rattle.plane.specs.{IsNearest, IsOuter, IsSame, IsStrictlyEmpty, IsTiling, IsVertex, Item}
use Rattle.plane.specs.{Joins, JoinsLine, Location, Meets, Point, TilesHull, Triangulation}
use Rattle.plane.specs.{Shape.IsVertexIn, TurnsLeft, vertex, whole}
use Rattle.plane_theorems.specs.Delaunay.Cells.{HasDiskOf, HasFaceAt, HasVertexAt, HasVerticesOf}
use Rattle.plane_theorems.specs.Delaunay.Cells.{InCell, ListsCircle}
use Rattle.plane_theorems.specs.Delaunay.EdgeTests.{HasPointIn, MeetsCircle, MeetsRectangle}
use Rattle.plane_theorems.specs.Delaunay.Flood.{HasStart, InRegion, IsFlooded, IsFloodedAround}
use Rattle.plane_theorems.specs.Delaunay.Flood.{IsFloodedByVertices, IsTried, Region, start_point}
use Rattle.plane_theorems.specs.Delaunay.History.{AreOneState, HasFacesOf, HaveOneCircle}
use Rattle.plane_theorems.specs.Delaunay.History.{IsVisiblyEmpty, NoFourOnCircle}
use Rattle.plane_theorems.specs.Delaunay.Nearer.{nearer_count}

-- a point in no closed face is strictly left of an outer edge
abbrev pub OutsideIsLeftOfOuter : Type 0
OutsideIsLeftOfOuter = (t : Triangulation) → TilesHull t → (p : Fraction)
    → ((i j k : ℕ) → IsFace t i j k → ¬ InCorners t i j k p)
    → (i j : ℕ) × IsOuter t i j × TurnsLeft (vertex t i) (vertex t j) p

-- a tiling that has each constraint as an edge and passes the local circle test is constrained
-- Delaunay
abbrev pub LocalGivesConstrainedDelaunay : Type 0
LocalGivesConstrainedDelaunay = (t : Triangulation) (constraints : List (ℕ × ℕ)) → IsTiling t
    → ((i j : ℕ) → Joins constraints i j → IsEdge t i j)
    → IsLocallyDelaunay t constraints → IsConstrainedDelaunay t constraints

-- without constraints each strictly empty triple is a face
abbrev pub StrictlyEmptyIsFace : Type 0
StrictlyEmptyIsFace = (t : Triangulation) → IsConstrainedDelaunay t [] → (i j k : ℕ)
    → IsStrictlyEmpty t i j k → IsFace t i j k

-- without constraints a vertex to which no neighbour is nearer than it is nearest of all
abbrev pub NearestByNeighbours : Type 0
NearestByNeighbours = (t : Triangulation) → IsConstrainedDelaunay t [] → (p : Fraction) (i : ℕ)
    → IsVertex t i
    → ((k : ℕ) → IsEdge t i k → ¬ IsNearer p (vertex t k) (vertex t i)) → IsNearest t p i

-- from a vertex to a nearer one the number of nearer vertices falls, and it is less than their
-- number
abbrev pub NearerCountFalls : Type 0
NearerCountFalls = (t : Triangulation) (p : Fraction) (i k : ℕ) → IsVertex t i → IsVertex t k
    → IsNearer p (vertex t k) (vertex t i)
    → (nearer_count t p k < nearer_count t p i) × (nearer_count t p i < length t.points)

-- a triple that no constraint enters, and whose circle neither contains nor carries another vertex
-- that is seen from inside it, is a face
abbrev pub VisiblyEmptyIsFace : Type 0
VisiblyEmptyIsFace = (t : Triangulation) (constraints : List (ℕ × ℕ))
    → IsConstrainedDelaunay t constraints → (i j k : ℕ) → IsVisiblyEmpty t constraints i j k
    → IsFace t i j k

-- two triangulations of one plain state with no four points on one circle have the same faces, by
-- position
abbrev pub FacesAreUnique : Type 0
FacesAreUnique = (s t : Triangulation) (constraints others : List (ℕ × ℕ))
    → AreOneState s constraints t others → IsConstrainedDelaunay s constraints
    → IsConstrainedDelaunay t others
    → NoFourOnCircle s → HasFacesOf t s × HasFacesOf s t

-- where a face of one and a face of the other overlap, they have one circle
abbrev pub OverlappingFacesTie : Type 0
OverlappingFacesTie = (s t : Triangulation) (constraints others : List (ℕ × ℕ))
    → AreOneState s constraints t others → IsConstrainedDelaunay s constraints
    → IsConstrainedDelaunay t others
    → (i j k l m n : ℕ) (q : Fraction) → IsFace s i j k → IsFace t l m n → InsideCorners s i j k q
    → InsideCorners t l m n q
    → HaveOneCircle (vertex s i) (vertex s j) (vertex s k) (vertex t l) (vertex t m) (vertex t n)

-- without constraints: where no vertex is inside the circle of three, the cell of the circle is the
-- hull of the vertices that it carries
abbrev pub CellIsHull : Type 0
CellIsHull = (t : Triangulation) → IsConstrainedDelaunay t [] → (i j k : ℕ)
    → IsVertex t i × IsVertex t j × IsVertex t k → TurnsLeft (vertex t i) (vertex t j) (vertex t k)
    → ((n : ℕ) → IsVertex t n → ¬ InsideCircle (vertex t i) (vertex t j) (vertex t k) (vertex t n))
    → (on : List Point) → ListsCircle t (vertex t i) (vertex t j) (vertex t k) on → (p : Fraction)
    → InCell t (vertex t i) (vertex t j) (vertex t k) p ↔ InHull (map whole on) p

-- s is a part of t, both without constraints: where s has each vertex of t in the closed disk of a
-- circle, both have one cell of that circle
abbrev pub PartHasCells : Type 0
PartHasCells = (s t : Triangulation) → HasVerticesOf t s → IsConstrainedDelaunay s []
    → IsConstrainedDelaunay t [] → (a b c : Point) → TurnsLeft (whole a) (whole b) (whole c)
    → HasDiskOf s t (whole a) (whole b) (whole c) → (p : Fraction)
    → InCell s (whole a) (whole b) (whole c) p ↔ InCell t (whole a) (whole b) (whole c) p

-- a strictly empty triple of the part that has each vertex of the whole in its closed disk is a
-- face of the whole
abbrev pub PartFaceStays : Type 0
PartFaceStays = (s t : Triangulation) → HasVerticesOf t s → IsConstrainedDelaunay t []
    → (i j k : ℕ) → IsStrictlyEmpty s i j k
    → HasDiskOf s t (vertex s i) (vertex s j) (vertex s k)
    → HasFaceAt t (vertex s i) (vertex s j) (vertex s k)

-- a strictly empty triple of the whole is a face of each part that has its corners
abbrev pub PartHasFace : Type 0
PartHasFace = (s t : Triangulation) → HasVerticesOf t s → IsConstrainedDelaunay s []
    → (i j k : ℕ) → IsStrictlyEmpty t i j k → HasVertexAt s (vertex t i)
    → HasVertexAt s (vertex t j) → HasVertexAt s (vertex t k)
    → HasFaceAt s (vertex t i) (vertex t j) (vertex t k)

-- a part with the hull of the whole: where it has each vertex of the whole in the closed disks of
-- its faces at a vertex, it has each in those of the whole's faces there
abbrev pub PartKnowsCells : Type 0
PartKnowsCells = (s t : Triangulation) → HasVerticesOf t s → IsConstrainedDelaunay s []
    → IsConstrainedDelaunay t []
    → ((p : Fraction) → InHull (map whole t.points) p → InHull (map whole s.points) p)
    → (i : ℕ) → IsVertex s i
    → ((j k : ℕ) → IsFace s i j k → HasDiskOf s t (vertex s i) (vertex s j) (vertex s k))
    → (l m n : ℕ) → IsFace t l m n → vertex s i ≡ vertex t l
    → HasDiskOf s t (vertex t l) (vertex t m) (vertex t n)

-- a flood through the faces that has one edge in a region has each
abbrev pub FloodFindsRegion : Type 0
FloodFindsRegion = (t : Triangulation) → TilesHull t → (region : Region) (found : List (ℕ × ℕ))
    → IsFlooded t region found
    → (i j k n : ℕ) → Joins found i j → IsEdgeIn (InRegion region) t i j
    → IsEdgeIn (InRegion region) t k n → Joins found k n

-- where any edge is in a region, one is beside each point of the region
abbrev pub FloodStarts : Type 0
FloodStarts = (t : Triangulation) → TilesHull t → (region : Region) (p : Fraction)
    → InRegion region p → (k n : ℕ) → IsEdgeIn (InRegion region) t k n
    → (m : Location) → IsLocation t p m → HasStart t region m

-- a closed edge has a point of a closed circle exactly if the numbers say so
abbrev pub EdgeMeetsCircle : Type 0
EdgeMeetsCircle = (centre : Point) (radius_2 : ℤ) (p q : Point)
    → HasPointIn (InClosedCircle centre radius_2) p q ↔ MeetsCircle centre radius_2 p q

-- and of a closed rectangle exactly if the ranges meet and the corners are not all strictly on one
-- side of its line
abbrev pub EdgeMeetsRectangle : Type 0
EdgeMeetsRectangle = (lower upper : Point) → lower.x ≤ℤ upper.x → lower.y ≤ℤ upper.y → (p q : Point)
    → HasPointIn (InClosedRectangle lower upper) p q ↔ MeetsRectangle lower upper p q

-- of two different items that a segment meets one comes first
abbrev pub LineItemsAreOrdered : Type 0
LineItemsAreOrdered = (t : Triangulation) → TilesHull t → (p q : Fraction) → ¬ IsSame p q
    → (m n : Item) → Meets t p q m → Meets t p q n
    → (m ≡ n) ⊎ (IsBefore t p q m n ⊎ IsBefore t p q n m)

-- where all vertices are on one line, a flood along shared vertices that has one edge in a region
-- has each
abbrev pub FloodFindsOnLine : Type 0
FloodFindsOnLine = (t : Triangulation) → JoinsLine t → (region : Region) (found : List (ℕ × ℕ))
    → IsFloodedByVertices t region found
    → (i j a b : ℕ) → Joins found i j → IsEdgeIn (InRegion region) t i j
    → IsEdgeIn (InRegion region) t a b → Joins found a b

-- with faces or without, a flood along shared vertices that has one edge in a region has each
abbrev pub FloodByVerticesFinds : Type 0
FloodByVerticesFinds = (t : Triangulation) → IsTiling t → (region : Region) (found : List (ℕ × ℕ))
    → IsFloodedByVertices t region found
    → (i j a b : ℕ) → Joins found i j → IsEdgeIn (InRegion region) t i j
    → IsEdgeIn (InRegion region) t a b → Joins found a b

-- on one line too, where any edge is in a region, one is beside each point of the region
abbrev pub FloodStartsOnLine : Type 0
FloodStartsOnLine = (t : Triangulation) → JoinsLine t → (region : Region) (p : Fraction)
    → InRegion region p → (k n : ℕ) → IsEdgeIn (InRegion region) t k n
    → (m : Location) → IsLocation t p m → HasStart t region m

-- a region that has a point has its start point
abbrev pub RegionHasStart : Type 0
RegionHasStart = (region : Region) (p : Fraction) → InRegion region p
    → InRegion region (whole (start_point region))

-- an edge is in a region exactly if one of those beside the region's start point is
abbrev pub StartIsExact : Type 0
StartIsExact = (t : Triangulation) → IsTiling t → (region : Region) (m : Location)
    → IsLocation t (whole (start_point region)) m
    → ((k n : ℕ) × IsEdgeIn (InRegion region) t k n)
    ↔ ((a b : ℕ) × IsTried t m a b × IsEdgeIn (InRegion region) t a b)

-- of two or more vertices, no two in one place, those in a region are those of its edges' ends that
-- are in it
abbrev pub VerticesAreEnds : Type 0
VerticesAreEnds = (t : Triangulation) → IsTiling t
    → ((i j : ℕ) → IsVertex t i → IsVertex t j → IsSame (vertex t i) (vertex t j) → i ≡ j)
    → 2 ≤ length t.points
    → (region : Region) (i : ℕ) → IsVertexIn (InRegion region) t i
    ↔ (InRegion region (vertex t i) × ((k : ℕ) × IsEdgeIn (InRegion region) t i k))

-- at most one vertex, which is 0, has no edge
abbrev pub OneVertexIsAlone : Type 0
OneVertexIsAlone = (t : Triangulation) → IsTiling t → length t.points ≤ 1
    → ((i j : ℕ) → ¬ IsEdge t i j) × ((i : ℕ) → IsVertex t i → i ≡ 0)

-- a list of pairs of a second list, each once, is not longer
abbrev pub FloodIsBounded : Type 0
FloodIsBounded = (edges found : List (ℕ × ℕ)) → EachPairOnce found
    → ((i j : ℕ) → Joins found i j → Joins edges i j) → length found ≤ length edges

-- with each new mark one fewer is unmarked
abbrev pub MarksFillUp : Type 0
MarksFillUp = (marks : List Bool) (i : ℕ) (default : Bool) → i < length marks
    → slice_index_or marks i default ≡ false
    → count_by not marks ≡ count_by not (slice_set marks i true) + 1

-- edges in a region, flooded, and one of them wherever the region's start point has one beside it:
-- they are all of its edges
abbrev pub FloodIsExact : Type 0
FloodIsExact = (t : Triangulation) → IsTiling t → (region : Region) (m : Location)
    → IsLocation t (whole (start_point region)) m → (found : List (ℕ × ℕ))
    → ((i j : ℕ) → Joins found i j → IsEdgeIn (InRegion region) t i j)
    → IsFloodedAround t region found
    → ((a b : ℕ) → IsTried t m a b → IsEdgeIn (InRegion region) t a b → (i j : ℕ) × Joins found i j)
    → (k n : ℕ) → Joins found k n ↔ IsEdgeIn (InRegion region) t k n
