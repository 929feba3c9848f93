-- The edges of a mesh that cross the segment between two of its vertices, and which of them can be
-- turned towards it.
use Rattle.std.specs.Prelude.{◌≡◌, ◌≢◌, ◌⊎◌, ◌<◌, ℕ, List, length, Option, MatchOption}
use Rattle.plane.specs.{Cross, place, Point, right, side, TurnsLeft, whole}
use Rattle.half_edge_links.specs.{Mesh, next, origin, prev, rev}
use Rattle.{delaunay_legalization.specs.point_at, plane_theorems.specs.ComesAfterOnRight}

-- directed edge h and the segment from i to j have a point strictly within both
abbrev pub CrossesSegment : List Point → Mesh → ℕ → ℕ → ℕ → Type 0
CrossesSegment points m i j h = Cross (place points i) (place points j) (place points (origin m h))
    (place points (origin m (rev h)))

-- the way from v to y goes from the right of the way from p to q to its left, with p on its own
-- left and q on its right
abbrev pub PassesFromRight : (p q v y : Point) → Type 0
PassesFromRight p q v y = (side (whole p) (whole q) (whole v) ≡ right)
    × TurnsLeft (whole p) (whole q) (whole y) × TurnsLeft (whole v) (whole y) (whole p)
    × (side (whole v) (whole y) (whole q) ≡ right)

-- where the way from a to b crosses from the right, v comes after a, seen from p
abbrev pub PassesSooner : (p q v a b : Point) → Type 0
PassesSooner p q v a b = side (whole p) (whole q) (whole a) ≡ right
    → TurnsLeft (whole p) (whole q) (whole b) → ComesAfterOnRight p a v

-- the way from vertex v to vertex y passes so that from i to j
abbrev pub GoesFromRight : List Point → ℕ → ℕ → ℕ → ℕ → Type 0
GoesFromRight points i j v y = PassesFromRight (point_at points i) (point_at points j)
    (point_at points v) (point_at points y)

-- directed edge h does so
pub record CrossesFromRight (points : List Point) (m : Mesh) (i j h : ℕ) : Type 0 where
  pub from_right : side (place points i) (place points j) (place points (origin m h)) ≡ right
  pub to_left : TurnsLeft (place points i) (place points j) (place points (origin m (rev h)))
  pub start :
      TurnsLeft (place points (origin m h)) (place points (origin m (rev h))) (place points i)
  pub end : side (place points (origin m h)) (place points (origin m (rev h))) (place points j)
      ≡ right

-- where the edge from a to b crosses from the right, v comes after its right end, seen from i
abbrev pub ComesSooner : List Point → ℕ → ℕ → ℕ → ℕ → ℕ → Type 0
ComesSooner points i j v a b = PassesSooner (point_at points i) (point_at points j)
    (point_at points v) (point_at points a) (point_at points b)

-- v x z and x y z turn left, and where the way between x and z crosses that from p to q from the
-- right, its right end comes before v
pub record CornersTurn (p q v x y z : Point) : Type 0 where
  pub first : TurnsLeft (whole v) (whole x) (whole z)
  pub second : TurnsLeft (whole x) (whole y) (whole z)
  pub behind_sooner : PassesSooner p q v x z
  pub ahead_sooner : PassesSooner p q v z x

-- where the way between x and z goes from the right of that from p to q to its left, r is e if it
-- goes from z to x, and the reverse of e if it goes back; where it does not, r is none
abbrev pub IsWayBetween : (p q x z : Point) → ℕ → Option ℕ → Type 0
IsWayBetween p q x z e r =
    MatchOption r ((¬ PassesFromRight p q z x) × (¬ PassesFromRight p q x z))
    (λ f. ((f ≡ e) × PassesFromRight p q z x) ⊎ ((f ≡ rev e) × PassesFromRight p q x z))

-- the corner ahead of directed edge e is that on its left, and the one behind it that on its right
abbrev pub ahead : Mesh → ℕ → ℕ
ahead m e = origin m (prev m e)

abbrev pub behind : Mesh → ℕ → ℕ
behind m e = origin m (prev m (rev e))

-- directed edge e can be turned towards the segment from i to j: the corners round it are those of
-- a strictly convex quadrilateral, and where the edge that is made crosses from the right, its
-- right end comes before that of e
abbrev pub TurnsNearer : List Point → Mesh → ℕ → ℕ → ℕ → Type 0
TurnsNearer points m i j e = CornersTurn (point_at points i) (point_at points j)
    (point_at points (origin m e)) (point_at points (behind m e))
    (point_at points (origin m (next m e))) (point_at points (ahead m e))

-- the edge that a turn of e makes goes so between these corners
abbrev pub IsWayMade : List Point → Mesh → ℕ → ℕ → ℕ → Option ℕ → Type 0
IsWayMade points m i j e r = IsWayBetween (point_at points i) (point_at points j)
    (point_at points (behind m e)) (point_at points (ahead m e)) e r

-- the directed edges of which this holds are those that cross the segment from the right
pub record AreAllCrossing (points : List Point) (m : Mesh) (i j : ℕ)
    (In : ℕ → Type 0) : Type 0 where
  pub cross : (h : ℕ) → In h → (h < length m.half_edges) × CrossesFromRight points m i j h
  pub all : (h : ℕ) → h < length m.half_edges → CrossesFromRight points m i j h → In h

-- they are those and e, of which it does not hold
pub record AreOthersCrossing (points : List Point) (m : Mesh) (i j e : ℕ)
    (In : ℕ → Type 0) : Type 0 where
  pub own : (e < length m.half_edges) × CrossesFromRight points m i j e
  pub cross : (h : ℕ) → In h → (h < length m.half_edges) × CrossesFromRight points m i j h
  pub other : (h : ℕ) → In h → h ≢ e
  pub all : (h : ℕ) → h < length m.half_edges → CrossesFromRight points m i j h → (h ≡ e) ⊎ In h
