-- Where a segment starts in a mesh.
use Rattle.std.specs.Prelude.{◌≡◌, ◌≢◌, ℕ, ◌<◌, ◌<ℤ◌, List, length, Option, MatchOption, IfSome}
use Rattle.std.specs.Prelude.{⊤}
use Rattle.plane.specs.{gap, InsideTriangle, IsEdge, IsNearer, IsOuter, IsSame, IsVertex, left}
use Rattle.plane.specs.{OnSegment, place, Point, right, side, TilesHull, Triangulation, TurnsLeft}
use Rattle.plane.specs.{vertex, whole, WithinSegment}
use Rattle.half_edge_links.specs.{face, Mesh, origin, prev, rev}

-- p is strictly within directed edge h
abbrev pub StartsWithin : List Point → Mesh → Point → ℕ → Type 0
StartsWithin points m p h =
    WithinSegment (place points (origin m h)) (place points (origin m (rev h))) (whole p)

-- p is strictly inside the face on the left of directed edge h
pub record StartsInside (points : List Point) (m : Mesh) (p : Point) (h : ℕ) : Type 0 where
  pub inner : 0 < face m h
  pub inside : InsideTriangle (place points (origin m h)) (place points (origin m (rev h)))
      (place points (origin m (prev m h))) (whole p)

-- directed edge h starts on the right of the segment from p to q, or on its line, and ends on its
-- left
abbrev pub GoesOver : List Point → Mesh → Point → Point → ℕ → Type 0
GoesOver points m p q h = (side (whole p) (whole q) (place points (origin m h)) ≢ left)
    × (side (whole p) (whole q) (place points (origin m (rev h))) ≡ left)

-- directed edge h goes from the left of the segment from p to q, or of its line, to the right
abbrev pub GoesRight : List Point → Mesh → Point → Point → ℕ → Type 0
GoesRight points m p q h = (side (whole p) (whole q) (place points (origin m h)) ≡ left)
    × (side (whole p) (whole q) (place points (origin m (rev h))) ≡ right)

-- p is on its right or its line, and q on its left or its line
abbrev pub HasEndsOnSides : List Point → Mesh → Point → Point → ℕ → Type 0
HasEndsOnSides points m p q h =
    (side (place points (origin m h)) (place points (origin m (rev h))) (whole p) ≢ left)
    × (side (place points (origin m h)) (place points (origin m (rev h))) (whole q) ≢ right)

-- both: it is crossed by the segment
abbrev pub IsCrossed : List Point → Mesh → Point → Point → ℕ → Type 0
IsCrossed points m p q h = GoesRight points m p q h × HasEndsOnSides points m p q h

-- and it has the outer face on its right
abbrev pub IsEntered : List Point → Mesh → Point → Point → ℕ → Type 0
IsEntered points m p q h = (face m (rev h) ≡ 0) × IsCrossed points m p q h

-- p is outside: no vertex is there, no edge carries it, and off one line it is on the left of an
-- outer edge
pub record StartsOutside (t : Triangulation) (p : Point) : Type 0 where
  pub no_vertex : (k : ℕ) → IsVertex t k → ¬ IsSame (whole p) (vertex t k)
  pub no_edge : (i j : ℕ) → IsEdge t i j → ¬ OnSegment (vertex t i) (vertex t j) (whole p)
  pub left_of : TilesHull t
      → (i : ℕ) × (j : ℕ) × IsOuter t i j × TurnsLeft (vertex t i) (vertex t j) (whole p)

-- vertex k is not on the segment from p to q, or another vertex was found and k is not nearer to p
abbrev pub IsNoBetter : List Point → Point → Point → Option ℕ → ℕ → Type 0
IsNoBetter points p q r k = OnSegment (whole p) (whole q) (place points k)
    → MatchOption r ⊥ (λ v. ¬ IsNearer (whole p) (place points k) (place points v))

-- what was found is a vertex on the segment from p to q
abbrev pub IsOnSegment : List Point → Point → Point → Option ℕ → Type 0
IsOnSegment points p q r =
    IfSome r (λ v. (v < length points) × OnSegment (whole p) (whole q) (place points v))

-- and vertex 0 is no better
pub record IsFirstFound (points : List Point) (p q : Point) (r : Option ℕ) : Type 0 where
  pub found : IsOnSegment points p q r
  pub first : 0 < length points → IsNoBetter points p q r 0

-- nor is one where an outer edge starts
pub record IsNearestOf (points : List Point) (m : Mesh) (p q : Point) (r : Option ℕ) : Type 0 where
  pub first : IsFirstFound points p q r
  pub outer : (h : ℕ) → h < length m.half_edges → face m h ≡ 0
      → IsNoBetter points p q r (origin m h)

-- vertex v and each vertex that was no better before are not better
pub record IsBetterOf (points : List Point) (p q : Point) (v : ℕ) (before r : Option ℕ)
    : Type 0 where
  pub found : IsOnSegment points p q r
  pub kept : (k : ℕ) → IsNoBetter points p q before k → IsNoBetter points p q r k
  pub here : IsNoBetter points p q r v

-- vertex v is nearer to p than the other one, if there is one
abbrev pub IsNearerVertex : List Point → Point → ℕ → Option ℕ → Type 0
IsNearerVertex points p v r =
    MatchOption r ⊤ (λ o. gap (whole p) (place points v) <ℤ gap (whole p) (place points o))

-- and it is on the segment from p to q
abbrev pub IsBetter : List Point → Point → Point → ℕ → Option ℕ → Type 0
IsBetter points p q v r = OnSegment (whole p) (whole q) (place points v)
    × IsNearerVertex points p v r
