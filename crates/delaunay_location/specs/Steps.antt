-- From an item that a segment meets in a mesh to the next, by handles.
use Rattle.std.specs.Prelude.{◌⊎◌, ℕ, ◌<◌, List, map, Option, MatchOption}
use Rattle.plane.specs.{Item, place, Point, TurnsLeft, whole}
use Rattle.half_edge_links.specs.{face, Mesh, origin, prev, rev}
use Rattle.plane_theorems.specs.{ComesNext, IsAhead, IsLast}
use Rattle.{delaunay_legalization.specs.drawn, half_edge_dcel.specs.Contents}
use Rattle.delaunay_location.specs.Items.{IsHandleOf, item_of}
use Rattle.delaunay_location.specs.declared.intersection.FixedIntersection.{FixedIntersection}

-- q is on the left of directed edge h
abbrev pub IsLeftOf : List Point → Mesh → Point → ℕ → Type 0
IsLeftOf points m q h =
    TurnsLeft (place points (origin m h)) (place points (origin m (rev h))) (whole q)

-- of the items that the segment from p to q meets, this comes next after item k, or k is the last
abbrev pub IsNext : {V D U F : Type 0} → (V → Point) → Contents V D U F → Point → Point → Item →
    Option FixedIntersection → Type 0
IsNext at c p q k r =
    MatchOption r (IsLast (drawn (map at c.vertices) c.mesh) (whole p) (whole q) k)
    (λ n. IsHandleOf c n
    × ComesNext (drawn (map at c.vertices) c.mesh) (whole p) (whole q) k (item_of c.mesh n))

-- q lies in the direction of directed edge h from where it starts
abbrev pub IsEdgeAhead : List Point → Mesh → Point → ℕ → Type 0
IsEdgeAhead points m q h =
    IsAhead (place points (origin m h)) (place points (origin m (rev h))) (whole q)

-- directed edge h has an inner face on its left, and q is strictly between the two sides of this
-- face that start where h does
pub record IsInCone (points : List Point) (m : Mesh) (q : Point) (h : ℕ) : Type 0 where
  pub inner : 0 < face m h
  pub left : IsLeftOf points m q h
  pub right : IsLeftOf points m q (prev m h)

-- directed edge h, or the face on its left, leads towards q
abbrev pub LeadsOn : List Point → Mesh → Point → ℕ → Type 0
LeadsOn points m q h = IsEdgeAhead points m q h ⊎ IsInCone points m q h
