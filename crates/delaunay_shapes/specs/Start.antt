-- Where a flood begins: at the location of a point that the shape has, if it has any.
use Rattle.std.specs.Prelude.{◌≡◌, ◌↔◌, ℕ, ◌/◌, ◌<◌, List, length, Some, Contains}
use Rattle.plane.specs.{Fraction, Point}
use Rattle.half_edge_links.specs.{face, face_edge, Mesh, next, out_edge, prev}
use Rattle.plane_theorems.specs.{InRegion, Region, start_point}
use Rattle.delaunay_location.specs.{NoTriangulation, OnEdge, OnFace, OnVertex, OutsideOfConvexHull}
use Rattle.delaunay_location.specs.{PositionInTriangulation}

-- the shape is a closed circle with centre p, or a closed rectangle with lower corner p
pub record HasStartAt (Shape : Fraction → Type 0) (p : Point) : Type 0 where
  pub region : Region
  pub same : (q : Fraction) → Shape q ↔ InRegion region q
  pub start : start_point region ≡ p

-- the three sides of the face on the left of directed edge h are listed
pub record HasSides (m : Mesh) (starts : List ℕ) (h : ℕ) : Type 0 where
  pub first : Contains starts (h / 2)
  pub second : Contains starts (next m h / 2)
  pub third : Contains starts (prev m h / 2)

-- where an outer edge is inside, a listed one is
abbrev pub HasOuter : (ℕ → Type 0) → Mesh → List ℕ → Type 0
HasOuter Inside m starts =
    (h : ℕ) → h < length m.half_edges → face m h ≡ 0 → Inside (h / 2)
    → (k : ℕ) × Contains starts k × Inside k

-- the edges to begin with from a location: one at the vertex, the edge itself, the sides of the
-- face, an outer one that is inside
abbrev pub HasStarts : (ℕ → Type 0) → Mesh → List ℕ → PositionInTriangulation → Type 0
HasStarts Inside m starts (OnVertex v) = (h : ℕ) → out_edge m v ≡ Some h → Contains starts (h / 2)
HasStarts Inside m starts (OnEdge e) = Contains starts (e / 2)
HasStarts Inside m starts (OnFace f) = HasSides m starts (face_edge m f)
HasStarts Inside m starts (OutsideOfConvexHull e) = HasOuter Inside m starts
HasStarts Inside m starts NoTriangulation = Unit {0}
