-- Vertices and faces by the indexes of their points in a list.
use Rattle.std.specs.Prelude.{◌≡◌, ◌<◌, ◌≤◌, [], ◌∷◌, ℕ, ℤ, List, length, map, slice_index}
use Rattle.delaunay_core.specs.{place_of, Point2}
use Rattle.{delaunay_legalization.specs.point_at, plane.specs.Face, plane.specs.Point}

-- where a point is
abbrev pub position : Point2 ℤ → Point
position p = place_of (λ z. z) p

-- of each vertex the first index where it stands in a list of vertices
pub record AreFirsts (count : ℕ) (vertices firsts : List ℕ) : Type 0 where
  pub size : length firsts ≡ count
  pub each : (i : ℕ) → i < length vertices
      → let first = slice_index firsts (slice_index vertices i) in
      (first ≤ i) × (slice_index vertices first ≡ slice_index vertices i)

-- each vertex is a point of a list, and this is its index: the first of a point there
pub record NamesVertices (points : List (Point2 ℤ)) (vertices : List Point) (names : List ℕ) :
    Type 0 where
  pub size : length names ≡ length vertices
  pub below : (v : ℕ) → v < length vertices → slice_index names v < length points
  pub here : (v : ℕ) → v < length vertices
      → point_at (map position points) (slice_index names v) ≡ point_at vertices v
  pub first : (i : ℕ) → i < length points → (v : ℕ) × (v < length vertices)
      × (point_at (map position points) i ≡ point_at vertices v) × (slice_index names v ≤ i)

-- the indexes of a face's corners, against the clock
abbrev pub places_of : List ℕ → Face → List ℕ
places_of names f =
    slice_index names f.a ∷ slice_index names f.b ∷ slice_index names f.c ∷ []
