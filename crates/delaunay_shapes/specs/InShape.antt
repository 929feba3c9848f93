-- Which edges and vertices of a mesh have a point in a shape.
use Rattle.std.specs.Prelude.{◌≢◌, ◌↔◌, ℕ, ◌*◌, ◌/◌, ◌<◌, List, length, map, Contains, AllPairs}
use Rattle.plane.specs.{Fraction, Point, whole}
use Rattle.half_edge_links.specs.{Mesh, origin, rev}
use Rattle.half_edge_dcel.specs.{Contents}
use Rattle.{delaunay_shapes.specs.Known.point_at, plane_theorems.specs.HasPointIn}

-- directed edges, each without its direction
abbrev pub undirected_of : List ℕ → List ℕ
undirected_of hs = map (λ h. h / 2) hs

-- closed undirected edge k has a point in the shape
abbrev pub IsEdgeInShape : (Fraction → Type 0) → List Point → Mesh → ℕ → Type 0
IsEdgeInShape Shape points m k =
    HasPointIn Shape (point_at points (origin m (2 * k))) (point_at points (origin m (rev (2 * k))))

-- the same of a mesh with vertices that have places
abbrev pub IsInside : {V D U F : Type 0} → (Fraction → Type 0) → (V → Point)
    → Contents V D U F → ℕ → Type 0
IsInside Shape place c = IsEdgeInShape Shape (map place c.vertices) c.mesh

-- the undirected edges that have a point in the shape, each once
pub record AreEdgesInShape (Shape : Fraction → Type 0) (points : List Point) (m : Mesh)
    (given : List ℕ) : Type 0 where
  pub once : AllPairs (λ i j. i ≢ j) given
  pub exact : (k : ℕ) → Contains given k
      ↔ (((2 * k) < length m.half_edges) × IsEdgeInShape Shape points m k)

-- vertex i is in the shape
abbrev pub IsVertexInside : {V D U F : Type 0} → (Fraction → Type 0) → (V → Point)
    → Contents V D U F → ℕ → Type 0
IsVertexInside Shape place c i = Shape (whole (point_at (map place c.vertices) i))

-- the vertices in the shape, each once
pub record AreVerticesInShape (Shape : Fraction → Type 0) (points : List Point)
    (given : List ℕ) : Type 0 where
  pub once : AllPairs (λ i j. i ≢ j) given
  pub exact : (i : ℕ) → Contains given i ↔ ((i < length points) × Shape (whole (point_at points i)))
