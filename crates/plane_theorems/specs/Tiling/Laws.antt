-- What is proved of every mesh that keeps the local invariant.
use Rattle.std.specs.Prelude.{◌≡◌, ◌⊎◌, ◌↔◌, ℕ, ◌+◌, ◌-◌, ◌*◌, List, [], length, ⊤}
use Rattle.plane.specs.{EachPairOnce, Face, Fraction, HasFace, IsEdge, IsLocation, IsSamePair}
use Rattle.plane.specs.{IsTiling, IsVertex, Joins, Location, no_triangulation, on_edge, on_face}
use Rattle.plane.specs.{on_vertex, outside_hull, Point, TilesHull, Triangulation, vertex}
use Rattle.plane.specs.{WithinSegment}
use Rattle.plane_theorems.specs.Tiling.Local.{AreEdgesOf, IsMesh, LineMesh, LocalMesh}

-- its faces tile the hull, with any list of edges that has each side of a face once
abbrev pub LocalMeshesTile : Type 0
LocalMeshesTile = (points : List Point) (faces : List Face) (outer edges : List (ℕ × ℕ))
    → LocalMesh points faces outer
    → EachPairOnce edges → ((i j : ℕ) → Joins edges i j
    ↔ (HasFace (record { points = points; faces = faces; edges = edges }) i j
    ⊎ HasFace (record { points = points; faces = faces; edges = edges }) j i))
    → TilesHull (record { points = points; faces = faces; edges = edges })

-- with its own edges a mesh tiles the hull, or joins the points of the line to their neighbours
abbrev pub MeshesTile : Type 0
MeshesTile = (points : List Point) (faces : List Face) (outer edges : List (ℕ × ℕ))
    → IsMesh points faces outer → AreEdgesOf faces outer edges
    → IsTiling (record { points = points; faces = faces; edges = edges })

-- no vertex is strictly within an edge, and two edges with a common point strictly within both are
-- one
abbrev pub EdgesMeetAtVertices : Triangulation → Type 0
EdgesMeetAtVertices t = ((i j k : ℕ) → IsEdge t i j → IsVertex t k
    → ¬ WithinSegment (vertex t i) (vertex t j) (vertex t k))
    × ((i j k l : ℕ) → IsEdge t i j → IsEdge t k l → (p : Fraction) → WithinSegment (vertex t i)
    (vertex t j) p → WithinSegment (vertex t k) (vertex t l) p → IsSamePair k l i j)

-- a mesh with its own edges has edges that meet at vertices alone
abbrev pub NoEdgesCross : Type 0
NoEdgesCross = (points : List Point) (faces : List Face) (outer edges : List (ℕ × ℕ))
    → IsMesh points faces outer → AreEdgesOf faces outer edges
    → EdgesMeetAtVertices (record { points = points; faces = faces; edges = edges })

-- a b c is i j k, turned
abbrev pub IsTurned : ℕ → ℕ → ℕ → ℕ → ℕ → ℕ → Type 0
IsTurned i j k a b c = ((a ≡ i) × (b ≡ j) × (c ≡ k))
    ⊎ (((a ≡ j) × (b ≡ k) × (c ≡ i)) ⊎ ((a ≡ k) × (b ≡ i) × (c ≡ j)))

-- one location, but for the direction of an edge, the rotation of a face and the choice of an outer
-- edge
abbrev pub IsSameLocation : Location → Location → Type 0
IsSameLocation (on_vertex i) (on_vertex j) = i ≡ j
IsSameLocation (on_edge i j) (on_edge k l) = IsSamePair k l i j
IsSameLocation (on_face i j k) (on_face a b c) = IsTurned i j k a b c
IsSameLocation (outside_hull i j) (outside_hull k l) = ⊤
IsSameLocation no_triangulation no_triangulation = ⊤
IsSameLocation _ _ = ⊥

-- each point has a location, and no other
abbrev pub HasOneLocation : Triangulation → Fraction → Type 0
HasOneLocation t p = ((l : Location) × IsLocation t p l)
    × ((l m : Location) → IsLocation t p l → IsLocation t p m → IsSameLocation l m)

-- in a mesh with its own edges each point has a location, and no other
abbrev pub EachPointHasOneLocation : Type 0
EachPointHasOneLocation = (points : List Point) (faces : List Face) (outer edges : List (ℕ × ℕ))
    → IsMesh points faces outer → AreEdgesOf faces outer edges
    → (p : Fraction) → HasOneLocation (record { points = points; faces = faces; edges = edges }) p

-- n vertices with h outer edges have 3 n - 3 - h edges and 2 n - 2 - h faces
abbrev pub HullEdgesCount : Type 0
HullEdgesCount = (points : List Point) (faces : List Face) (outer edges : List (ℕ × ℕ))
    → LocalMesh points faces outer → AreEdgesOf faces outer edges
    → (length edges + length outer + 3 ≡ 3 * length points)
    × (length faces + length outer + 2 ≡ 2 * length points)

-- n vertices on one line have n - 1 edges, and no vertex has none
abbrev pub LineEdgesCount : Type 0
LineEdgesCount = (points : List Point) (outer edges : List (ℕ × ℕ)) → LineMesh points outer
    → AreEdgesOf [] outer edges → length edges ≡ length points - 1
