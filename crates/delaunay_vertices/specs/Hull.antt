-- The edges and faces round a vertex on the hull that is to go.
use Rattle.std.specs.Prelude.{◌≡◌, ℕ, suc, ◌<◌, List, length, map, slice_index}
use Rattle.plane.specs.{place, Point, TurnsLeft}
use Rattle.half_edge_links.specs.{face, IsRound, Mesh, neighbour, next, origin, rev, spoke}
use Rattle.plane_theorems.specs.{LocalMesh}
use Rattle.half_edge_dcel.specs.{Contents, IsMeshWithData}
use Rattle.delaunay_legalization.specs.{faces_of, outer_of}
use Rattle.delaunay_vertices.specs.{RemovalData.StandsBeside, Star.IsConvexAt}

-- a mesh in the plane has this edge, with the outer face on its right
pub record HasHullEdge {V D U F : Type 0} (place : V → Point) (c : Contents V D U F) (h : ℕ)
    : Type 0 where
  pub within : h < length c.directed
  pub shape : LocalMesh (map place c.vertices) (faces_of c.mesh) (outer_of c.mesh)
  pub outer : face c.mesh (rev h) ≡ 0

-- vertex v is on the hull, and has so many edges, from the one with the outer face on its right on
pub record IsHullFan (points : List Point) (m : Mesh) (v first count : ℕ) : Type 0 where
  pub shape : LocalMesh points (faces_of m) (outer_of m)
  pub outer : face m (rev first) ≡ 0
  pub round : IsRound m v first count

-- none of its edges lies across a strictly convex quadrilateral
abbrev pub HasNoFlippableEdge : List Point → Mesh → ℕ → ℕ → Type 0
HasNoFlippableEdge points m first count =
    (i : ℕ) → suc (suc i) < count → ¬ IsConvexAt points m (spoke m first i)

-- edges of a vertex v on the hull were turned away until these were left, from edge first on, of
-- which none can be turned, and what the turned ones join is one of the pairs
pub record ShrinksFan {V D U F : Type 0} (place : V → Point) (old new : Contents V D U F)
    (v first count : ℕ) (pairs : List (ℕ × ℕ)) : Type 0 where
  pub contents : new ≡ record old { mesh = new.mesh }
  pub whole : IsMeshWithData new
  pub star : IsHullFan (map place new.vertices) new.mesh v first count
  pub bent : HasNoFlippableEdge (map place new.vertices) new.mesh first count
  pub beside : StandsBeside old new v pairs

-- the vertex where edge first starts, with the outer face on its right, is a corner of the hull
abbrev pub IsCornerAt : List Point → Mesh → ℕ → Type 0
IsCornerAt points m first = TurnsLeft (place points (origin m first))
    (place points (neighbour m first 0)) (place points (origin m (rev (next m (rev first)))))

-- the sides opposite a vertex, from its edge first on
pub record AreSides (m : Mesh) (first count : ℕ) (sides : List ℕ) : Type 0 where
  pub count_is : length sides ≡ count
  pub each : (i : ℕ) → i < count → slice_index sides i ≡ next m (spoke m first i)
