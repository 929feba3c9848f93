-- The edges of a vertex, in their order around it.
-- neighbour m first i: the other end of the i-th edge of a vertex, counted counterclockwise from
--   first
-- IsRound m u first count: the edges of u are count many, from edge first on, each once
-- EdgesGoRound: each vertex that has edges in a valid mesh has such a count
use Rattle.std.specs.Prelude.{◌≡◌, ◌≢◌, ℕ, ◌+◌, ◌<◌, length, Some}
use Rattle.half_edge_links.specs.Meshes.{face, IsValidMesh, Mesh, origin, out_edge, rev}
use Rattle.half_edge_links.specs.{Peel.spoke, Triangles.triangle_at}

-- the vertex at the other end of the i-th edge of a vertex, from edge first on, against the clock
abbrev pub neighbour : Mesh → ℕ → ℕ → ℕ
neighbour m first i = origin m (rev (spoke m first i))

-- vertex u has so many edges, from edge first on, and then the round starts again
pub record IsRound (m : Mesh) (u first count : ℕ) : Type 0 where
  pub some : 0 < count
  pub back : (i : ℕ) → spoke m first (i + count) ≡ spoke m first i
  pub within : (i : ℕ) → spoke m first i < length m.half_edges
  pub starts : (i : ℕ) → origin m (spoke m first i) ≡ u
  pub apart : (i j : ℕ) → i < j → j < count → spoke m first i ≢ spoke m first j
  pub all : (h : ℕ) → h < length m.half_edges → origin m h ≡ u
      → (i : ℕ) × (i < count) × (h ≡ spoke m first i)
  pub corner : (i : ℕ) → 0 < face m (spoke m first i) → triangle_at m (spoke m first i)
      ≡ record { first = u; second = neighbour m first i; third = neighbour m first (i + 1) }

-- each vertex with edges has one round of them: an inner face at it lies between two neighbours
-- that follow each other
abbrev pub EdgesGoRound : Type 0
EdgesGoRound = (m : Mesh) → IsValidMesh m → (u first : ℕ) → out_edge m u ≡ Some first
    → (count : ℕ) × IsRound m u first count
