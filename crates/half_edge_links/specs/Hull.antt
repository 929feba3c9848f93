-- The loop of the outer face.
use Rattle.std.specs.Prelude.{◌≡◌, ◌≢◌, ◌⊎◌, ℕ, ◌+◌, ◌<◌, length, Some, Bool, true}
use Rattle.half_edge_links.specs.Meshes.{face, IsValidMesh, iterate, Mesh, next, rev}

-- a set of edges holds with each outer edge the next one
abbrev pub IsClosedAlong : Mesh → (ℕ → Bool) → Type 0
IsClosedAlong m among = (h : ℕ) → h < length m.half_edges → face m h ≡ 0 → among h ≡ true
    → among (next m h) ≡ true

-- the outer face has one loop: a closed set with one outer edge has all
abbrev pub HasOneOutline : Mesh → Type 0
HasOneOutline m = (among : ℕ → Bool) → IsClosedAlong m among → (h g : ℕ) → h < length m.half_edges
    → g < length m.half_edges → face m h ≡ 0 → face m g ≡ 0 → among h ≡ true → among g ≡ true

-- a change that leaves the outer face one loop
abbrev pub KeepsOneOutline : Mesh → Mesh → Type 0
KeepsOneOutline old new = HasOneOutline old → HasOneOutline new

-- one end of edge e has no other edge
abbrev pub IsPendant : Mesh → ℕ → Type 0
IsPendant m e = (next m e ≡ rev e) ⊎ (next m (rev e) ≡ e)

-- the i-th outer edge after edge first
abbrev pub outer_step : Mesh → ℕ → ℕ → ℕ
outer_step m first i = iterate (next m) i first

-- the outer face has so many edges, from edge first on, and then the loop starts again
pub record IsOutline (m : Mesh) (first count : ℕ) : Type 0 where
  pub some : 0 < count
  pub back : (i : ℕ) → outer_step m first (i + count) ≡ outer_step m first i
  pub within : (i : ℕ) → outer_step m first i < length m.half_edges
  pub outer : (i : ℕ) → face m (outer_step m first i) ≡ 0
  pub apart : (i j : ℕ) → i < j → j < count → outer_step m first i ≢ outer_step m first j
  pub all : (h : ℕ) → h < length m.half_edges → face m h ≡ 0
      → (i : ℕ) × (i < count) × (h ≡ outer_step m first i)

-- the outer edges of a mesh with one outer loop are one round
abbrev pub OutlineGoesRound : Type 0
OutlineGoesRound = (m : Mesh) → IsValidMesh m → HasOneOutline m → (first : ℕ)
    → m.outer_edge ≡ Some first → (count : ℕ) × IsOutline m first count
