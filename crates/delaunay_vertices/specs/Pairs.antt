-- The pairs of vertices that bound the faces made where a vertex goes: the sides of its hole, and
-- what its edges join once they are turned.
use Rattle.std.specs.Prelude.{◌≡◌, ◌≢◌, ◌⊎◌, ◌+◌, ◌-◌, ◌*◌, ◌<◌, ◌≤◌, if◌then◌else◌}
use Rattle.std.specs.Prelude.{ℕ, List, Some, length, map, nat_eq}
use Rattle.{plane.specs.Face, plane.specs.Joins, plane.specs.Point, plane_theorems.specs.IsFaceOf}
use Rattle.half_edge_links.specs.{IsRound, Mesh, moved, origin, out_edge, rev, turn}
use Rattle.delaunay_legalization.specs.{faces_of, IsQuiet, pairs_at, State.State}

-- ---- while the vertex loses its edges
-- i and j are one of the pairs, or lie opposite vertex v in a face
abbrev pub IsHoleSide : List Face → ℕ → List (ℕ × ℕ) → ℕ → ℕ → Type 0
IsHoleSide faces v pairs i j = Joins pairs i j ⊎ IsFaceOf faces v i j

-- or one of them is vertex v
abbrev pub IsStarSide : List Face → ℕ → List (ℕ × ℕ) → ℕ → ℕ → Type 0
IsStarSide faces v pairs i j = ((i ≡ v) ⊎ (j ≡ v)) ⊎ IsHoleSide faces v pairs i j

-- each face is an old one, or each of its sides is one of the pairs, lay opposite vertex v, or ends
-- at v
pub record MakesFaces (v : ℕ) (pairs : List (ℕ × ℕ)) (old new : List Face) : Type 0 where
  pub each : (i j k : ℕ) → IsFaceOf new i j k → IsFaceOf old i j k ⊎
      (IsStarSide old v pairs i j × IsStarSide old v pairs j k × IsStarSide old v pairs k i)

-- each pair stays
abbrev pub KeepsPairs : List (ℕ × ℕ) → List (ℕ × ℕ) → Type 0
KeepsPairs old new = (i j : ℕ) → Joins old i j → Joins new i j

-- a list of so many pairs has room for one more at each edge of vertex v
abbrev pub HasRoomAt : Mesh → ℕ → ℕ → ℕ → Type 0
HasRoomAt m v listed capacity =
    (first count : ℕ) → IsRound m v first count → listed + count ≤ capacity

-- so many edges go round vertex v from the one on with which it is listed
abbrev pub IsRoundOf : Mesh → ℕ → ℕ → Type 0
IsRoundOf m v count = (first : ℕ) → out_edge m v ≡ Some first → IsRound m v first count

-- the ends of each edge of vertex v and of the edge after it are one of the pairs: so are the sides
-- opposite v
abbrev pub HasBorder : Mesh → ℕ → List (ℕ × ℕ) → Type 0
HasBorder m v pairs =
    (h : ℕ) → h < length m.half_edges → origin m h ≡ v
    → Joins pairs (origin m (rev h)) (origin m (rev (turn m h)))

-- ---- where it has gone
-- the former index of vertex k, where v has gone and vertex `last` has taken index v
abbrev pub former_index : ℕ → ℕ → ℕ → ℕ
former_index v last k = if nat_eq k v then last else k

-- vertex v went and the last vertex took its index: each face was there by the former indexes of
-- its corners, or by these each of its sides is one of the pairs or lay opposite v
pub record LeavesFaces {V D U F : Type 0} (old new : State V D U F) (v : ℕ)
    (pairs : List (ℕ × ℕ)) : Type 0 where
  pub each : (i j k : ℕ) → IsFaceOf (faces_of new.mesh) i j k →
      let was = former_index v (length old.vertices - 1) in
      let faces = faces_of old.mesh in
      IsFaceOf faces (was i) (was j) (was k) ⊎ (IsHoleSide faces v pairs (was i) (was j) ×
      IsHoleSide faces v pairs (was j) (was k) × IsHoleSide faces v pairs (was k) (was i))

-- a pair by the indexes that its vertices have then
abbrev pub pair_left : ℕ → ℕ → ℕ × ℕ → ℕ × ℕ
pair_left last v p = (moved last v p.0, moved last v p.1)

-- the pairs of a list by the indexes that their vertices have then
abbrev pub pairs_left : ℕ → ℕ → List (ℕ × ℕ) → List (ℕ × ℕ)
pairs_left last v pairs = map (pair_left last v) pairs

-- each undirected edge joins one of the pairs, or is outer or has an empty circle on one of its
-- sides
abbrev pub FailOnlyAt : List Point → Mesh → List (ℕ × ℕ) → Type 0
FailOnlyAt points m pairs = (k : ℕ) → (2 * k) < length m.half_edges →
    Joins pairs (origin m (2 * k)) (origin m (rev (2 * k))) ⊎
    (IsQuiet points m (2 * k) ⊎ IsQuiet points m (rev (2 * k)))

-- no edge goes from i to j
abbrev pub HasNoEdgeBetween : Mesh → ℕ → ℕ → Type 0
HasNoEdgeBetween m i j =
    (h : ℕ) → h < length m.half_edges → origin m h ≡ i → origin m (rev h) ≢ j

-- an edge from i to j is among ks, if there is one
abbrev pub HasEdgeOf : Mesh → ℕ → ℕ → List ℕ → Type 0
HasEdgeOf m i j ks =
    (h : ℕ) → h < length m.half_edges → origin m h ≡ i → origin m (rev h) ≡ j
    → Joins (pairs_at m ks) i j

-- so for each of the pairs
abbrev pub HasEdgesOf : Mesh → List (ℕ × ℕ) → List ℕ → Type 0
HasEdgesOf m pairs ks = (i j : ℕ) → Joins pairs i j → HasEdgeOf m i j ks
