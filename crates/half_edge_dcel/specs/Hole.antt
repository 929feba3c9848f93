-- What stands after an inner vertex lost its edges and the hole was filled.
use Rattle.std.specs.Prelude.{◌≡◌, ◌≢◌, ◌-◌, ◌<◌, ◌≤◌, [], ◌∷◌, ◌++◌}
use Rattle.std.specs.Prelude.{ℕ, zero, suc, List, length, slice_index, All, Contains}
use Rattle.std.specs.List.{AllZip}
use Rattle.std.specs.List.Sorted.{IsPermutation}
use Rattle.half_edge_links.specs.{Ends, face, Flips, FlipsTriangles, IsAlone, KeepsOneOutline}
use Rattle.half_edge_links.specs.{KeepsOuter, Mesh, MovesEdge, neighbour, next, origin, prev, rev}
use Rattle.half_edge_links.specs.{spoke, Triangle, turn}
use Rattle.half_edge_dcel.specs.{Growth.joins, MeshContents.Contents, MeshContents.IsMeshWithData}
use Rattle.half_edge_dcel.specs.Removal.{Connects, faces_between, first_spoke, full_edges}
use Rattle.half_edge_dcel.specs.Removal.{full_faces, FullEdge, FullFace, HasCorners}
use Rattle.half_edge_dcel.specs.Removal.{OuterSumsChange, spokes_to}

-- a vertex with k inner faces, which follow each other round it from edge o on
pub record IsHub (m : Mesh) (o k : ℕ) : Type 0 where
  pub within : o < length m.half_edges
  pub inner : (i : ℕ) → i < k → 0 < face m (spoke m o i)
  pub round : spoke m o k ≡ o

-- the edge after o round its vertex, against the clock, lies between two inner faces, and a turn
-- does not join a vertex to itself
pub record CanTurnAway (m : Mesh) (o : ℕ) : Type 0 where
  pub within : o < length m.half_edges
  pub before : 0 < face m o
  pub behind : 0 < face m (turn m o)
  pub corners : neighbour m o 2 ≢ neighbour m o 0

-- the edge after o round its vertex is turned clockwise, and leaves the vertex; all data stay
pub record TurnsAway {V D U F : Type 0} (old new : Contents V D U F) (o : ℕ) : Type 0 where
  pub flips : Flips old.mesh new.mesh (turn old.mesh o)
  pub contents : new ≡ record old { mesh = new.mesh }
  pub ends : MovesEdge old.mesh new.mesh (turn old.mesh o)
      (origin old.mesh (prev old.mesh (turn old.mesh o)))
      (origin old.mesh (prev old.mesh (rev (turn old.mesh o))))
  pub triangles : FlipsTriangles old.mesh new.mesh (turn old.mesh o)
  pub outer : KeepsOuter old.mesh new.mesh
  pub outline : KeepsOneOutline old.mesh new.mesh
  pub whole : IsMeshWithData new

-- the first of k vertices round a hole is none of those that it gets an edge to
abbrev pub HasFreeTip : (ℕ → ℕ) → ℕ → Type 0
HasFreeTip n k = (i : ℕ) → 1 < i → i < k - 1 → n i ≢ n 0

-- these edges are the loop round an inner vertex, against the clock
pub record IsBorder (m : Mesh) (border : List ℕ) (v : ℕ) : Type 0 where
  pub count : 3 ≤ length border
  pub within : slice_index border 0 < length m.half_edges
  pub round : IsHub m (first_spoke m border) (length border)
  pub starts : origin m (first_spoke m border) ≡ v
  pub sides : (i : ℕ) → i < length border
      → slice_index border i ≡ next m (spoke m (first_spoke m border) i)
  pub tip : HasFreeTip (neighbour m (first_spoke m border)) (length border)

-- the first k edges of a fan, from its tip n 0 to n 2, n 3, .., the last of them first
abbrev pub fan_edges : (ℕ → ℕ) → ℕ → List Ends
fan_edges n zero = []
fan_edges n (suc k) = joins (n 0) (n (suc (suc k))) ∷ fan_edges n k

-- the first k faces of a fan, between its tip n 0 and two vertices that follow each other from n 1
-- on, the last of them first
abbrev pub fan_faces : (ℕ → ℕ) → ℕ → List Triangle
fan_faces n zero = []
fan_faces n (suc k) = record { first = n 0; second = n (suc k); third = n (suc (suc k)) }
    ∷ fan_faces n k

-- an edge has all data of another one
abbrev pub HasDataOf : {D U : Type 0} → FullEdge D U → FullEdge D U → Type 0
HasDataOf e f = e ≡ record f { source = e.source; target = e.target }

-- inner vertex v, with faces between the k vertices n 0, n 1, .. round it, has no edges any more; a
-- fan with the tip n 0 takes the place of these faces, each edge with the data of one of these
-- edges, and each face with those of one of these faces
pub record FillsWithFan {V D U F : Type 0} (old new : Contents V D U F) (v : ℕ) (n : ℕ → ℕ)
    (k : ℕ) : Type 0 where
  pub contents : new ≡ record old
      { mesh = new.mesh; directed = new.directed; undirected = new.undirected; faces = new.faces }
  pub alone : IsAlone new.mesh v
  pub lost_edges : List (FullEdge D U)
  pub lost_edges_are : AllZip Connects lost_edges (spokes_to v n k)
  pub made_edges : List (FullEdge D U)
  pub made_edges_are : AllZip Connects made_edges (fan_edges n (k - 3))
  pub former_edges :
      All (λ e. (f : FullEdge D U) × Contains lost_edges f × HasDataOf e f) made_edges
  pub other_edges : List (FullEdge D U)
  pub edges_were : IsPermutation (full_edges old) (lost_edges ++ other_edges)
  pub edges_are : IsPermutation (full_edges new) (made_edges ++ other_edges)
  pub lost_faces : List (FullFace F)
  pub lost_faces_are : AllZip HasCorners lost_faces (faces_between v n k)
  pub made_faces : List (FullFace F)
  pub made_faces_are : AllZip HasCorners made_faces (fan_faces n (k - 2))
  pub former_faces :
      All (λ f. (g : FullFace F) × Contains lost_faces g × (f.value ≡ g.value)) made_faces
  pub other_faces : List (FullFace F)
  pub faces_were : IsPermutation (full_faces old) (lost_faces ++ other_faces)
  pub faces_are : IsPermutation (full_faces new) (made_faces ++ other_faces)
  pub outer : OuterSumsChange old.mesh new.mesh [] []
  pub outline : KeepsOneOutline old.mesh new.mesh
