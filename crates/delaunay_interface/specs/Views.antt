-- What reads of a triangulation give.
use Rattle.std.specs.Prelude.{◌≡◌, ◌≢◌, ◌↔◌, ◌+◌, ◌%◌, ◌<◌, ◌∷◌, []}
use Rattle.std.specs.Prelude.{ℕ, List, length, map, Contains, AllPairs, slice_index_or}
use Rattle.std.specs.Borrow.{Bor}
use Rattle.plane.specs.{CanAdd, IsOuter, IsVertex, on, Point, side, Triangulation, TurnsLeft}
use Rattle.half_edge_links.specs.{face, face_edge, next, origin, prev, rev}
use Rattle.half_edge_dcel.specs.{Contents, each_in}
use Rattle.delaunay_legalization.specs.{point_at, State.State, state_of, triangulation_of}
use Rattle.{delaunay_legalization.specs.declared.cdt_edge.CdtEdge.CdtEdge, plane.specs.vertex}
use Rattle.delaunay_edit.specs.{constrained}

-- all vertices are on one line
abbrev pub AreOnLine : Triangulation → Type 0
AreOnLine t =
    (i j k : ℕ) → IsVertex t i → IsVertex t j → IsVertex t k
    → side (vertex t i) (vertex t j) (vertex t k) ≡ on

-- constraints may be added between two vertices: no constraint crosses their segment
pub record CanAddConstraint {V D U F : Type 0} (place : V → Point) (s : State V D (CdtEdge U) F)
    (from to : ℕ) : Type 0 where
  pub free : CanAdd place (constrained s) from to

module _ {V D U F : Type 0} where
  -- the mesh that a handle lies in is that of this triangulation, and the handle has this index
  abbrev pub IsElement : State V D U F → ℕ → Contents V D U F → ℕ → Type 0
  IsElement s i c index = (state_of c ≡ s) × (index ≡ i)

  -- an edge of this triangulation from one vertex to another
  abbrev pub IsEdgeBetween : State V D U F → ℕ → ℕ → Contents V D U F → ℕ → Type 0
  IsEdgeBetween s from to c e =
      (state_of c ≡ s) × (origin s.mesh e ≡ from) × (origin s.mesh (rev e) ≡ to)

  -- no edge goes from one vertex to another
  abbrev pub AreNotJoined : State V D U F → ℕ → ℕ → Type 0
  AreNotJoined s from to =
      (e : ℕ) → e < length s.directed → origin s.mesh e ≡ from → origin s.mesh (rev e) ≢ to

  -- all edges with the outer face on their left, each once, and after each its next one round that
  -- face, the first one after the last. They go clockwise: no vertex is on the left of one
  pub record GivesOutline (place : V → Point) (s : State V D U F)
      (given : List (Bor (Contents V D U F) × ℕ)) : Type 0 where
    pub mesh : Bor (Contents V D U F)
    pub state : state_of mesh.now ≡ s
    pub edges : List ℕ
    pub listed : given ≡ each_in mesh edges
    pub once : AllPairs (λ g h. g ≢ h) edges
    pub exact : (h : ℕ) → Contains edges h ↔ ((h < length s.directed) × (face s.mesh h ≡ 0))
    pub outer : (h : ℕ) → Contains edges h → IsOuter (triangulation_of place s) (origin s.mesh h)
        (origin s.mesh (rev h))
    pub clockwise : (h : ℕ) → Contains edges h → (k : ℕ) → IsVertex (triangulation_of place s) k
        → ¬ TurnsLeft (vertex (triangulation_of place s) (origin s.mesh h)) (vertex
        (triangulation_of place s) (origin s.mesh (rev h))) (vertex (triangulation_of place s) k)
    pub after : (i : ℕ) → i < length edges
        → slice_index_or edges ((i + 1) % length edges) 0 ≡ next s.mesh (slice_index_or edges i 0)

  -- the positions of the ends of an edge, in its direction
  abbrev pub ends_at : (V → Point) → State V D U F → ℕ → List Point
  ends_at place s e =
      point_at (map place s.vertices) (origin s.mesh e)
      ∷ point_at (map place s.vertices) (origin s.mesh (rev e)) ∷ []

  -- the positions of the corners of an inner face, in their order round it
  abbrev pub corners_at : (V → Point) → State V D U F → ℕ → List Point
  corners_at place s f = let e = face_edge s.mesh f in
      point_at (map place s.vertices) (origin s.mesh e) ∷
      point_at (map place s.vertices) (origin s.mesh (next s.mesh e)) ∷
      point_at (map place s.vertices) (origin s.mesh (prev s.mesh e)) ∷ []
