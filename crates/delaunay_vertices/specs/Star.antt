-- The edges and faces round a vertex that is to go.
use Rattle.std.specs.Prelude.{◌≡◌, ◌≢◌, ◌⊎◌, ◌+◌, ◌*◌, ◌/◌, ◌<◌, ◌++◌, ◌∷◌, []}
use Rattle.std.specs.Prelude.{ℕ, suc, List, length, map, vec_capacity, vec_len}
use Rattle.std.specs.Prelude.{Option, IfSome, IfNone}
use Rattle.std.specs.Global.{Vec}
use Rattle.plane.specs.{Face, place, Point, TurnsLeft, WithinSegment}
use Rattle.half_edge_links.specs.{face, flipped, FlipsTriangles, IsAlone, IsRound, KeepsOuter, Mesh}
use Rattle.half_edge_links.specs.{neighbour, origin, spoke, turn}
use Rattle.plane_theorems.specs.{LineMeshWithout, LocalMesh, LocalMeshWithout}
use Rattle.half_edge_dcel.specs.{Contents, IsMeshWithData}
use Rattle.delaunay_legalization.specs.{faces_of, IsEmbedding, outer_of}
use Rattle.delaunay_vertices.specs.RemovalData.{StandsBeside}

-- the edge after edge h, round the vertex where they start, lies across a strictly convex
-- quadrilateral: its corners are this vertex and the ends of h and of the two edges after it
pub record IsConvexAt (points : List Point) (m : Mesh) (h : ℕ) : Type 0 where
  pub far : TurnsLeft (place points (neighbour m h 0)) (place points (neighbour m h 1))
      (place points (neighbour m h 2))
  pub near : TurnsLeft (place points (origin m h)) (place points (neighbour m h 0))
      (place points (neighbour m h 2))

-- and that edge lies between two inner faces: so it can be turned away
pub record IsTurnable (points : List Point) (m : Mesh) (h : ℕ) : Type 0 where
  pub convex : IsConvexAt points m h
  pub left : 0 < face m h
  pub right : 0 < face m (turn m h)

-- what a contract sees of the edges of a vertex from one on: the mesh, with the positions of its
-- vertices and the data of its directed edges
pub record Surrounding (D : Type 0) : Type 0 where
  pub points : List Point
  pub mesh : Mesh
  pub directed : List D
  pub first : ℕ

-- the mesh of a triangulation whose vertices are sites has this edge
pub record HasSpoke {V D U F P : Type 0} (place : V → Point) (IsSite : P → Point → Type 0)
    (c : Contents V D U F) (t : P) (h : ℕ) : Type 0 where
  pub embedding : IsEmbedding place IsSite c t
  pub within : h < length c.directed

-- edge h is one of these edges, and of this kind
pub record IsSpokeThat {D : Type 0} (Is : List Point → Mesh → ℕ → Type 0) (s : Surrounding D)
    (h : ℕ) : Type 0 where
  pub within : h < length s.directed
  pub starts : origin s.mesh h ≡ origin s.mesh s.first
  pub is : Is s.points s.mesh h

-- such an edge, or none where so many of these edges are of another kind
pub record FindsSpoke {D : Type 0} (Is : List Point → Mesh → ℕ → Type 0) (s : Surrounding D)
    (count : ℕ) (found : Option ℕ) : Type 0 where
  pub some : IfSome found (IsSpokeThat Is s)
  pub none : IfNone found ((i : ℕ) → i < count → ¬ Is s.points s.mesh (spoke s.mesh s.first i))

-- the faces round vertex v are inner ones
abbrev pub HasInnerFaces : Mesh → ℕ → Type 0
HasInnerFaces m v = (h : ℕ) → h < length m.half_edges → origin m h ≡ v → 0 < face m h

-- vertex v is inside the hull, and has so many edges, from edge first on
pub record IsInnerStar (points : List Point) (m : Mesh) (v first count : ℕ) : Type 0 where
  pub shape : LocalMesh points (faces_of m) (outer_of m)
  pub inner : HasInnerFaces m v
  pub round : IsRound m v first count

-- the vertex where edge h starts is strictly between the ends of h and of the edge after the next
abbrev pub IsBetweenAt : List Point → Mesh → ℕ → Type 0
IsBetweenAt points m h = WithinSegment (place points (neighbour m h 0))
    (place points (neighbour m h 2)) (place points (origin m h))

-- so is vertex v at one of its edges
abbrev pub StandsBetween : List Point → Mesh → ℕ → ℕ → ℕ → Type 0
StandsBetween points m v first count =
    (i : ℕ) × (i < count) × WithinSegment (place points (neighbour m first i))
    (place points (neighbour m first (suc (suc i)))) (place points v)

-- so is the vertex where edge first starts, which has four edges
pub record IsFourStar (points : List Point) (m : Mesh) (first : ℕ) : Type 0 where
  pub star : IsInnerStar points m (origin m first) first 4
  pub between : StandsBetween points m (origin m first) first 4

-- there are three edges, or four with vertex v strictly between two ends
abbrev pub IsReduced : List Point → Mesh → ℕ → ℕ → ℕ → Type 0
IsReduced points m v first count = (count ≡ 3) ⊎ ((count ≡ 4) × StandsBetween points m v first 4)

-- edges of an inner vertex v were turned away until these were left, from edge first on, and what
-- the turned ones join is one of the pairs
pub record ShrinksStar {V D U F : Type 0} (place : V → Point) (old new : Contents V D U F)
    (v first count : ℕ) (pairs : List (ℕ × ℕ)) : Type 0 where
  pub contents : new ≡ record old { mesh = new.mesh }
  pub whole : IsMeshWithData new
  pub star : IsInnerStar (map place new.vertices) new.mesh v first count
  pub reduced : IsReduced (map place new.vertices) new.mesh v first count
  pub beside : StandsBeside old new v pairs

-- a mesh of all vertices but v, in the plane or on a line
abbrev pub IsMeshWithout : ℕ → List Point → List Face → List (ℕ × ℕ) → Type 0
IsMeshWithout v points faces outer =
    LocalMeshWithout v points faces outer ⊎ ((faces ≡ []) × LineMeshWithout v points outer)

-- vertex v has lost its edges, the mesh is one of the other vertices, the edges and faces beside v
-- keep their data, and the pairs are what turned edges join
pub record IsolatesVertex {V D U F : Type 0} (points : List Point) (old new : Contents V D U F)
    (v : ℕ) (pairs : List (ℕ × ℕ)) : Type 0 where
  pub contents : new ≡ record old
      { mesh = new.mesh; directed = new.directed; undirected = new.undirected; faces = new.faces }
  pub whole : IsMeshWithData new
  pub alone : IsAlone new.mesh v
  pub shape : IsMeshWithout v points (faces_of new.mesh) (outer_of new.mesh)
  pub beside : StandsBeside old new v pairs

-- so it has, where the mesh has the vertices of before
abbrev pub LosesStar : {V D U F : Type 0} → (V → Point) → Contents V D U F → Contents V D U F → ℕ
    → List (ℕ × ℕ)
    → Type 0
LosesStar place old new v pairs = IsolatesVertex (map place old.vertices) old new v pairs

-- the edge after edge h, round the vertex where they start, lies between two inner faces of a mesh
-- in the plane, and the ends of the edges beside it differ
pub record MayTurnAway {V D U F : Type 0} (place : V → Point) (c : Contents V D U F) (h : ℕ)
    : Type 0 where
  pub whole : IsMeshWithData c
  pub within : h < length c.directed
  pub shape : LocalMesh (map place c.vertices) (faces_of c.mesh) (outer_of c.mesh)
  pub left : 0 < face c.mesh h
  pub right : 0 < face c.mesh (turn c.mesh h)
  pub apart : neighbour c.mesh h 0 ≢ neighbour c.mesh h 2

-- the edge after edge h, round the vertex where they start, was turned so that it leaves this
-- vertex, and a list got what it joins then
pub record TurnsAway {V D U F : Type 0} (old new : Contents V D U F) (h : ℕ)
    (listed list : Vec (ℕ × ℕ)) : Type 0 where
  pub mesh : new.mesh ≡ flipped old.mesh (2 * (turn old.mesh h / 2))
  pub contents : new ≡ record old { mesh = new.mesh }
  pub whole : IsMeshWithData new
  pub triangles : FlipsTriangles old.mesh new.mesh (2 * (turn old.mesh h / 2))
  pub outer : KeepsOuter old.mesh new.mesh
  pub beside : StandsBeside old new (origin old.mesh h)
      ((neighbour old.mesh h 0, neighbour old.mesh h 2) ∷ [])
  pub items : list.items ≡ listed.items ++ (neighbour old.mesh h 0, neighbour old.mesh h 2) ∷ []
  pub len : vec_len list ≡ vec_len listed + 1
  pub capacity : vec_capacity list ≡ vec_capacity listed
