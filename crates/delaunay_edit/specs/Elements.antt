-- The vertices, edges and faces of a triangulation, as handles and iterators give them.
use Rattle.std.specs.Prelude.{◌≡◌, ℕ, ◌<◌, ◌≤◌, List, length, map}
use Rattle.std.specs.List.{range_with_len}
use Rattle.std.specs.Borrow.{Bor}
use Rattle.plane.specs.{IsLocation, IsNearest, Point, whole}
use Rattle.{half_edge_dcel.specs.Contents, half_edge_dcel.specs.each_in, half_edge_links.specs.face}
use Rattle.delaunay_legalization.specs.{point_at, State.State, state_of, triangulation_of}
use Rattle.delaunay_location.specs.{location_of, NoTriangulation, OnEdge, OnFace, OnVertex}
use Rattle.delaunay_location.specs.{OutsideOfConvexHull, PositionInTriangulation}

-- the given are elements of a triangulation in this state: so many, by rising index from first on
pub record GivesElements {V D U F : Type 0} (s : State V D U F) (first count : ℕ)
    (given : List (Bor (Contents V D U F) × ℕ)) : Type 0 where
  pub mesh : Bor (Contents V D U F)
  pub state : state_of mesh.now ≡ s
  pub elements : given ≡ each_in mesh (range_with_len first count)

-- the handle in the answer to a location is one of the triangulation, and its face is an inner one
abbrev pub HasElement : {V D U F : Type 0} → State V D U F → PositionInTriangulation → Type 0
HasElement s (OnVertex v) = v < length s.vertices
HasElement s (OnEdge e) = e < length s.directed
HasElement s (OnFace f) = (0 < f) × (f ≤ length s.faces)
HasElement s (OutsideOfConvexHull e) = e < length s.directed
HasElement s NoTriangulation = Unit {0}

-- where the answer is outside, its edge has the outer face on its left
abbrev pub HasOuterEdge : {V D U F : Type 0} → State V D U F → PositionInTriangulation → Type 0
HasOuterEdge s (OnVertex v) = Unit {0}
HasOuterEdge s (OnEdge e) = Unit {0}
HasOuterEdge s (OnFace f) = Unit {0}
HasOuterEdge s (OutsideOfConvexHull e) = face s.mesh e ≡ 0
HasOuterEdge s NoTriangulation = Unit {0}

-- the answer is where p is, by an element of the triangulation
pub record FindsLocation {V D U F : Type 0} (place : V → Point) (s : State V D U F) (p : Point)
    (answer : PositionInTriangulation) : Type 0 where
  pub location : IsLocation (triangulation_of place s) (whole p) (location_of s.mesh answer)
  pub element : HasElement s answer
  pub outer : HasOuterEdge s answer

-- a mesh in this state, with the index of its vertex at p
abbrev pub IsVertexAt : {V D U F : Type 0} → (V → Point) → State V D U F → Point
    → Contents V D U F → ℕ → Type 0
IsVertexAt place s p c i =
    (state_of c ≡ s) × (i < length s.vertices) × (point_at (map place s.vertices) i ≡ p)

-- a mesh in this state, with the index of a vertex that none is strictly nearer to p than
abbrev pub IsNearestVertex : {V D U F : Type 0} → (V → Point) → State V D U F → Point
    → Contents V D U F → ℕ → Type 0
IsNearestVertex place s p c i = (state_of c ≡ s) × IsNearest (triangulation_of place s) (whole p) i
