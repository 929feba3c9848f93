-- What a mesh is to be where a vertex is appended, and what the vertex makes of it.
use Rattle.std.specs.Prelude.{◌≡◌, ◌<◌, ◌++◌, ◌∷◌, [], ℕ, length, map}
use Rattle.delaunay_legalization.specs.{faces_of, IsTriangulated, IsWithinEdge, MakesFacesAt}
use Rattle.{delaunay_legalization.specs.outer_of, plane.specs.InRange, plane.specs.Point}
use Rattle.{delaunay_legalization.specs.State.State, delaunay_vertices.specs.Data.GrowsAround}

-- a triangulated mesh, and a value whose position is in range
pub record CanTake {V D U F : Type 0} (at : V → Point) (value : V)
    (s : State V D U F) : Type 0 where
  pub kept : IsTriangulated at s
  pub in_range : InRange (at value)

-- such a mesh and value, whose position is strictly within this edge
pub record CanSplit {V D U F : Type 0} (at : V → Point) (value : V) (s : State V D U F)
    (edge : ℕ) : Type 0 where
  pub takes : CanTake at value s
  pub within : edge < length s.directed
  pub on_edge : IsWithinEdge (map at s.vertices) s.mesh (at value) edge

-- the value is the new last vertex of a mesh that is triangulated again. Data stay but of what the
-- value lies in, and each face that came has the vertex as a corner, opposite what was a side of a
-- face or an outer edge
pub record GainsVertex {V D U F : Type 0} (at : V → Point) (value : V) (old new : State V D U F)
    (vertex : ℕ) : Type 0 where
  pub is : vertex ≡ length old.vertices
  pub vertices : new.vertices ≡ old.vertices ++ value ∷ []
  pub kept : IsTriangulated at new
  pub grows : GrowsAround (map at old.vertices) (at value) old new
  pub made :
      MakesFacesAt (length old.vertices) (faces_of old.mesh) (outer_of old.mesh) (faces_of new.mesh)
