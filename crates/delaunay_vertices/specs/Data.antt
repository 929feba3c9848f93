-- What becomes of the data of edges and faces.
use Rattle.std.specs.Prelude.{◌≡◌, ◌⊎◌, ℕ, ◌/◌, ◌<◌, List, length, Some, slice_get}
use Rattle.plane.specs.{InTriangle, place, Point, whole}
use Rattle.half_edge_links.specs.{Triangle, triangles}
use Rattle.delaunay_legalization.specs.{GoSameDirection, HaveSameCorners, IsWithinEdge, State.State}

-- an edge that stands before and after, by the vertices that it joins, has the data that it had: as
-- a directed edge, and as an undirected one, which each of its directions has. So has an inner
-- face, by its corners, and the outer face
pub record KeepsData {V D U F : Type 0} (old new : State V D U F) : Type 0 where
  pub directed : (g h : ℕ) → g < length old.directed → h < length new.directed
      → GoSameDirection old.mesh g new.mesh h → slice_get new.directed h ≡ slice_get old.directed g
  pub undirected : (g h : ℕ) → g < length old.directed → h < length new.directed
      → GoSameDirection old.mesh g new.mesh h
      → slice_get new.undirected (h / 2) ≡ slice_get old.undirected (g / 2)
  pub faces : (f g : ℕ) (t u : Triangle) → slice_get (triangles old.mesh) f ≡ Some t
      → slice_get (triangles new.mesh) g ≡ Some u → HaveSameCorners t u
      → slice_get new.faces g ≡ slice_get old.faces f
  pub outer : new.outer ≡ old.outer

-- directed edge h has the ends and the data that it had, and its undirected edge has its data
pub record KeepsEdge {V D U F : Type 0} (old new : State V D U F) (h : ℕ) : Type 0 where
  pub ends : GoSameDirection old.mesh h new.mesh h
  pub directed : slice_get new.directed h ≡ slice_get old.directed h
  pub undirected : slice_get new.undirected (h / 2) ≡ slice_get old.undirected (h / 2)

-- the inner face at index f of the list has the corners and the data that it had
pub record KeepsFace {V D U F : Type 0} (old new : State V D U F) (f : ℕ) : Type 0 where
  pub corners : slice_get (triangles new.mesh) f ≡ slice_get (triangles old.mesh) f
  pub value : slice_get new.faces f ≡ slice_get old.faces f

-- p is in the closed triangle
abbrev pub IsInCorners : List Point → Point → Triangle → Type 0
IsInCorners points p t =
    InTriangle (place points t.first) (place points t.second) (place points t.third) (whole p)

-- all keeps its place and its data, but edges that p is strictly within and faces that p is in
pub record GrowsAround {V D U F : Type 0} (points : List Point) (p : Point)
    (old new : State V D U F) : Type 0 where
  pub edges : (h : ℕ) → h < length old.directed
      → KeepsEdge old new h ⊎ IsWithinEdge points old.mesh p h
  pub faces : (f : ℕ) (t : Triangle) → slice_get (triangles old.mesh) f ≡ Some t →
      KeepsFace old new f ⊎ IsInCorners points p t
  pub outer : new.outer ≡ old.outer
