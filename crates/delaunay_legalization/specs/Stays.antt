-- Which edges and faces of a mesh keep their indexes while it changes.
use Rattle.std.specs.Prelude.{◌≡◌, ◌⊎◌, ℕ, ◌<◌, List, length, Some, slice_get}
use Rattle.{plane.specs.Joins, plane_theorems.specs.IsTurned}
use Rattle.half_edge_links.specs.{Mesh, origin, rev, Triangle, triangles}

-- directed edge g of one mesh and h of another have the same start and the same end
abbrev pub GoSameDirection : Mesh → ℕ → Mesh → ℕ → Type 0
GoSameDirection m g n h = (origin n h ≡ origin m g) × (origin n (rev h) ≡ origin m (rev g))

-- two triangles have the same corners, in one order round them
abbrev pub HaveSameCorners : Triangle → Triangle → Type 0
HaveSameCorners t u = IsTurned t.first t.second t.third u.first u.second u.third

-- each edge and each inner face that stands in both meshes has one index in both
pub record KeepsIndexes (old new : Mesh) : Type 0 where
  pub edges : (g h : ℕ) → g < length old.half_edges → h < length new.half_edges
      → GoSameDirection old g new h → h ≡ g
  pub faces : (f g : ℕ) (t u : Triangle) → slice_get (triangles old) f ≡ Some t
      → slice_get (triangles new) g ≡ Some u → HaveSameCorners t u → g ≡ f

-- a side of the triangle is one of the pairs
abbrev pub HasSideIn : List (ℕ × ℕ) → Triangle → Type 0
HasSideIn pairs t = Joins pairs t.first t.second
    ⊎ (Joins pairs t.second t.third ⊎ Joins pairs t.third t.first)

-- each edge joins what it joined and each inner face has its corners, but those that had one of the
-- pairs
pub record StaysBut (pairs : List (ℕ × ℕ)) (old new : Mesh) : Type 0 where
  pub edge_count : length new.half_edges ≡ length old.half_edges
  pub edges : (h : ℕ) → h < length old.half_edges
      → GoSameDirection old h new h ⊎ Joins pairs (origin old h) (origin old (rev h))
  pub faces : (f : ℕ) (t : Triangle) → slice_get (triangles old) f ≡ Some t
      → (slice_get (triangles new) f ≡ Some t) ⊎ HasSideIn pairs t
