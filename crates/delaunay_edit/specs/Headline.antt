-- What holds of each triangulation between edits.
use Rattle.std.specs.Prelude.{◌≡◌, ℕ, ◌≤◌, List, [], length, map, All}
use Rattle.plane.specs.{InRange, IsConstrainedDelaunay, IsFace, IsLocallyDelaunay, IsPlain}
use Rattle.plane.specs.{IsStrictlyEmpty, IsTiling, Point}
use Rattle.{half_edge_links.specs.MAX_ELEMENTS, plane_theorems.specs.IsHistoryFree}
use Rattle.delaunay_legalization.specs.{constraints_by, IsTriangulated, points_and_constraints_by}
use Rattle.{delaunay_legalization.specs.State.State, delaunay_legalization.specs.triangulation_of}

-- this is the constrained Delaunay triangulation of its points with its constraints: the faces tile
-- the hull; the constraints are edges, and no face has a vertex strictly inside its circle that is
-- seen past them; without constraints, three points whose circle is strictly empty are the corners
-- of a face; and the faces depend on points and constraints alone, not on the edits that led here
pub record IsDelaunay {V D U F : Type 0} (place : V → Point) (constraints : List U → List ℕ)
    (s : State V D U F) : Type 0 where
  pub tiling : IsTiling (triangulation_of place s)
  pub delaunay : IsConstrainedDelaunay (triangulation_of place s) (constraints_by constraints s)
  pub empty_triples : constraints_by constraints s ≡ [] → (i j k : ℕ) →
      IsStrictlyEmpty (triangulation_of place s) i j k → IsFace (triangulation_of place s) i j k
  pub history_free : IsHistoryFree (triangulation_of place s) (constraints_by constraints s)

-- and what else callers may rely on: every vertex has an index and is in range, the positions
-- differ, the mesh is sound, and each edge between two faces that is no constraint passes the
-- circle test
pub record IsWellFormed {V D U F : Type 0} (place : V → Point) (constraints : List U → List ℕ)
    (s : State V D U F) : Type 0 where
  pub small : length s.vertices ≤ MAX_ELEMENTS
  pub in_range : All InRange (map place s.vertices)
  pub plain : IsPlain place (points_and_constraints_by constraints s)
  pub kept : IsTriangulated place s
  pub passing : IsLocallyDelaunay (triangulation_of place s) (constraints_by constraints s)
  pub headline : IsDelaunay place constraints s

-- where all vertices are in range, as those of a triangulation are, they are sites
abbrev pub AreSites : {V : Type 0} → (V → Point) → (Point → Type 0) → List V → Type 0
AreSites place sites vertices = All InRange (map place vertices) → All sites (map place vertices)
