-- What becomes of a triangulation where constraints are added or released, and each other edge is
-- legal afterwards.
use Rattle.std.specs.Prelude.{◌≡◌, ℕ, ◌*◌, Bool, List, Some, slice_get, slice_set}
use Rattle.plane.specs.{Adds, Point, Releases}
use Rattle.{half_edge_dcel.specs.Contents, half_edge_links.specs.origin, half_edge_links.specs.rev}
use Rattle.delaunay_legalization.specs.{IsDelaunayTriangulation, KeepsIndexes}
use Rattle.delaunay_legalization.specs.{points_and_constraints_by, state_of}
use Rattle.delaunay_edit.specs.Adding.{MarksSome}

-- the path from i to j was added
pub record AddsConstraints {V D U F : Type 0} (at : V → Point) (marks : U → Bool) (marked : U → U)
    (constraints : List U → List ℕ) (old new : Contents V D U F) (i j : ℕ) : Type 0 where
  pub contents : new ≡ record old { mesh = new.mesh; undirected = new.undirected }
  pub marks_some : MarksSome marks marked old.undirected new.undirected
  pub plain : Adds at (points_and_constraints_by constraints (state_of old))
      (points_and_constraints_by constraints (state_of new)) i j
  pub legal : IsDelaunayTriangulation at constraints (state_of new)

-- undirected edge k was a constraint and is none; an edge or face that is there before and after
-- keeps its index
pub record ReleasesEdge {V D U F : Type 0} (at : V → Point) (unmarked : U → U)
    (constraints : List U → List ℕ) (old new : Contents V D U F) (k : ℕ) : Type 0 where
  pub value : U
  pub was : slice_get old.undirected k ≡ Some value
  pub contents : new
      ≡ record old { mesh = new.mesh; undirected = slice_set old.undirected k (unmarked value) }
  pub indexes : KeepsIndexes old.mesh new.mesh
  pub plain : Releases at (points_and_constraints_by constraints (state_of old))
      (points_and_constraints_by constraints (state_of new)) (origin old.mesh (2 * k))
      (origin old.mesh (rev (2 * k)))
  pub legal : IsDelaunayTriangulation at constraints (state_of new)
