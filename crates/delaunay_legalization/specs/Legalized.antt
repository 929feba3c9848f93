-- What a legalization makes of a triangulation.
use Rattle.std.specs.Prelude.{◌≡◌, ℕ, List, length}
use Rattle.{half_edge_dcel.specs.Contents, plane.specs.Point}
use Rattle.delaunay_legalization.specs.{Constraints.constraints_by, Shape.IsDelaunayTriangulation}
use Rattle.delaunay_legalization.specs.{Flips.CountsFlips, State.state_of, Stays.KeepsIndexes}

-- by flips alone, which were counted, a Delaunay triangulation with the same constraints
pub record Legalizes {V D U F : Type 0} (place : V → Point) (constraints_of : List U → List ℕ)
    (old new : Contents V D U F) (flips_before flips_after : ℕ) : Type 0 where
  pub contents : new ≡ record old { mesh = new.mesh }
  pub legal : IsDelaunayTriangulation place constraints_of (state_of new)
  pub constraints : constraints_by constraints_of (state_of new)
      ≡ constraints_by constraints_of (state_of old)
  pub counted : CountsFlips (length old.vertices) flips_before flips_after
  pub indexes : KeepsIndexes old.mesh new.mesh
