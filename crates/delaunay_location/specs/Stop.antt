-- Where a walk from face to face is.
use Rattle.std.specs.Prelude.{◌≡◌, ℕ, ℤ, ◌<◌, List, length, map, IfSome}
use Rattle.half_edge_links.specs.{Mesh, origin, rev}
use Rattle.{delaunay_core.specs.place_of, delaunay_core.specs.Point2, plane.specs.Point}
use Rattle.delaunay_legalization.specs.{point_at, Reading}
use Rattle.delaunay_location.specs.{declared.steps.Stop.Stop, Location.IsPlaceOf}
use Rattle.delaunay_location.specs.{declared.steps.Step.Step, declared.walk.Walked.Walked}
use Rattle.delaunay_location.specs.declared.steps.Step.TheVariants.{Beyond, Found, OnSide}
use Rattle.delaunay_location.specs.declared.walk.Walked.TheVariants.{Ended, Reached}

-- one of the n directed edges of a mesh, with the positions of its ends, which are covered
pub record IsStop {S : Type 0} (number : S → ℤ) (IsCovered : Point → Type 0) (points : List Point)
    (m : Mesh) (n : ℕ) (stop : Stop S) : Type 0 where
  pub within : stop.edge < n
  pub from : place_of number stop.from ≡ point_at points (origin m stop.edge)
  pub to : place_of number stop.to ≡ point_at points (origin m (rev stop.edge))
  pub from_covered : IsCovered (place_of number stop.from)
  pub to_covered : IsCovered (place_of number stop.to)

module _ {V D U F P S : Type 0} (at : V → Point) (number : S → ℤ) (IsCovered : P → Point → Type 0)
    (s : Reading V D U F P) where
  -- the same of a mesh with its points
  abbrev pub IsStopOf : Stop S → Type 0
  IsStopOf = IsStop number (IsCovered s.tests) (map at s.dcel.vertices) s.dcel.mesh
      (length s.dcel.directed)

  -- a step leads across such an edge, or to where the position is, or to an edge to look at
  abbrev pub IsStepOf : Point2 S → Step S → Type 0
  IsStepOf point (Beyond stop) = IsStopOf stop
  IsStepOf point (Found place) = IsPlaceOf at number s point place
  IsStepOf point (OnSide e) = e < length s.dcel.directed

-- a walk ends where the position is, or reaches an edge
abbrev pub IsWalkOf : {V D U F P S : Type 0} → (V → Point) → (S → ℤ) → Reading V D U F P → Point2 S
    → Walked → Type 0
IsWalkOf at number s point (Ended place) = IfSome place (IsPlaceOf at number s point)
IsWalkOf at number s point (Reached e) = e < length s.dcel.directed
