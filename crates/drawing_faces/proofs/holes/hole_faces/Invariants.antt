use Rattle.std.proofs.Common.{◌≤◌, length, take}
use Rattle.std.specs.Prelude.{All}
use Rattle.drawing_faces.specs.{AreIn}
use Rattle.drawing_faces.proofs.holes.hole_faces.Given as goal

abbrev pub invariant-loop-index : goal.invariant-loop-index
invariant-loop-index g l = record {
  faces : AreIn (g.T.Triangulation.state l.triangulation)
      (g.T.Constraints.ConstraintMarker.constraints
      (g.T.Triangulation.state l.triangulation).undirected) (take l.index l.holes) l.faces.items;
  within : All (λ f. f ≤ length (g.T.Triangulation.state l.triangulation).faces) l.faces.items;
}
