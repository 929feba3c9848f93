use Rattle.std.proofs.Common.{◌<◌, ◌≤◌, ℕ}
use Rattle.delaunay_location.specs.Location.{IsInFace}
use Rattle.delaunay_location.proofs.location.face_around.Given as goal

abbrev pub invariant-loop-index : goal.invariant-loop-index
invariant-loop-index g l =
    (f : ℕ) → 0 < f → f ≤ l.index → ¬ IsInFace g.V.HasPosition.place
    g.V.Scalar.SpadeNum.whole l.embedding l.point f
