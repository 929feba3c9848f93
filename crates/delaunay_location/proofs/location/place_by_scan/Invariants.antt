use Rattle.std.proofs.Common.{◌≡◌, ◌<◌, ℕ, map}
use Rattle.{delaunay_core.specs.place_of, delaunay_legalization.specs.point_at}
use Rattle.delaunay_location.proofs.location.place_by_scan.Given as goal

abbrev pub invariant-loop-index : goal.invariant-loop-index
invariant-loop-index g l =
    (k : ℕ) → k < l.index
    → ¬ (point_at (map g.V.HasPosition.place l.embedding.dcel.vertices) k
    ≡ place_of g.V.Scalar.SpadeNum.whole l.point)
