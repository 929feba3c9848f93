use Rattle.std.proofs.Common.{◌<◌, ℕ}
use Rattle.delaunay_location.specs.Location.{IsClear}
use Rattle.delaunay_location.proofs.location.place_at_edges.Given as goal

abbrev pub invariant-loop-index : goal.invariant-loop-index
invariant-loop-index g l =
    (h : ℕ) → h < l.index → IsClear g.V.HasPosition.place
    g.V.Scalar.SpadeNum.whole l.embedding l.point h
