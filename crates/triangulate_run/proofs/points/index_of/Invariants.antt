use Rattle.std.proofs.Common.{◌<◌, ℕ}
use Rattle.{delaunay_core.specs.place_of, triangulate_run.specs.HoldsAt}
use Rattle.triangulate_run.proofs.points.index_of.Given as goal

abbrev pub invariant-loop-i : goal.invariant-loop-i
invariant-loop-i l = (k : ℕ) → k < l.i → HoldsAt l.points k (place_of (λ z. z) l.point) → ⊥
