use Rattle.std.proofs.Common.{◌≡◌, ◌⊎◌, ◌<◌, ◌-◌, length, ℕ, map}
use Rattle.std.specs.Prelude.{◌<ℤ◌}
use Rattle.{delaunay_core.specs.place_of, plane.specs.gap, plane.specs.place, plane.specs.whole}
use Rattle.delaunay_location.proofs.samples.nearer_sample.Given as goal

abbrev pub invariant-loop-index : goal.invariant-loop-index
invariant-loop-index g l =
    let at = λ (i : ℕ). gap (whole (place_of g.V.Scalar.SpadeNum.whole l.point))
    (place (map g.V.HasPosition.place l.dcel.vertices) i) in
    record {
      within : l.nearest < length l.dcel.vertices;
      nearer : (l.nearest ≡ l.fn.from) ⊎ (at l.nearest <ℤ at l.fn.from);
    }

abbrev pub decreases-loop-index : goal.decreases-loop-index
decreases-loop-index g l = l.count - l.index
