use Rattle.std.proofs.Common.{ℕ, map}
use Rattle.{delaunay_core.specs.place_of, half_edge_links.specs.rev}
use Rattle.delaunay_legalization.proofs.{indexes, IsGoingAlong}
use Rattle.{delaunay_location.specs.Starts.IsCrossed, half_edge_dcel.specs.hull_left}
use Rattle.delaunay_location.proofs.outside.first_on_outline.Given as goal

abbrev pub invariant-loop-outer : goal.invariant-loop-outer
invariant-loop-outer g l =
    IsGoingAlong l.embedding.dcel.mesh
    (λ (h : ℕ). ¬ IsCrossed (map g.V.HasPosition.place l.embedding.dcel.vertices)
    l.embedding.dcel.mesh (place_of g.V.Scalar.SpadeNum.whole l.from)
    (place_of g.V.Scalar.SpadeNum.whole l.to) (rev h))
    (indexes (hull_left l.outer-iterator))
