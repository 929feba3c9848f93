use Rattle.{delaunay_core.specs.place_of, delaunay_location.specs.Outline.IsSeenOuter}
use Rattle.delaunay_location.proofs.outside.first_along.Given as goal

abbrev pub invariant-loop : goal.invariant-loop
invariant-loop g l =
    IsSeenOuter g.V.HasPosition.place l.embedding.dcel (place_of g.V.Scalar.SpadeNum.whole l.from)
    l.here
