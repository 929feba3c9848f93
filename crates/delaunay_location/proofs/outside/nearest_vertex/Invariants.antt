use Rattle.std.proofs.Common.{ℕ, map}
use Rattle.half_edge_links.specs.{origin}
use Rattle.{delaunay_core.specs.place_of, half_edge_dcel.specs.hull_left}
use Rattle.delaunay_legalization.proofs.{indexes, IsGoingAlong}
use Rattle.delaunay_location.specs.Starts.{IsFirstFound, IsNoBetter}
use Rattle.delaunay_location.proofs.outside.nearest_vertex.Given as goal

abbrev pub invariant-loop-outer : goal.invariant-loop-outer
invariant-loop-outer g l =
    let points = map g.V.HasPosition.place l.embedding.dcel.vertices in
    let p = place_of g.V.Scalar.SpadeNum.whole l.from in
    let q = place_of g.V.Scalar.SpadeNum.whole l.to in
    record {
      first : IsFirstFound points p q l.nearest;
      going : IsGoingAlong l.embedding.dcel.mesh
          (λ (h : ℕ). IsNoBetter points p q l.nearest (origin l.embedding.dcel.mesh h))
          (indexes (hull_left l.outer-iterator));
    }
