use Rattle.std.proofs.Common.{ℕ, map}
use Rattle.{delaunay_core.specs.place_of, half_edge_dcel.specs.out_edges_left}
use Rattle.{delaunay_legalization.proofs.IsGoingRound, delaunay_location.specs.Steps.LeadsOn}
use Rattle.delaunay_location.proofs.vertex.after_vertex.Given as goal

abbrev pub invariant-loop-edge : goal.invariant-loop-edge
invariant-loop-edge g l = IsGoingRound l.embedding.dcel l.fn.vertex
    (λ (h : ℕ). ¬ LeadsOn (map g.V.HasPosition.place l.embedding.dcel.vertices)
    l.embedding.dcel.mesh
    (place_of g.V.Scalar.SpadeNum.whole l.to) h) (out_edges_left l.edge-iterator)
