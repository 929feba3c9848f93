use Rattle.std.proofs.Common.{sym, ◌∙◌}
use Rattle.half_edge_dcel.proofs.Ranges.{out_edge-within}
use Rattle.half_edge_dcel.proofs.vertex.VertexHandle.out_edge.Goals as goal

pub invariant_of-result : goal.invariant_of-result
invariant_of-result g c = record {
  in_range = out_edge-within c.args.self.now.dcel.now _ _ c.links.ensures.whole
      (rw c.links.ensures.mesh at (sym c.out_edge.ensures.value ∙ c.in_ok-index.was));
}
