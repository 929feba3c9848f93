use Rattle.std.proofs.Common.{refl, sym}
use Rattle.half_edge_links.specs.VertexList.{named_by}
use Rattle.half_edge_links.proofs.Lists.VertexLists.{length_out_edges, named_at, named_some}
use Rattle.half_edge_links.proofs.links.Links.out_edge.Goals as goal

pub returns-then-edge-clause-value : goal.returns-then-edge-clause-value
unfolding named_by
returns-then-edge-clause-value g c =
    let read = named_at c.self.inside.vertices.items c.args.v c.index.result.now
    (rw length_out_edges at (rw (← c.self.view_is) at c.requires)) c.index.ensures in
    rw (← c.self.view_is, read, c.if-edge.true) refl

pub returns-else-edge-clause-value : goal.returns-else-edge-clause-value
returns-else-edge-clause-value g c =
    let read = named_at c.self.inside.vertices.items c.args.v c.index.result.now
    (rw length_out_edges at (rw (← c.self.view_is) at c.requires)) c.index.ensures in
    rw (← c.self.view_is, read) (sym (named_some _ c.if-edge.false))
