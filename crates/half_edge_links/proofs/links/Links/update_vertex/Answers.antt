use Rattle.std.proofs.Common.{refl}
use Rattle.half_edge_links.proofs.Lists.VertexLists.{set_value}
use Rattle.half_edge_links.proofs.links.Links.update_vertex.Goals as goal

pub returns-clause-contents : goal.returns-clause-contents
returns-clause-contents g c =
    let now = set_value c.self.inside.vertices.items c.args.v c.index_mut.result.now c.args.value
    c.index_mut.ensures.value in
    rw (← c.self.view_is, c.replace.ensures.after, now.0, now.1) refl

pub invariant_of-self : goal.invariant_of-self
invariant_of-self g c =
    let now = set_value c.self.inside.vertices.items c.args.v c.index_mut.result.now c.args.value
    c.index_mut.ensures.value in
    rw (c.replace.ensures.after, now.0) c.self.invariant
