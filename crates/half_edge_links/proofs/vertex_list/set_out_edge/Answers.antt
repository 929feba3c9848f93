use Rattle.std.proofs.Common.{refl}
use Rattle.half_edge_links.proofs.Lists.VertexLists.{named_as, set_named}
use Rattle.half_edge_links.proofs.vertex_list.set_out_edge.Goals as goal

pub returns : goal.returns
returns g c =
    let now = set_named c.args.vertices.now.items c.args.v c.index_mut.result.now
    c.unwrap_or.result c.index_mut.ensures.value in
    record {
      out_edges = rw (now.0, c.unwrap_or.ensures, named_as _ c.requires.nameable) refl;
      values = now.1;
      capacity = refl;
    }
