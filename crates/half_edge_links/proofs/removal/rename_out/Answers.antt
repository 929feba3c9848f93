use Rattle.std.proofs.Common.{refl}
use Rattle.std.proofs.lemmas.List.{length-set}
use Rattle.half_edge_links.specs.Remove.{with_out_renamed}
use Rattle.half_edge_links.proofs.Lists.VertexLists.{length_out_edges, named_at, named_moved}
use Rattle.half_edge_links.proofs.Lists.VertexLists.{set_named}
use Rattle.half_edge_links.proofs.removal.rename_out.Goals as goal

pub returns : goal.returns
unfolding with_out_renamed
returns g c =
    let vs = c.args.vertices.now.items in
    let is = c.index_mut-vertex.ensures.value in
    let now = set_named vs c.args.v c.index_mut-vertex.result.now c.pair_moved-vertex.result is in
    let named = named_at vs c.args.v c.index_mut-vertex.result.now
    (rw length_out_edges at c.requires.vertex) is in
    record {
      out_edges = rw (
        now.0,
        c.pair_moved-vertex.ensures,
        named_moved _ _ _ c.requires.from_in c.requires.to_in,
        named,
      ) refl;
      values = now.1;
      len = rw now.0 (length-set _ _ _);
      capacity = refl;
    }
