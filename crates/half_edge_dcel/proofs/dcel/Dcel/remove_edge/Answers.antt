use Rattle.std.proofs.Common.{rules}
use Rattle.half_edge_links.specs.{Mesh}
use Rattle.half_edge_dcel.proofs.TakenEdges.{loses_edge, takes_edge}
use Rattle.half_edge_dcel.proofs.dcel.Dcel.remove_edge.Goals as goal

pub returns : goal.returns
returns g c =
    let fit = c.self.invariant in
    let links = c.remove_edge.ensures in
    let old : Mesh = c.self.inside.links.mesh in
    let new : Mesh = c.remove_edge.new.self.mesh in
    let can = rw (← c.self.view_is) at c.requires in
    let taken = takes_edge old new _ _ _ _ c.args.edge links.sound fit.directed_fit
    fit.undirected_fit can.within links.removes.ends _ c.swap_remove.ensures.items
    c.remove_pair.ensures.takes in
    rw (← c.self.view_is) (record {
      removes = links.removes.links;
      contents = search rules;
      edges = loses_edge old new _ _ _ _ c.args.edge links.sound fit.directed_fit fit.undirected_fit
          can.within taken;
      taken = taken;
      triangles = links.removes.corners;
      whole = record { valid = links.valid; fits = search rules };
      outline = links.removes.outline;
    })
