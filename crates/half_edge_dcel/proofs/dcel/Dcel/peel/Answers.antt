use Rattle.std.proofs.Common.{arith, rules}
use Rattle.half_edge_links.specs.{Mesh}
use Rattle.half_edge_dcel.proofs.TakenEdges.{loses_edge, loses_face_at, takes_edge}
use Rattle.half_edge_dcel.proofs.dcel.Dcel.peel.Goals as goal

pub swap_remove-requires : goal.swap_remove-requires
swap_remove-requires g c =
    let can = rw (← c.self.view_is) at c.requires in
    let inside = (c.peel-spoke.ensures.sound.edges c.args.edge can.within).face_in in
    rw c.half_edge.ensures.value (omega (arith, c.self.invariant.faces_fit, can.inner, inside))

pub returns : goal.returns
returns g c =
    let fit = c.self.invariant in
    let links = c.peel-spoke.ensures in
    let old : Mesh = c.self.inside.links.mesh in
    let new : Mesh = c.peel-spoke.new.self.mesh in
    let can = rw (← c.self.view_is) at c.requires in
    let face = rw c.half_edge.ensures.value at c.swap_remove.ensures in
    let taken = takes_edge old new _ _ _ _ c.args.edge links.sound fit.directed_fit
    fit.undirected_fit can.within links.peels.ends _ c.swap_remove-2.ensures.items
    c.remove_pair.ensures.takes in
    rw (← c.self.view_is) (record {
      peels = links.peels.links;
      contents = search rules;
      edges = loses_edge old new _ _ _ _ c.args.edge links.sound fit.directed_fit fit.undirected_fit
          can.within taken;
      faces = loses_face_at old new _ _ c.args.edge _ links.sound fit.faces_fit can.within can.inner
          face.value links.peels.corners face.items;
      spoke = links.spoke;
      whole = record { valid = links.valid; fits = search rules };
      outline = links.peels.outline;
    })
