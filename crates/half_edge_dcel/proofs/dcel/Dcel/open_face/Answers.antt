use Rattle.std.proofs.Common.{rules}
use Rattle.{half_edge_dcel.proofs.TakenEdges.gives_face, half_edge_links.specs.Mesh}
use Rattle.half_edge_dcel.proofs.dcel.Dcel.open_face.Goals as goal

pub returns : goal.returns
returns g c =
    let fit = c.self.invariant in
    let links = c.open_face.ensures in
    let old : Mesh = c.self.inside.links.mesh in
    let new : Mesh = c.open_face.new.self.mesh in
    let inner = rw (← c.self.view_is) at c.requires in
    rw (← c.self.view_is) (record {
      was = rw (← c.self.view_is) at c.recall_invariant.ensures.whole;
      opens = links.opens.links;
      contents = search rules;
      faces = gives_face old new _ _ c.args.face links.sound fit.faces_fit inner _
          c.swap_remove.ensures.value links.opens.corners c.swap_remove.ensures.items;
      ends = links.opens.ends;
      spare = search rules;
      whole = record { valid = links.valid; fits = search rules };
    })
