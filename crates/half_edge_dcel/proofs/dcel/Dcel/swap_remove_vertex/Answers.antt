use Rattle.std.proofs.Common.{refl}
use Rattle.half_edge_links.specs.{Mesh}
use Rattle.half_edge_dcel.proofs.Dropped.{edges_dropped, faces_dropped, outline_dropped}
use Rattle.half_edge_dcel.proofs.dcel.Dcel.swap_remove_vertex.Goals as goal

pub returns-clause-drops : goal.returns-clause-drops
returns-clause-drops g c =
    let fit = c.self.invariant.vertices_fit in
    let links = c.swap_remove_vertex.ensures in
    let old : Mesh = c.self.inside.links.mesh in
    let new : Mesh = c.swap_remove_vertex.new.self.mesh in
    rw (← c.self.view_is, ← c.index.ensures) (record {
      had = links.rest.values.was;
      contents = rw (links.rest.values.now, links.rest.room) refl;
      edges = edges_dropped old new _ _ fit _ _ links.ends;
      faces = faces_dropped old new _ _ fit _ links.triangles;
      outer = outline_dropped old new _ links.sound links.moves _ fit;
    })

pub returns-clause-outline : goal.returns-clause-outline
returns-clause-outline g c = rw (← c.self.view_is) c.swap_remove_vertex.ensures.outline
