use Rattle.std.proofs.Common.{arith}
use Rattle.half_edge_links.specs.{insert_by, inserted}
use Rattle.half_edge_links.proofs.{Faces.InsertLemmas.inserts_is, Stored.Joined.loop_of_three}
use Rattle.half_edge_links.proofs.Faces.InsertTriangles.{triangles_inserted}
use Rattle.half_edge_links.proofs.{Faces.KeepsOuter.outer_inserted, Sound.EndsKept.ends_inserted_is}
use Rattle.half_edge_links.proofs.{OuterLoop.Outline.outline_inserted, Sound.Triangles.triangle_at}
use Rattle.half_edge_links.proofs.Sound.Valid.{valid_as, valid_inserted}
use Rattle.half_edge_links.proofs.links.Links.insert_beside.Goals as goal

pub fan_edges-requires-clause-triangle : goal.fan_edges-requires-clause-triangle
fan_edges-requires-clause-triangle g c =
    let inner = rw (← c.self.view_is) at c.requires.inner in
    loop_of_three _ _ (triangle_at _ _ c.self.invariant.sound inner.0 inner.1)

pub fan_edges-requires-clause-few : goal.fan_edges-requires-clause-few
fan_edges-requires-clause-few g c =
    let few = rw (← c.self.view_is) at c.requires.face_room in
    let faces = rw (← c.self.view_is) at c.inner_face_count-g.ensures.value in
    omega arith

pub overflow_sub-first : goal.overflow_sub-first
overflow_sub-first g c = rw c.half_edge-first.ensures.value c.requires.inner.1

pub returns-clause-mesh : goal.returns-clause-mesh
unfolding inserted insert_by
returns-clause-mesh g c =
    let n = rw (← c.self.view_is) at c.half_edge_count-n.ensures.value in
    let faces = rw (← c.self.view_is) at c.inner_face_count-g.ensures.value in
    let first = rw (← c.self.view_is) at c.half_edge-first.ensures.value in
    rw (← c.self.view_is, c.set_out_edge.ensures.out_edges) (cc)

pub returns-clause-valid : goal.returns-clause-valid
returns-clause-valid g c = c.half_edge-first.ensures.valid

pub invariant_of-self : goal.invariant_of-self
invariant_of-self g c =
    let few = rw (← c.self.view_is) at c.requires.face_room in
    let faces = rw (← c.self.view_is) at c.inner_face_count-g.ensures.value in
    valid_as _ _ (returns-clause-mesh g c) (valid_inserted _ _ _ c.half_edge-first.ensures.valid
    c.requires.inner c.requires.alone (omega arith) (omega arith))

pub returns-clause-inserts : goal.returns-clause-inserts
returns-clause-inserts g c =
    let s = c.half_edge-first.ensures.valid.sound in
    let inner = c.requires.inner in
    let alone = c.requires.alone in
    let is = returns-clause-mesh g c in
    let links = inserts_is _ _ _ _ s inner alone is in
    record {
      valid = invariant_of-self g c;
      links = links;
      ends = ends_inserted_is _ _ _ _ s inner alone is;
      corners = triangles_inserted _ _ _ _ s inner alone is;
      outer = outer_inserted _ _ _ _ s inner alone links;
      outline = outline_inserted _ _ _ _ s inner alone links;
    }
