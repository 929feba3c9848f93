use Rattle.std.proofs.Common.{◌+◌, ap, arith}
use Rattle.{half_edge_links.proofs.Growing.Close.corner, half_edge_links.specs.closed}
use Rattle.half_edge_links.proofs.{Growing.Grown.closes_corner, Views.joined_in, Views.round_stored}
use Rattle.half_edge_links.proofs.Sound.Valid.{valid_as, valid_closed}
use Rattle.half_edge_links.proofs.{Stored.Hung.shows_closed, Stored.Shown.length_shown}
use Rattle.half_edge_links.proofs.links.Links.close.Goals as goal

pub half_edge-second-requires : goal.half_edge-second-requires
half_edge-second-requires g c = rw c.half_edge-edge.ensures.value
    (c.half_edge-edge.ensures.sound.edges c.args.e c.requires.closable.within).next_in

pub half_edge-end-requires : goal.half_edge-end-requires
half_edge-end-requires g c =
    let s = c.half_edge-edge.ensures.sound in
    rw (c.half_edge-second.ensures.value, c.half_edge-edge.ensures.value)
    (s.edges _ (s.edges c.args.e c.requires.closable.within).next_in).next_in

pub set_next-requires : goal.set_next-requires
set_next-requires g c =
    let stored = round_stored c.half_edge-edge.ensures.sound
    (ap (λ held. held.mesh.half_edges) c.self.view_is) c.args.e c.requires.closable.within in
    rw c.half_edge-edge.ensures.value stored.before

pub set_next-requires-2 : goal.set_next-requires-2
set_next-requires-2 g c =
    let stored = round_stored c.half_edge-edge.ensures.sound
    (ap (λ held. held.mesh.half_edges) c.self.view_is) c.args.e c.requires.closable.within in
    rw (c.set_next.ensures.len, c.half_edge-edge.ensures.value) stored.after

pub set_prev-requires : goal.set_prev-requires
set_prev-requires g c =
    let stored = round_stored c.half_edge-edge.ensures.sound
    (ap (λ held. held.mesh.half_edges) c.self.view_is) c.args.e c.requires.closable.within in
    rw (
      c.set_next-2.ensures.len,
      c.set_next.ensures.len,
      c.half_edge-second.ensures.value,
      c.half_edge-edge.ensures.value,
    ) stored.second

pub set_prev-requires-2 : goal.set_prev-requires-2
set_prev-requires-2 g c =
    let stored = round_stored c.half_edge-edge.ensures.sound
    (ap (λ held. held.mesh.half_edges) c.self.view_is) c.args.e c.requires.closable.within in
    rw (c.set_prev.ensures.len, c.set_next-2.ensures.len, c.set_next.ensures.len) stored.here

pub set_face-requires : goal.set_face-requires
set_face-requires g c =
    let stored = round_stored c.half_edge-edge.ensures.sound
    (ap (λ held. held.mesh.half_edges) c.self.view_is) c.args.e c.requires.closable.within in
    rw (
      c.set_prev-2.ensures.len,
      c.set_prev.ensures.len,
      c.set_next-2.ensures.len,
      c.set_next.ensures.len,
    ) stored.here

pub set_face-requires-2 : goal.set_face-requires-2
set_face-requires-2 g c =
    let stored = round_stored c.half_edge-edge.ensures.sound
    (ap (λ held. held.mesh.half_edges) c.self.view_is) c.args.e c.requires.closable.within in
    rw (
      c.set_face.ensures.len,
      c.set_prev-2.ensures.len,
      c.set_prev.ensures.len,
      c.set_next-2.ensures.len,
      c.set_next.ensures.len,
      c.half_edge-edge.ensures.value,
    ) stored.after

pub set_corner-requires : goal.set_corner-requires
set_corner-requires g c =
    let stored = round_stored c.half_edge-edge.ensures.sound
    (ap (λ held. held.mesh.half_edges) c.self.view_is) c.args.e c.requires.closable.within in
    rw (
      c.set_face-2.ensures.len,
      c.set_face.ensures.len,
      c.set_prev-2.ensures.len,
      c.set_prev.ensures.len,
      c.set_next-2.ensures.len,
      c.set_next.ensures.len,
      c.half_edge-second.ensures.value,
      c.half_edge-edge.ensures.value,
    ) stored.second

pub set_corner-requires-2 : goal.set_corner-requires-2
set_corner-requires-2 g c =
    let stored = round_stored c.half_edge-edge.ensures.sound
    (ap (λ held. held.mesh.half_edges) c.self.view_is) c.args.e c.requires.closable.within in
    rw (
      c.set_corner.ensures.len,
      c.set_face-2.ensures.len,
      c.set_face.ensures.len,
      c.set_prev-2.ensures.len,
      c.set_prev.ensures.len,
      c.set_next-2.ensures.len,
      c.set_next.ensures.len,
    ) stored.here

pub push-requires : goal.push-requires
push-requires g c =
    let room = rw (← c.self.view_is) at c.requires.room.edges_fit in
    omega (arith, room, length_shown c.self.inside.half_edges.items)

pub push-requires-2 : goal.push-requires-2
push-requires-2 g c =
    let room = rw (← c.self.view_is) at c.requires.room.edges_fit in
    omega (arith, room, length_shown c.self.inside.half_edges.items)

pub returns-clause-mesh : goal.returns-clause-mesh
unfolding closed
returns-clause-mesh g c =
    let n = rw (← c.self.view_is) at c.half_edge_count-n.ensures.value in
    let faces = rw (← c.self.view_is) at c.inner_face_count.ensures.value in
    let edge = rw (← c.self.view_is) at c.half_edge-edge.ensures.value in
    let second = rw (← c.self.view_is) at c.half_edge-second.ensures.value in
    let end = rw (← c.self.view_is) at c.half_edge-end.ensures.value in
    let before = rw (← c.self.view_is) at c.prev_origin-before.ensures.value in
    let can = rw (← c.self.view_is) at c.requires.closable in
    let shows = shows_closed c.self.inside.half_edges.items c.args.e c.half_edge_count-n.result
    (c.inner_face_count.result + 1) (joined_in c.self.inside c.self.invariant) can.within n
    (corner _ _ c.self.invariant.sound can).after-first in
    rw (← c.self.view_is, c.push_reserved.ensures.items) (cc)

pub invariant_of-self : goal.invariant_of-self
invariant_of-self g c =
    let few = rw (← c.self.view_is) at c.requires.room.faces_fit in
    let faces = rw (← c.self.view_is) at c.inner_face_count.ensures.value in
    valid_as _ _ (returns-clause-mesh g c)
    (valid_closed _ _ c.half_edge-edge.ensures.valid c.requires.closable (omega arith)
    (omega arith))

pub returns-clause-closes : goal.returns-clause-closes
returns-clause-closes g c = closes_corner _ _ _ c.half_edge-edge.ensures.valid.sound
    c.requires.closable (returns-clause-mesh g c)

pub returns-clause-valid : goal.returns-clause-valid
returns-clause-valid g c = invariant_of-self g c
