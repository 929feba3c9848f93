use Rattle.std.proofs.Common.{ap, arith}
use Rattle.half_edge_links.specs.{hung}
use Rattle.half_edge_links.proofs.{Growing.Grown.hangs_edge, Stored.Hung.shows_hung}
use Rattle.half_edge_links.proofs.Sound.Valid.{valid_as, valid_hung}
use Rattle.half_edge_links.proofs.{Stored.Shown.length_shown, Views.joined_in, Views.round_stored}
use Rattle.half_edge_links.proofs.links.Links.hang.Goals as goal

pub half_edge-end-requires : goal.half_edge-end-requires
half_edge-end-requires g c = rw c.half_edge-edge.ensures.value
    (c.half_edge-edge.ensures.sound.edges c.args.x c.requires.outer.0).next_in

pub set_next-requires : goal.set_next-requires
set_next-requires g c =
    let stored = round_stored c.half_edge-edge.ensures.sound
    (ap (λ held. held.mesh.half_edges) c.self.view_is) c.args.x c.requires.outer.0 in
    stored.here

pub set_prev-requires : goal.set_prev-requires
set_prev-requires g c =
    let stored = round_stored c.half_edge-edge.ensures.sound
    (ap (λ held. held.mesh.half_edges) c.self.view_is) c.args.x c.requires.outer.0 in
    rw (c.set_next.ensures.len, c.half_edge-edge.ensures.value) stored.after

pub set_corner-requires : goal.set_corner-requires
set_corner-requires g c =
    let stored = round_stored c.half_edge-edge.ensures.sound
    (ap (λ held. held.mesh.half_edges) c.self.view_is) c.args.x c.requires.outer.0 in
    rw (c.set_prev.ensures.len, c.set_next.ensures.len, c.half_edge-edge.ensures.value) stored.after

pub push-requires : goal.push-requires
push-requires g c =
    let room = rw (← c.self.view_is) at c.requires.edge_room in
    omega (arith, room, length_shown c.self.inside.half_edges.items)

pub push-requires-2 : goal.push-requires-2
push-requires-2 g c =
    let room = rw (← c.self.view_is) at c.requires.edge_room in
    omega (arith, room, length_shown c.self.inside.half_edges.items)

pub returns-clause-mesh : goal.returns-clause-mesh
unfolding hung
returns-clause-mesh g c =
    let n = rw (← c.self.view_is) at c.half_edge_count-n.ensures.value in
    let edge = rw (← c.self.view_is) at c.half_edge-edge.ensures.value in
    let end = rw (← c.self.view_is) at c.half_edge-end.ensures.value in
    let outer = rw (← c.self.view_is) at c.requires.outer in
    let shows = shows_hung c.self.inside.half_edges.items c.args.x c.args.v
    c.half_edge_count-n.result (joined_in c.self.inside c.self.invariant) outer.0 n in
    rw (← c.self.view_is, c.set_out_edge.ensures.out_edges) (cc)

pub invariant_of-self : goal.invariant_of-self
invariant_of-self g c =
    let n = c.half_edge_count-n.ensures in
    valid_as _ _ (returns-clause-mesh g c)
    (valid_hung _ _ _ n.valid c.requires.outer c.requires.alone (omega arith))

pub returns-clause-hangs : goal.returns-clause-hangs
returns-clause-hangs g c = hangs_edge _ _ _ _ c.half_edge_count-n.ensures.sound c.requires.outer
    c.requires.alone (returns-clause-mesh g c)

pub returns-clause-valid : goal.returns-clause-valid
returns-clause-valid g c = invariant_of-self g c
