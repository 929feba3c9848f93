use Rattle.std.proofs.Common.{ap, arith, ◌∙◌}
use Rattle.std.proofs.lemmas.List.{length-set}
use Rattle.half_edge_links.specs.{flip_by, flipped, Mesh, origin, rev}
use Rattle.half_edge_links.proofs.{Faces.FlipLemmas.flips_is, Faces.FlipTriangles.triangles_flipped}
use Rattle.half_edge_links.proofs.{Faces.KeepsOuter.outer_flipped_is, Stored.Turned.shows_turned}
use Rattle.half_edge_links.proofs.{Lists.Rev.rev-rev, Removing.Conditions.turns_between}
use Rattle.half_edge_links.proofs.{OuterLoop.Outline.outline_flipped, Stored.Shown.length_shown}
use Rattle.half_edge_links.proofs.Sound.EndsKept.{ends_flipped_is}
use Rattle.half_edge_links.proofs.Sound.Triangles.{six_round, triangle_at}
use Rattle.half_edge_links.proofs.Sound.Valid.{valid_as, valid_flipped}
use Rattle.half_edge_links.proofs.Stored.Joined.{joined_sound, loop_of_three}
use Rattle.half_edge_links.proofs.Views.{mesh_in, round_stored}
use Rattle.half_edge_links.proofs.links.Links.flip.Goals as goal

pub half_edge-twin-requires : goal.half_edge-twin-requires
half_edge-twin-requires g c =
    let v = c.half_edge-edge.ensures.valid in
    rw c.reversed-t.ensures (six_round _ _ v.sound (turns_between _ _ v c.requires.between)).b_in

pub prev_origin-right-requires : goal.prev_origin-right-requires
prev_origin-right-requires g c =
    let v = c.half_edge-edge.ensures.valid in
    rw c.reversed-t.ensures (six_round _ _ v.sound (turns_between _ _ v c.requires.between)).b_in

pub set-requires : goal.set-requires
set-requires g c =
    let stored = round_stored c.half_edge-edge.ensures.sound
    (ap (λ held. held.mesh.half_edges) c.self.view_is) c.args.e c.requires.between.within in
    stored.here

pub set-requires-2 : goal.set-requires-2
set-requires-2 g c =
    let can = turns_between _ _ c.self.invariant (rw (← c.self.view_is) at c.requires.between) in
    let six = six_round _ _ c.self.invariant.sound can in
    rw (c.set.ensures.len, c.reversed-t.ensures) (rw length_shown at six.b_in)

pub set-requires-3 : goal.set-requires-3
set-requires-3 g c =
    let stored = round_stored c.half_edge-edge.ensures.sound
    (ap (λ held. held.mesh.half_edges) c.self.view_is) c.args.e c.requires.between.within in
    rw (c.set-2.ensures.len, c.set.ensures.len, c.half_edge-edge.ensures.value) stored.after

pub set-requires-4 : goal.set-requires-4
set-requires-4 g c =
    let can = turns_between _ _ c.self.invariant (rw (← c.self.view_is) at c.requires.between) in
    let six = six_round _ _ c.self.invariant.sound can in
    let twin = rw (c.reversed-t.ensures, ← c.self.view_is) at c.half_edge-twin.ensures.value in
    rw (c.set-3.ensures.len, c.set-2.ensures.len, c.set.ensures.len, twin)
    (rw length_shown at six.d_in)

pub set-requires-5 : goal.set-requires-5
set-requires-5 g c =
    let stored = round_stored c.half_edge-edge.ensures.sound
    (ap (λ held. held.mesh.half_edges) c.self.view_is) c.args.e c.requires.between.within in
    rw (
      c.set-4.ensures.len,
      c.set-3.ensures.len,
      c.set-2.ensures.len,
      c.set.ensures.len,
      c.half_edge-edge.ensures.value,
    ) stored.before

pub set-requires-6 : goal.set-requires-6
set-requires-6 g c =
    let can = turns_between _ _ c.self.invariant (rw (← c.self.view_is) at c.requires.between) in
    let six = six_round _ _ c.self.invariant.sound can in
    let twin = rw (c.reversed-t.ensures, ← c.self.view_is) at c.half_edge-twin.ensures.value in
    rw (
      c.set-5.ensures.len,
      c.set-4.ensures.len,
      c.set-3.ensures.len,
      c.set-2.ensures.len,
      c.set.ensures.len,
      twin,
    ) (rw length_shown at six.f_in)

pub set_out_edge-requires : goal.set_out_edge-requires
set_out_edge-requires g c =
    let can = turns_between _ _ c.self.invariant (rw (← c.self.view_is) at c.requires.between) in
    let six = six_round _ _ c.self.invariant.sound can in
    let small = c.self.invariant.small.edges in
    rw (
      c.half_edge-edge.ensures.value,
      c.half_edge-twin.ensures.value,
      c.reversed-t.ensures,
      ← c.self.view_is,
    ) (record {
      vertex = (c.self.invariant.sound.edges _ can.within).origin_in;
      nameable = omega (arith, six.d_in);
    })

pub set_out_edge-requires-2 : goal.set_out_edge-requires-2
set_out_edge-requires-2 g c =
    let can = turns_between _ _ c.self.invariant (rw (← c.self.view_is) at c.requires.between) in
    let six = six_round _ _ c.self.invariant.sound can in
    let small = c.self.invariant.small.edges in
    rw (
      c.set_out_edge.ensures.out_edges,
      c.half_edge-edge.ensures.value,
      c.half_edge-twin.ensures.value,
      c.reversed-t.ensures,
      ← c.self.view_is,
    ) (record {
      vertex = simp length-set (c.self.invariant.sound.edges _ six.b_in).origin_in;
      nameable = omega (arith, six.c_in);
    })

pub overflow_sub-edge : goal.overflow_sub-edge
overflow_sub-edge g c = rw c.half_edge-edge.ensures.value c.requires.between.inner

pub overflow_sub-twin : goal.overflow_sub-twin
overflow_sub-twin g c =
    rw (c.half_edge-twin.ensures.value, c.reversed-t.ensures) c.requires.between.twin_inner

pub index_mut-requires-2 : goal.index_mut-requires-2
index_mut-requires-2 g c =
    let can = turns_between _ _ c.self.invariant (rw (← c.self.view_is) at c.requires.between) in
    let six = six_round _ _ c.self.invariant.sound can in
    let face_in = (c.self.invariant.sound.edges _ six.b_in).face_in in
    let inner = can.twin_inner in
    rw (c.half_edge-twin.ensures.value, c.reversed-t.ensures, ← c.self.view_is) (omega arith)

pub returns-clause-mesh : goal.returns-clause-mesh
unfolding flipped flip_by
returns-clause-mesh g c =
    let edge = rw (← c.self.view_is) at c.half_edge-edge.ensures.value in
    let twin = rw (← c.self.view_is) at c.half_edge-twin.ensures.value in
    let left = rw (← c.self.view_is) at c.prev_origin-left.ensures.value in
    let right = rw (← c.self.view_is) at c.prev_origin-right.ensures.value in
    let m : Mesh = mesh_in c.self.inside in
    let s = c.self.invariant.sound in
    let can = turns_between _ _ c.self.invariant (rw (← c.self.view_is) at c.requires.between) in
    let six = six_round m c.args.e s can in
    let shows = shows_turned c.self.inside.half_edges.items c.args.e (rev c.args.e)
    (joined_sound m s) (loop_of_three m c.args.e (triangle_at m c.args.e s can.within can.inner))
    (loop_of_three m (rev c.args.e) (triangle_at m (rev c.args.e) s six.b_in can.twin_inner)) six
    ((s.edges (rev c.args.e) six.b_in).starts ∙ ap (origin m) (rev-rev c.args.e))
    (s.edges c.args.e can.within).starts in
    rw (← c.self.view_is, c.set_out_edge-2.ensures.out_edges, c.set_out_edge.ensures.out_edges) (cc)

pub invariant_of-self : goal.invariant_of-self
invariant_of-self g c =
    let v = c.half_edge-edge.ensures.valid in
    valid_as _ _ (returns-clause-mesh g c)
    (valid_flipped _ _ v (turns_between _ _ v c.requires.between) c.requires.corners)

pub returns-clause-flips : goal.returns-clause-flips
returns-clause-flips g c =
    let v = c.half_edge-edge.ensures.valid in
    let can = turns_between _ _ v c.requires.between in
    let is = returns-clause-mesh g c in
    let links = flips_is _ _ _ v.sound can is in
    record {
      links = links;
      ends = ends_flipped_is _ _ _ v.sound can is;
      corners = triangles_flipped _ _ _ v.sound can is;
      outer = outer_flipped_is _ _ _ v.sound can is;
      outline = outline_flipped _ _ _ v.sound can links;
    }

pub returns-clause-valid : goal.returns-clause-valid
returns-clause-valid g c = invariant_of-self g c
