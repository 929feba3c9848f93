use Rattle.std.proofs.Common.{◌-◌, arith}
use Rattle.half_edge_links.proofs.Removing.OpenSound.{in_loop, opens, swap_remove_default}
use Rattle.half_edge_links.proofs.Removing.TakenLists.{ends_opened, opens_outer, removes_triangle}
use Rattle.{half_edge_links.proofs.Sound.Valid.valid_opened, half_edge_links.specs.Remove.opened}
use Rattle.half_edge_links.proofs.links.Links.open_face.Goals as goal

pub set_loop_face-requires-2 : goal.set_loop_face-requires-2
set_loop_face-requires-2 g c =
    rw (
      c.set_loop_face.ensures.items,
      c.face_edge-edge.ensures.value,
      c.face_edge-last.ensures.value,
      c.inner_face_count.ensures.value,
      ← c.self.view_is,
    ) (in_loop _ _ c.self.invariant.sound (rw (← c.self.view_is) at c.requires))

pub returns-clause-mesh : goal.returns-clause-mesh
unfolding opened
returns-clause-mesh g c =
    let inner = rw (← c.self.view_is) at c.requires in
    let last = rw (c.inner_face_count.ensures.value, ← c.self.view_is) at
    c.face_edge-last.ensures.value in
    let edge = rw (← c.self.view_is) at c.face_edge-edge.ensures.value in
    let faces = swap_remove_default c.self.inside.face_edges.items (c.args.f - 1)
    c.swap_remove.result 0 (omega (arith, inner.0, inner.1)) in
    rw (← c.self.view_is) (cc)

pub returns-clause-opens : goal.returns-clause-opens
returns-clause-opens g c =
    let s = c.face_edge-edge.ensures.sound in
    let links = rw (← (returns-clause-mesh g c)) at (opens _ c.args.f s c.requires) in
    record {
      links = links;
      ends = ends_opened _ _ _ links;
      corners = removes_triangle _ _ _ c.requires links;
      outer = opens_outer _ _ _ s c.requires links;
    }

pub invariant_of-self : goal.invariant_of-self
invariant_of-self g c = valid_opened _ _ _ c.face_edge-edge.ensures.valid c.requires
    (returns-clause-opens g c).links

pub returns-clause-valid : goal.returns-clause-valid
returns-clause-valid g c = invariant_of-self g c
