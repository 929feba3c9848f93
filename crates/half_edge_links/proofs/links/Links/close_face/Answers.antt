use Rattle.std.proofs.Common.{arith}
use Rattle.half_edge_links.specs.Remove.{loop_closed}
use Rattle.half_edge_links.proofs.Removing.CloseSound.{closes, round}
use Rattle.half_edge_links.proofs.Removing.ShrinkTriangles.{triangles_closed}
use Rattle.half_edge_links.proofs.Removing.TakenLists.{closes_outer, ends_loop_closed}
use Rattle.half_edge_links.proofs.Sound.Valid.{valid_loop_closed}
use Rattle.half_edge_links.proofs.links.Links.close_face.Goals as goal

pub set_loop_face-requires : goal.set_loop_face-requires
set_loop_face-requires g c =
    let can = rw (← c.self.view_is) at c.requires.open in
    let at = round _ _ c.self.invariant.sound can in
    record { edge = can.within; next = at.next_in; prev = at.prev_in }

pub returns-clause-mesh : goal.returns-clause-mesh
unfolding loop_closed
returns-clause-mesh g c =
    let faces = rw (← c.self.view_is) at c.inner_face_count.ensures.value in
    rw (← c.self.view_is) (cc)

pub returns-clause-closes : goal.returns-clause-closes
returns-clause-closes g c =
    let can = c.requires.open in
    let links = rw (← (returns-clause-mesh g c)) at
    (closes _ c.args.h c.inner_face_count.ensures.valid.sound can) in
    record {
      links = links;
      ends = ends_loop_closed _ _ _ links;
      corners = triangles_closed _ _ _ links;
      outer = closes_outer _ _ _ can links;
    }

pub invariant_of-self : goal.invariant_of-self
invariant_of-self g c =
    let room = rw (← c.self.view_is) at c.requires.room in
    let faces = rw (← c.self.view_is) at c.inner_face_count.ensures.value in
    valid_loop_closed _ _ _ c.inner_face_count.ensures.valid c.requires.open
    (returns-clause-closes g c).links (omega arith)

pub returns-clause-valid : goal.returns-clause-valid
returns-clause-valid g c = invariant_of-self g c
