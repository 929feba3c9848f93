use Rattle.half_edge_links.proofs.Removing.Conditions.{full_wheel}
use Rattle.half_edge_links.proofs.Removing.WheelLemmas.{a_in, inner_z, z_in}
use Rattle.half_edge_dcel.proofs.dcel.Dcel.open_third.Goals as goal

pub next_spoke-third-requires : goal.next_spoke-third-requires
next_spoke-third-requires g c =
    let v = c.next_spoke-second.ensures.whole.valid in
    rw c.next_spoke-second.ensures.value (a_in _ _ v.sound (full_wheel _ _ v c.requires))

pub half_edge-face-requires : goal.half_edge-face-requires
half_edge-face-requires g c =
    let v = c.links.ensures.whole.valid in
    rw (
      c.links.ensures.mesh,
      c.next_spoke-third.ensures.value,
      c.next_spoke-second.ensures.value,
    ) (z_in _ _ v.sound (full_wheel _ _ v c.requires))

pub open_face-requires : goal.open_face-requires
open_face-requires g c =
    let v = c.links.ensures.whole.valid in
    rw (
      c.half_edge-face.ensures.value,
      c.links.ensures.mesh,
      c.next_spoke-third.ensures.value,
      c.next_spoke-second.ensures.value,
    ) (inner_z _ _ v.sound (full_wheel _ _ v c.requires))

pub returns : goal.returns
returns g c = rw (
  c.half_edge-face.ensures.value,
  c.links.ensures.mesh,
  c.next_spoke-third.ensures.value,
  c.next_spoke-second.ensures.value,
) at c.open_face.ensures
