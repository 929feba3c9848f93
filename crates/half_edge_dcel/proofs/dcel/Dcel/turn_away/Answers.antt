use Rattle.std.proofs.Common.{refl, rules}
use Rattle.half_edge_links.proofs.{between_faces}
use Rattle.half_edge_dcel.proofs.Hubs.{turn_corners, turnable}
use Rattle.half_edge_dcel.proofs.dcel.Dcel.turn_away.Goals as goal

pub flip-requires : goal.flip-requires
flip-requires g c =
    let can = rw (← c.self.view_is) at c.requires in
    let spoke = rw (← c.self.view_is) at c.next_spoke-spoke.ensures in
    let valid = spoke.whole.valid in
    rw spoke.value (record {
      between = between_faces _ _ (turnable _ _ valid can.within can.before can.behind);
      corners = turn_corners _ _ valid can.within can.before can.corners;
    })

pub returns : goal.returns
returns g c =
    let spoke = rw (← c.self.view_is) at c.next_spoke-spoke.ensures.value in
    let flip = rw spoke at c.flip.ensures in
    rw (← c.self.view_is) (record {
      flips = flip.flips.links;
      contents = rw (flip.rest.room, flip.rest.values) refl;
      ends = flip.flips.ends;
      triangles = flip.flips.corners;
      outer = flip.flips.outer;
      outline = flip.flips.outline;
      whole = record { valid = flip.valid; fits = search rules };
    })
