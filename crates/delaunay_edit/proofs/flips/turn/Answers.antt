use Rattle.std.proofs.Common.{refl}
use Rattle.delaunay_edit.proofs.MovedEdges.{can_step, held_with_room, less_by_room, moved_back}
use Rattle.delaunay_edit.proofs.MovedEdges.{none_waits}
use Rattle.delaunay_edit.proofs.OneTurn.{turn_can, turned_across, turned_away}
use Rattle.delaunay_edit.proofs.flips.turn.Goals as goal

-- ---- the edge that is made crosses
pub flip_cw-requires : goal.flip_cw-requires
flip_cw-requires g c =
    let can = turn_can _ c.requires.turning c.as_undirected-whole.ensures in
    record { between = can.0; corners = can.1 }

pub push_reserved-requires : goal.push_reserved-requires
push_reserved-requires g c =
    less_by_room _ _ _ _ c.args.lists.now.waiting.ok.0 c.requires.turning.others.room.waiting

pub returns-in-Some-clause-turns : goal.returns-in-Some-clause-turns
returns-in-Some-clause-turns g c =
    let flip = c.flip_cw.ensures in
    turned_across _ c.requires.turning c.as_undirected-whole.ensures flip.contents flip.mesh
    flip.triangles flip.outer flip.whole.1 (rw c.in-Some.is at c.requires.way)
    c.requires.work.edges (record { waiting = c.push_reserved.ensures.capacity; unseen = refl })
    c.push_reserved.ensures.items refl

-- ---- it does not
pub flip_cw-requires-in-None : goal.flip_cw-requires-in-None
flip_cw-requires-in-None g c =
    let can = turn_can _ c.requires.turning c.as_undirected-whole.ensures in
    record { between = can.0; corners = can.1 }

pub push_reserved-requires-in-Some-pop : goal.push_reserved-requires-in-Some-pop
push_reserved-requires-in-Some-pop g c =
    can_step (held_with_room c.requires.turning.others) _ _ c.in-Some-pop.ensures.items

pub returns-in-Some-pop-clause-turns : goal.returns-in-Some-pop-clause-turns
returns-in-Some-pop-clause-turns g c =
    let flip = c.flip_cw-in-None.ensures in
    turned_away _ c.requires.turning c.as_undirected-whole.ensures flip.contents flip.mesh
    flip.triangles flip.outer flip.whole.1 (rw c.in-None.is at c.requires.way)
    c.push_sides.ensures.edges (rw c.as_directed-round.ensures at c.push_side.ensures.gains)
    (rw c.as_directed-round.ensures at c.push_sides.ensures.gains)
    (moved_back {old = c.args.lists.now} (record {
      waiting = c.pop.ensures.capacity;
      unseen = c.push_reserved-in-Some-pop.ensures.capacity;
    }) _ c.in-Some-pop.ensures.items c.push_reserved-in-Some-pop.ensures.items
    (held_with_room c.requires.turning.others))

pub returns-in_default-clause-turns : goal.returns-in_default-clause-turns
returns-in_default-clause-turns g c =
    let flip = c.flip_cw-in-None.ensures in
    turned_away _ c.requires.turning c.as_undirected-whole.ensures flip.contents flip.mesh
    flip.triangles flip.outer flip.whole.1 (rw c.in-None.is at c.requires.way)
    c.push_sides.ensures.edges (rw c.as_directed-round.ensures at c.push_side.ensures.gains)
    (rw c.as_directed-round.ensures at c.push_sides.ensures.gains)
    (none_waits {old = c.args.lists.now} (record {
      waiting = c.pop.ensures.capacity;
      unseen = refl;
    }) c.in_default.ensures.items refl (held_with_room c.requires.turning.others))
