use Rattle.std.proofs.Common.{ap, map, refl}
use Rattle.delaunay_core.specs.{place_of}
use Rattle.delaunay_edit.proofs.MovedEdges.{can_step, can_wait, longer, shorter}
use Rattle.delaunay_edit.proofs.Seeking.{AreCorners, going_back_begins, going_back_goes_on}
use Rattle.delaunay_edit.proofs.Seeking.{HaveSeen, round_ends, round_finds, rounds_begin}
use Rattle.delaunay_edit.proofs.Seeking.{seeking_begins, seeking_ends, seeking_goes_on}
use Rattle.delaunay_edit.proofs.Seeking.{seeking_within, turns_not_at}
use Rattle.delaunay_edit.proofs.{flips.next_turn.Given.Over, Walking.corners_covered}
use Rattle.delaunay_edit.proofs.flips.next_turn.Goals as goal
use Rattle.delaunay_edit.proofs.flips.next_turn.Goals.{After-position_of-in-Some-5, In_default}

pub loop-init : goal.loop-init
loop-init g c = rounds_begin c.requires.turn

-- ---- those that are to be seen
pub loop-edge-init : goal.loop-edge-init
loop-edge-init g c = seeking_begins c.loop.invariant.turn

pub directed_edge-here-requires : goal.directed_edge-here-requires
directed_edge-here-requires g c = rw (ap (λ s. s.dcel) c.embedding.view_is)
    (seeking_within _ c.loop-edge.invariant _ _ c.in-Some.ensures.items).edge

pub position_of-requires : goal.position_of-requires
position_of-requires g c = rw (ap (λ s. s.dcel) c.embedding.view_is)
    (seeking_within _ c.loop-edge.invariant _ _ c.in-Some.ensures.items).from

pub position_of-requires-in-Some : goal.position_of-requires-in-Some
position_of-requires-in-Some g c = rw (ap (λ s. s.dcel) c.embedding.view_is)
    (seeking_within _ c.loop-edge.invariant _ _ c.in-Some.ensures.items).to

pub invariant_of-turning : goal.invariant_of-turning
invariant_of-turning g c =
    corners_covered _ (g.met.P.PlaneTests.sites_are_covered _) c.embedding.invariant.sites
    c.position_of.ensures.listed c.position_of-in-Some.ensures.listed
    c.position_of-in-Some-2.ensures.listed c.position_of-in-Some-3.ensures.listed
    c.position_of-in-Some-4.ensures.listed c.position_of-in-Some-5.ensures.listed

-- the corners are those round the edge
corners : (g : Over) (c : After-position_of-in-Some-5 g) →
    let place = place_of g.V.Scalar.SpadeNum.whole in
    AreCorners (map g.V.HasPosition.place c.args.embedding.now.dcel.vertices)
    c.args.embedding.now.dcel.mesh c.args.from c.args.to c.in-Some.edge
    (place c.position_of.result) (place c.position_of-in-Some.result)
    (place c.position_of-in-Some-2.result) (place c.position_of-in-Some-3.result)
    (place c.position_of-in-Some-4.result) (place c.position_of-in-Some-5.result)
corners g c = rw (← c.embedding.view_is)
    (record { from = cc; to = cc; start = cc; behind_is = cc; end = cc; ahead_is = cc })

pub returns-in-Some-way_made : goal.returns-in-Some-way_made
returns-in-Some-way_made g c =
    let found = round_finds c.loop.invariant
    {new = record { waiting = c.loop-edge.lists.waiting; unseen = c.pop.new.self }}
    c.loop-edge.invariant (record { waiting = refl; unseen = c.pop.ensures.capacity }) _
    c.in-Some.ensures.items refl c.in-Some-way_made.way
    (corners g (goal.at.returns-in-Some-way_made g c).After-position_of-in-Some-5)
    c.in-Some-way_made.ensures in
    record { found = found.0; room = found.1 }

pub push_reserved-requires : goal.push_reserved-requires
push_reserved-requires g c =
    can_wait c.loop-edge.invariant.turn.crossing.held _ _ c.in-Some.ensures.items

pub loop-edge-preserved : goal.loop-edge-preserved
loop-edge-preserved g c =
    seeking_goes_on {new = record { waiting = c.push_reserved.new.self; unseen = c.pop.new.self }}
    c.loop-edge.invariant
    (record { waiting = c.push_reserved.ensures.capacity; unseen = c.pop.ensures.capacity }) _
    c.in-Some.ensures.items c.push_reserved.ensures.items
    (turns_not_at (corners g (goal.at.loop-edge-preserved g c).After-position_of-in-Some-5)
    c.in_default-way_made.ensures)

pub loop-edge-smaller : goal.loop-edge-smaller
loop-edge-smaller g c = shorter _ _ (longer _ _ _ c.in-Some.ensures.items)

-- none of them can be turned
seen : (g : Over) (c : In_default g)
    → HaveSeen (map g.V.HasPosition.place c.args.embedding.now.dcel.vertices)
    c.args.embedding.now.dcel
    c.args.from c.args.to c.loop.lists
    (record { waiting = c.loop-edge.lists.waiting; unseen = c.pop.new.self })
seen g c = seeking_ends c.loop-edge.invariant
    (record { waiting = refl; unseen = c.pop.ensures.capacity }) _ c.in_default.ensures.items
    c.in_default.ensures.rest c.in_default.ensures.cases.0 refl

-- ---- all that wait
pub loop-edge-2-init : goal.loop-edge-2-init
loop-edge-2-init g c = going_back_begins (seen g (goal.at.loop-edge-2-init g c).In_default).turn

pub push_reserved-requires-in-Some-pop : goal.push_reserved-requires-in-Some-pop
push_reserved-requires-in-Some-pop g c =
    can_step c.loop-edge-2.invariant.turn.crossing.held _ _ c.in-Some-pop.ensures.items

pub loop-edge-2-preserved : goal.loop-edge-2-preserved
loop-edge-2-preserved g c = going_back_goes_on c.loop-edge-2.invariant (record {
  waiting = c.pop-in-loop-edge-2.ensures.capacity;
  unseen = c.push_reserved-in-Some-pop.ensures.capacity;
}) _ c.in-Some-pop.ensures.items c.push_reserved-in-Some-pop.ensures.items

pub loop-edge-2-smaller : goal.loop-edge-2-smaller
loop-edge-2-smaller g c = shorter _ _ (longer _ _ _ c.in-Some-pop.ensures.items)

pub loop-preserved : goal.loop-preserved
loop-preserved g c =
    let left = c.in_default-pop.ensures in
    round_ends c.loop.invariant (seen g (goal.at.loop-preserved g c).In_default)
    c.loop-edge-2.invariant
    (record { waiting = c.pop-in-loop-edge-2.ensures.capacity; unseen = refl }) _ left.items
    left.rest left.cases.0 refl

pub returns : goal.returns
returns g c = record {
  found = c.loop.invariant.made c.loop-test.false;
  room = c.loop.invariant.room;
}
