use Rattle.std.proofs.Common.{◌∙◌, sym}
use Rattle.delaunay_edit.proofs.AddingSubconstraints.{adding_between, adding_goes_on_by}
use Rattle.delaunay_edit.proofs.AddingSubconstraints.{adding_placed, adding_room, adding_shortens}
use Rattle.delaunay_edit.proofs.AddingSubconstraints.{adding_starts, adding_to_ends, adding_work}
use Rattle.delaunay_edit.proofs.JoinedPairs.{first_joined, index_found, some_joins}
use Rattle.delaunay_edit.proofs.Making.{making_begins, making_falls, making_goes_on, making_placed}
use Rattle.delaunay_edit.proofs.{Making.making_work, Marks.gets_mark, Marks.has_mark}
use Rattle.delaunay_edit.proofs.adding.add_path.Goals as goal

pub loop-next-init : goal.loop-next-init
loop-next-init g c = adding_starts _ _ g.met.M.ConstraintMarker.constraints_are_marked
    c.requires.kept c.requires.way c.requires.room.0

pub invariant_of-list_subconstraint : goal.invariant_of-list_subconstraint
invariant_of-list_subconstraint g c = adding_placed c.loop-next.invariant.so_far c.requires.sites

pub list_subconstraint-requires : goal.list_subconstraint-requires
list_subconstraint-requires g c = record {
  ends = adding_between c.loop-next.invariant.so_far;
  room = adding_room c.loop-next.invariant c.requires.room.1;
}

-- ---- turns until a subconstraint is an edge
pub loop-edge-init : goal.loop-edge-init
loop-edge-init g c =
    making_begins c.in-Some.ensures.subconstraint.turn (adding_work c.loop-next.invariant
    c.requires.room.0)

pub invariant_of-next_turn : goal.invariant_of-next_turn
invariant_of-next_turn g c = making_placed c.loop-edge.invariant
    (adding_placed c.loop-next.invariant.so_far c.requires.sites)

pub next_turn-requires : goal.next_turn-requires
next_turn-requires g c = record { turn = c.loop-edge.invariant.turn }

pub turn-requires : goal.turn-requires
turn-requires g c = record {
  turning = c.in-Some-next_turn.ensures.found.0;
  way = c.in-Some-next_turn.ensures.found.1;
  work = making_work c.loop-edge.invariant (adding_work c.loop-next.invariant c.requires.room.0);
}

pub loop-edge-preserved : goal.loop-edge-preserved
loop-edge-preserved g c = making_goes_on c.loop-edge.invariant c.turn.ensures.turns
    c.turn.ensures.capacity c.next_turn.ensures.room

pub loop-edge-smaller : goal.loop-edge-smaller
loop-edge-smaller g c = making_falls c.loop-edge.invariant c.turn.ensures.turns

-- ---- the subconstraint becomes a constraint
pub get_edge_from_neighbors-requires : goal.get_edge_from_neighbors-requires
get_edge_from_neighbors-requires g c =
    let made = c.in_default-next_turn.ensures.found in first_joined made.whole made.edge

pub unreachable-requires : goal.unreachable-requires
unreachable-requires g c =
    let made = c.in_default-next_turn.ensures.found in
    some_joins made.whole made.edge c.in_default-get_edge_from_neighbors.ensures.none

pub loop-next-preserved-then-not-is_constraint_edge :
    goal.loop-next-preserved-then-not-is_constraint_edge
loop-next-preserved-then-not-is_constraint_edge g c =
    let laws = g.met.M.ConstraintMarker in
    adding_goes_on_by c.loop-next.invariant c.in-Some.ensures.subconstraint.next
    c.list_subconstraint.ensures.room
    c.loop-edge.invariant c.in_default-next_turn.ensures.found c.next_turn.ensures.room
    (index_found c.in-Some-get_edge_from_neighbors.ensures.some c.fix.ensures.value
    c.fix.ensures.in_range)
    (gets_mark c.undirected_edge_data.ensures c.as_undirected-edge.ensures
    (sym c.is_constraint_edge.ensures ∙ c.if-not-is_constraint_edge.true)
    (λ x. laws.marked_has_mark x c.requires.can_mark) c.undirected_edge_data_mut.ensures.value
    c.make_constraint.ensures)
    (λ x. laws.marked_has_mark x c.requires.can_mark)

pub loop-next-preserved : goal.loop-next-preserved
loop-next-preserved g c =
    adding_goes_on_by c.loop-next.invariant c.in-Some.ensures.subconstraint.next
    c.list_subconstraint.ensures.room
    c.loop-edge.invariant c.in_default-next_turn.ensures.found c.next_turn.ensures.room
    (index_found c.in-Some-get_edge_from_neighbors.ensures.some c.fix.ensures.value
    c.fix.ensures.in_range)
    (has_mark c.undirected_edge_data.ensures c.as_undirected-edge.ensures
    (sym c.is_constraint_edge.ensures ∙ c.if-not-is_constraint_edge.false))
    (λ x. g.met.M.ConstraintMarker.marked_has_mark x c.requires.can_mark)

pub loop-next-smaller-then-not-is_constraint_edge :
    goal.loop-next-smaller-then-not-is_constraint_edge
loop-next-smaller-then-not-is_constraint_edge g c =
    adding_shortens c.loop-next.invariant.so_far c.in-Some.ensures.subconstraint.next

pub loop-next-smaller : goal.loop-next-smaller
loop-next-smaller g c =
    adding_shortens c.loop-next.invariant.so_far c.in-Some.ensures.subconstraint.next

pub returns-clause-adds : goal.returns-clause-adds
returns-clause-adds g c =
    adding_to_ends c.loop-next.invariant.so_far c.in_default.ensures.subconstraint
