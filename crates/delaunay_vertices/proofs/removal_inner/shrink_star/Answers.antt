use Rattle.std.proofs.Common.{◌∙◌, refl}
use Rattle.delaunay_vertices.proofs.Shrinking.{has_spoke, shrinking_ends, shrinking_from}
use Rattle.delaunay_vertices.proofs.Shrinking.{shrinking_goes_on, shrinking_stops, turn_at}
use Rattle.delaunay_vertices.proofs.{Turning.turning_begins, Turns.still_within}
use Rattle.delaunay_vertices.proofs.removal_inner.shrink_star.Goals as goal

pub loop-count-init : goal.loop-count-init
loop-count-init g c = record {
  so_far = turning_begins c.requires.embedding.kept
      (c.requires.room c.args.first c.args.count c.requires.star.round);
  star = c.requires.star;
}

pub invariant_of-spokes : goal.invariant_of-spokes
invariant_of-spokes g c =
    let s = c.loop-count.invariant in
    has_spoke s.so_far.contents c.requires.embedding s.so_far.whole s.star.shape
    (s.star.round.within 0)

pub turn_away-requires-clause-turns : goal.turn_away-requires-clause-turns
turn_away-requires-clause-turns g c =
    turn_at c.loop-count.invariant c.loop-count-test.true c.in-Some.ensures.some

pub edge_to_go_on-first-requires : goal.edge_to_go_on-first-requires
edge_to_go_on-first-requires g c =
    let within = still_within c.turn_away.ensures c.in-Some.ensures.some.within in
    record { within = within; few_within = within; few_starts = refl }

pub loop-count-preserved : goal.loop-count-preserved
loop-count-preserved g c =
    let went = c.edge_to_go_on-first.ensures in
    let next = shrinking_goes_on c.loop-count.invariant c.loop-count-test.true
    c.in-Some.ensures.some c.turn_away.ensures in
    shrinking_from next went.within (went.starts ∙ next.star.round.starts 0)

pub returns-in-None-clause-shrinks : goal.returns-in-None-clause-shrinks
returns-in-None-clause-shrinks g c =
    shrinking_stops c.loop-count.invariant c.loop-count-test.true c.in-None.ensures.none

pub returns-clause-shrinks : goal.returns-clause-shrinks
returns-clause-shrinks g c = shrinking_ends c.loop-count.invariant c.loop-count-test.false
