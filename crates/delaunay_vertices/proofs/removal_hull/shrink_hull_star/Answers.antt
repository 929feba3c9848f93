use Rattle.std.proofs.Common.{refl, arith}
use Rattle.delaunay_vertices.proofs.HullShrinking.{first_starts, hull_shrinking_goes_on}
use Rattle.delaunay_vertices.proofs.HullShrinking.{hull_shrinking_stops, hull_turn_at}
use Rattle.delaunay_vertices.proofs.{HullStars.has_two, Shrinking.has_spoke, Turning.turning_begins}
use Rattle.{delaunay_vertices.proofs.Turns.still_within, delaunay_vertices.specs.IsHullFan}
use Rattle.delaunay_vertices.proofs.removal_hull.shrink_hull_star.Goals as goal

pub loop-edge-init : goal.loop-edge-init
loop-edge-init g c =
    let hull = c.requires.hull in
    let kept = c.requires.embedding.kept in
    let round = c.count_edges-count.ensures in
    let star : IsHullFan _ c.args.dcel.now.mesh _ c.args.first c.count_edges-count.result =
    record { shape = hull.shape; outer = hull.outer; round = round } in
    record {
      so_far = turning_begins kept
          (c.requires.room c.args.first c.count_edges-count.result round);
      star = star;
      many = has_two kept.valid star;
      few = λ n at_each. let fits = at_each c.args.first c.count_edges-count.result round in
          omega (arith, fits);
      from_within = hull.within;
      from_starts = refl;
    }

pub invariant_of-spokes : goal.invariant_of-spokes
invariant_of-spokes g c =
    let s = c.loop-edge.invariant in
    has_spoke s.so_far.contents c.requires.embedding s.so_far.whole s.star.shape
    (rw s.so_far.whole.fits.directed_fit at s.from_within)

pub turn_away-requires-clause-turns : goal.turn_away-requires-clause-turns
turn_away-requires-clause-turns g c = hull_turn_at c.loop-edge.invariant c.in-Some.ensures.some

pub edge_to_go_on-from-requires : goal.edge_to_go_on-from-requires
edge_to_go_on-from-requires g c =
    let s = c.loop-edge.invariant in
    let found = c.in-Some.ensures.some in
    let turned = c.turn_away.ensures in
    record {
      within = still_within turned found.within;
      few_within =
          still_within turned (rw s.so_far.whole.fits.directed_fit (s.star.round.within 0));
      few_starts = first_starts s found turned;
    }

pub loop-edge-preserved : goal.loop-edge-preserved
loop-edge-preserved g c = hull_shrinking_goes_on c.loop-edge.invariant c.in-Some.ensures.some
    c.turn_away.ensures c.edge_to_go_on-from.ensures.within c.edge_to_go_on-from.ensures.starts

pub returns-in-None-clause-shrinks : goal.returns-in-None-clause-shrinks
returns-in-None-clause-shrinks g c =
    hull_shrinking_stops c.loop-edge.invariant c.in-None.ensures.none
