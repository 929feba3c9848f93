use Rattle.std.proofs.Common.{arith, vec_capacity}
use Rattle.{delaunay_legalization.proofs.both_ways, delaunay_vertices.proofs.HullSides.one_side}
use Rattle.delaunay_vertices.proofs.DataStays.{none_to_keep, pairs_kept}
use Rattle.delaunay_vertices.proofs.HullCuts.{corner_isolates, flat_isolates, flat_strip}
use Rattle.delaunay_vertices.proofs.{HullCuts.sides_opposite, InnerHoles.isolates_from}
use Rattle.delaunay_vertices.proofs.{HullIsolating.flat_left, Shrinking.has_spoke}
use Rattle.delaunay_vertices.proofs.HullStars.{has_two, hull_may_turn, strip_of}
use Rattle.delaunay_vertices.proofs.removal_hull.isolate_on_hull.Goals as goal

pub shrink_hull_star-count-requires-clause-room : goal.shrink_hull_star-count-requires-clause-room
shrink_hull_star-count-requires-clause-room g c = rw c.requires.starts c.requires.pairs

pub invariant_of-spokes : goal.invariant_of-spokes
invariant_of-spokes g c =
    let s = c.shrink_hull_star-count.ensures.shrinks in
    has_spoke s.contents c.requires.embedding s.whole s.star.shape (s.star.round.within 0)

pub collect_sides-requires : goal.collect_sides-requires
collect_sides-requires g c =
    let s = c.shrink_hull_star-count.ensures.shrinks in
    let few = c.shrink_hull_star-count.ensures.few (vec_capacity c.args.lists.now.sides)
    (rw c.requires.starts c.requires.room) in
    record {
      within = rw s.whole.fits.directed_fit (s.star.round.within 0);
      room = omega (arith, few);
    }

pub disconnect_edge_strip-requires : goal.disconnect_edge_strip-requires
disconnect_edge_strip-requires g c =
    let s = c.shrink_hull_star-count.ensures.shrinks in
    let valid = s.whole.valid in
    let two = has_two valid s.star in
    sides_opposite valid.sound (strip_of valid s.star) (omega (arith, two))
    (rw c.as_slice.ensures.value c.collect_sides.ensures.sides)

pub returns-then-is_corner-clause-isolates : goal.returns-then-is_corner-clause-isolates
returns-then-is_corner-clause-isolates g c =
    let s = c.shrink_hull_star-count.ensures.shrinks in
    let cut = c.disconnect_edge_strip.ensures in
    isolates_from _ s.contents s.beside c.requires.starts (λ i j p. p) (none_to_keep _)
    (corner_isolates s.whole cut.whole (rw c.requires.starts at s.star) s.bent
    (c.is_corner.ensures.0 c.if-is_corner.true)
    (rw c.as_slice.ensures.value c.collect_sides.ensures.sides) cut.strip)

pub turn_away-requires : goal.turn_away-requires
turn_away-requires g c =
    let s = c.shrink_hull_star-count.ensures.shrinks in
    let room = c.shrink_hull_star-count.ensures.room in
    let some = s.star.round.some in
    let flat = flat_left s (λ t. both_ways _ (c.is_corner.ensures.1 t) c.if-is_corner.false)
    c.requires.starts in
    record {
      turns = hull_may_turn s.whole flat.0 0 (omega arith);
      room = omega (arith, room, some);
    }

pub opposite_side-requires : goal.opposite_side-requires
opposite_side-requires g c =
    let s = c.shrink_hull_star-count.ensures.shrinks in
    let turned = c.turn_away.ensures in
    let flat = flat_left s (λ t. both_ways _ (c.is_corner.ensures.1 t) c.if-is_corner.false)
    c.requires.starts in
    rw turned.whole.fits.directed_fit (flat_strip s.whole flat.0 turned).within

pub disconnect_edge_strip-requires-else-is_corner
    : goal.disconnect_edge_strip-requires-else-is_corner
disconnect_edge_strip-requires-else-is_corner g c =
    let s = c.shrink_hull_star-count.ensures.shrinks in
    let turned = c.turn_away.ensures in
    let flat = flat_left s (λ t. both_ways _ (c.is_corner.ensures.1 t) c.if-is_corner.false)
    c.requires.starts in
    sides_opposite turned.whole.valid.sound (flat_strip s.whole flat.0 turned) (omega arith)
    (one_side c.opposite_side.ensures)

pub returns-else-is_corner-clause-isolates : goal.returns-else-is_corner-clause-isolates
returns-else-is_corner-clause-isolates g c =
    let s = c.shrink_hull_star-count.ensures.shrinks in
    let cut = c.disconnect_edge_strip-else-is_corner.ensures in
    let flat = flat_left s (λ t. both_ways _ (c.is_corner.ensures.1 t) c.if-is_corner.false)
    c.requires.starts in
    isolates_from _ s.contents s.beside c.requires.starts
    (pairs_kept _ _ _ c.turn_away.ensures.items) (λ i j p. p)
    (flat_isolates s.whole flat.0 c.turn_away.ensures cut.whole flat.1
    (one_side c.opposite_side.ensures) cut.strip)
