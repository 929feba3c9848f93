use Rattle.std.proofs.Common.{◌∙◌, ◌^◌, arith}
use Rattle.plane_theorems.proofs.Delaunay.Circles.Nearest.{nearest_by_neighbours}
use Rattle.delaunay_location.proofs.Candidates.{next_falls, reached_on, vertex_within}
use Rattle.delaunay_location.proofs.Neighbours.{count_stays, more_counted, moves_fit, none_counted}
use Rattle.delaunay_location.proofs.Neighbours.{room_stays}
use Rattle.delaunay_location.proofs.nearest_walk.nearest_from.Goals as goal

pub loop-nearer-init : goal.loop-nearer-init
loop-nearer-init g c = record { candidate = c.requires.start; counted = none_counted }

pub overflow_add-moves : goal.overflow_add-moves
overflow_add-moves g c =
    let on = reached_on c.requires.can.kept c.loop-nearer.invariant c.in-Some.ensures in
    let fits = moves_fit on.counted (2 ^ 64) c.requires.fits in omega (arith, fits)

pub loop-nearer-preserved : goal.loop-nearer-preserved
loop-nearer-preserved g c = reached_on c.requires.can.kept c.loop-nearer.invariant c.in-Some.ensures

pub candidate_anywhere-nearest-requires-clause-fits :
    goal.candidate_anywhere-nearest-requires-clause-fits
candidate_anywhere-nearest-requires-clause-fits g c =
    let on = reached_on c.requires.can.kept c.loop-nearer.invariant c.in-Some.ensures in
    room_stays on.counted (2 ^ 64) c.requires.fits

pub loop-nearer-preserved-then-moves-eq0 : goal.loop-nearer-preserved-then-moves-eq0
loop-nearer-preserved-then-moves-eq0 g c =
    let on = reached_on c.requires.can.kept c.loop-nearer.invariant c.in-Some.ensures in
    let jump = c.candidate_anywhere-nearest.ensures in
    record { candidate = jump.candidate; counted = more_counted on.counted jump.counted }

pub loop-nearer-smaller : goal.loop-nearer-smaller
loop-nearer-smaller g c =
    next_falls c.requires.can.kept c.loop-nearer.invariant.candidate c.in-Some.ensures

pub loop-nearer-smaller-then-moves-eq0 : goal.loop-nearer-smaller-then-moves-eq0
loop-nearer-smaller-then-moves-eq0 g c =
    let falls = next_falls c.requires.can.kept c.loop-nearer.invariant.candidate
    c.in-Some.ensures in
    let stays = count_stays c.candidate_anywhere-nearest.ensures.counted in
    omega (arith, falls, stays)

pub directed_edge-requires : goal.directed_edge-requires
directed_edge-requires g c =
    rw c.requires.can.kept.fits.directed_fit c.loop-nearer.invariant.candidate.within

pub returns : goal.returns
returns g c =
    let here = c.directed_edge.ensures in
    rw (c.fix.ensures.value ∙ rw (here.dcel, here.index) at c.from.ensures.index) (record {
      nearest = nearest_by_neighbours _ c.requires.delaunay _ _
          (vertex_within c.requires.can.kept c.loop-nearer.invariant.candidate)
          c.in_default.ensures;
      counted = c.loop-nearer.invariant.counted;
    })
