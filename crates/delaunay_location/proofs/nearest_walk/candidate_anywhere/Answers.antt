use Rattle.std.proofs.Common.{◌∙◌, ◌^◌, arith}
use Rattle.delaunay_location.proofs.Candidates.{move_to_found}
use Rattle.delaunay_location.proofs.Neighbours.{counted_after, moves_fit, none_counted, room_there}
use Rattle.delaunay_location.proofs.nearest_walk.candidate_anywhere.Goals as goal

pub returns-then-index : goal.returns-then-index
returns-then-index g c = record { candidate = c.requires.from; counted = none_counted }

pub first_candidate-requires-clause-fits : goal.first_candidate-requires-clause-fits
first_candidate-requires-clause-fits g c =
    let sample = c.nearer_sample-sample.ensures in
    let here = c.directed_edge.ensures in
    let start = c.fix-vertex.ensures.value ∙ rw (here.dcel, here.index) at c.from.ensures.index in
    room_there (move_to_found c.requires.can.kept c.requires.from sample.within sample.nearer
    start c.index.ensures c.index-2.ensures c.if-index.false)
    c.args.moves.now (2 ^ 64) c.requires.fits

pub overflow_add-moves : goal.overflow_add-moves
overflow_add-moves g c =
    let sample = c.nearer_sample-sample.ensures in
    let here = c.directed_edge.ensures in
    let start = c.fix-vertex.ensures.value ∙ rw (here.dcel, here.index) at c.from.ensures.index in
    let move = move_to_found c.requires.can.kept c.requires.from sample.within sample.nearer
    start c.index.ensures c.index-2.ensures c.if-index.false in
    let fits = moves_fit (counted_after move c.in-Some.ensures.counted) (2 ^ 64) c.requires.fits in
    omega (arith, fits)

pub returns-in-Some : goal.returns-in-Some
returns-in-Some g c =
    let sample = c.nearer_sample-sample.ensures in
    let here = c.directed_edge.ensures in
    let start = c.fix-vertex.ensures.value ∙ rw (here.dcel, here.index) at c.from.ensures.index in
    let move = move_to_found c.requires.can.kept c.requires.from sample.within sample.nearer
    start c.index.ensures c.index-2.ensures c.if-index.false in
    record {
      candidate = c.in-Some.ensures.candidate;
      counted = counted_after move c.in-Some.ensures.counted;
    }
