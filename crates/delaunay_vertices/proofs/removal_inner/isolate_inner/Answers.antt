use Rattle.std.proofs.Common.{◌∙◌, arith}
use Rattle.delaunay_vertices.proofs.DataStays.{pairs_kept}
use Rattle.delaunay_vertices.proofs.InnerHoles.{four_isolate, isolates_from, three_isolate}
use Rattle.delaunay_vertices.proofs.InnerHoles.{three_wheel, wheel_after}
use Rattle.delaunay_vertices.proofs.InnerStars.{inner_may_turn, starts_after}
use Rattle.delaunay_vertices.proofs.{Isolating.four_left, Isolating.four_named, Shrinking.has_spoke}
use Rattle.delaunay_vertices.proofs.removal_inner.isolate_inner.Goals as goal

pub fill_three-requires : goal.fill_three-requires
fill_three-requires g c =
    let s = c.shrink_star-first.ensures.shrinks in
    record {
      whole = s.whole;
      wheel = three_wheel s.whole s.star c.if-count-eq3.true;
      starts = s.star.round.starts 0 ∙ c.requires.starts;
    }

pub invariant_of-spokes : goal.invariant_of-spokes
invariant_of-spokes g c =
    let s = c.shrink_star-first.ensures.shrinks in
    has_spoke s.contents c.requires.embedding s.whole s.star.shape (s.star.round.within 0)

pub edge_beside_line-beside-requires : goal.edge_beside_line-beside-requires
edge_beside_line-beside-requires g c =
    four_left c.shrink_star-first.ensures.shrinks c.if-count-eq3.false

pub turn_away-requires-clause-turns : goal.turn_away-requires-clause-turns
turn_away-requires-clause-turns g c =
    let s = c.shrink_star-first.ensures.shrinks in
    inner_may_turn s.whole (four_named s c.requires.starts c.edge_beside_line-beside.ensures.star)
    (omega arith)

pub fill_three-requires-else-count-eq3 : goal.fill_three-requires-else-count-eq3
fill_three-requires-else-count-eq3 g c =
    let s = c.shrink_star-first.ensures.shrinks in
    let star = four_named s c.requires.starts c.edge_beside_line-beside.ensures.star in
    let turned = c.turn_away.ensures in
    record {
      whole = turned.whole;
      wheel = wheel_after s.whole star turned;
      starts = starts_after s.whole.valid star (omega arith) turned.mesh;
    }

pub returns-then-count-eq3 : goal.returns-then-count-eq3
returns-then-count-eq3 g c =
    let s = c.shrink_star-first.ensures.shrinks in
    isolates_from _ s.contents s.beside c.requires.starts (λ i j p. p) (λ i j p. p)
    (three_isolate s.whole s.star c.if-count-eq3.true c.requires.starts c.fill_three.ensures.whole
    c.fill_three.ensures.hole _)

pub returns-else-count-eq3 : goal.returns-else-count-eq3
returns-else-count-eq3 g c =
    let s = c.shrink_star-first.ensures.shrinks in
    let star = four_named s c.requires.starts c.edge_beside_line-beside.ensures.star in
    isolates_from _ s.contents s.beside c.requires.starts
    (pairs_kept _ _ _ c.turn_away.ensures.items) (λ i j p. p)
    (four_isolate s.whole star c.turn_away.ensures c.fill_three-else-count-eq3.ensures.whole
    c.edge_beside_line-beside.ensures.between c.fill_three-else-count-eq3.ensures.hole)
