use Rattle.std.proofs.Common.{length, map}
use Rattle.std.proofs.lemmas.List.{length-map}
use Rattle.delaunay_location.proofs.OutsideItems.{better_found, found_better, found_within}
use Rattle.delaunay_location.proofs.SegmentTests.{unless}
use Rattle.delaunay_location.proofs.outside.better_of.Goals as goal

pub is_better-requires-clause-other_within : goal.is_better-requires-clause-other_within
is_better-requires-clause-other_within g c =
    let s = c.args.embedding.now in
    found_within (map g.V.HasPosition.place s.dcel.vertices) _ _ (length s.dcel.vertices)
    (length-map s.dcel.vertices g.V.HasPosition.place) c.args.found c.requires.found

pub returns-then-is_better : goal.returns-then-is_better
returns-then-is_better g c =
    let s = c.args.embedding.now in
    better_found _ _ _ c.args.found c.args.vertex
    (rw (← length-map s.dcel.vertices g.V.HasPosition.place) at c.requires.within)
    (c.is_better.ensures.0 c.if-is_better.true)

pub returns : goal.returns
returns g c = found_better _ _ _ c.args.found c.args.vertex c.requires.found
    (unless c.is_better.ensures c.if-is_better.false)
