use Rattle.std.proofs.Common.{sym, ap, rules, ◌∙◌, arith}
use Rattle.std.proofs.lemmas.Grind.{common_steps}
use Rattle.delaunay_location.proofs.OneLine.{all_outer, located_right}
use Rattle.delaunay_location.proofs.Questions.{located_left}
use Rattle.delaunay_location.proofs.line.place_on_line.Goals as goal

pub returns-then-is_on_left_side : goal.returns-then-is_on_left_side
returns-then-is_on_left_side g c =
    let kept = rw (ap (λ s. s.dcel) c.embedding.view_is) at c.embedding.invariant.kept in
    let ends = c.ends_of.ensures in
    located_left _ _ _ _ _ _ ends.stop.from ends.stop.to ends.edge
    (all_outer kept c.requires.line _ ends.stop.within)
    (sym c.side-side.ensures ∙ c.is_on_left_side.ensures.0 c.if-is_on_left_side.true)

pub returns-then-is_on_right_side : goal.returns-then-is_on_right_side
returns-then-is_on_right_side g c =
    let kept = rw (ap (λ s. s.dcel) c.embedding.view_is) at c.embedding.invariant.kept in
    located_right kept _ c.requires.line c.ends_of.ensures.stop c.side-side.ensures
    (c.is_on_right_side.ensures.0 c.if-is_on_right_side.true) c.rev.ensures

pub nearer_edge-edge-requires-clause-can : goal.nearer_edge-edge-requires-clause-can
nearer_edge-edge-requires-clause-can g c = search (rules, g.met.P.PlaneTests.covered_are_in_range)

pub walk_along-requires-2-clause-within : goal.walk_along-requires-2-clause-within
walk_along-requires-2-clause-within g c = grind (arith, common_steps)
