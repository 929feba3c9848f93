use Rattle.std.proofs.Common.{sym, ◌∙◌, arith, below_more}
use Rattle.delaunay_legalization.proofs.{both_ways}
use Rattle.delaunay_location.proofs.Questions.{clear, located_left}
use Rattle.delaunay_location.proofs.location.place_at_edges.Goals as goal
use goal.{else-is_outer-via-else-is_outer, else-is_outer-via-then-is_outer+else-turns_left}

pub is_strictly_within-requires-clause-not_from : goal.is_strictly_within-requires-clause-not_from
is_strictly_within-requires-clause-not_from g c same =
    let ends = c.ends_of.ensures in
    c.requires.apart.apart _ ends.edge.source (sym ends.stop.from ∙ sym same)

pub is_strictly_within-requires-clause-not_to : goal.is_strictly_within-requires-clause-not_to
is_strictly_within-requires-clause-not_to g c same =
    let ends = c.ends_of.ensures in
    c.requires.apart.apart _ ends.edge.target (sym ends.stop.to ∙ sym same)

pub returns-then-turns_left : goal.returns-then-turns_left
returns-then-turns_left g c =
    let ends = rw (← c.embedding.view_is) at c.ends_of.ensures in
    rw (← c.embedding.view_is) (located_left _ _ _ _ _ _ ends.stop.from ends.stop.to ends.edge
    (c.is_outer.ensures.0 c.if-is_outer.true) (c.turns_left.ensures.0 c.if-turns_left.true))

pub loop-index-preserved : goal.loop-index-preserved
loop-index-preserved g c =
    let ends = rw (← c.embedding.view_is) at c.ends_of.ensures in
    below_more _ _ c.loop-index.invariant
    (rw (← c.from_index-edge.ensures, ← c.embedding.view_is) (clear _ _ _ _ _ _ ends.stop.from
    ends.stop.to
    (λ w. both_ways _ (c.is_strictly_within.ensures.1 w) c.if-is_strictly_within.false)
    (λ l. elim c.else-is_outer.branch [
      | else-is_outer-via-then-is_outer+else-turns_left w ↦
          both_ways _ (w.turns_left.ensures.1 l.1) w.if-turns_left.false
      | else-is_outer-via-else-is_outer w ↦
          both_ways _ (c.is_outer.ensures.1 l.0) w.if-is_outer.false
    ])))

pub returns : goal.returns
returns g c h below =
    let count = c.num_directed_edges-index-end.ensures.value in
    let within = rw (← c.embedding.view_is) at below in
    c.loop-index.invariant h (omega (arith, within, c.loop-index-test.false, count))

pub returns-then-is_strictly_within : goal.returns-then-is_strictly_within
returns-then-is_strictly_within g c = grind arith
