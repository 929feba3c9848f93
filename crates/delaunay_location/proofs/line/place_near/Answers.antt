use Rattle.std.proofs.Common.{sym, ◌∙◌}
use Rattle.{delaunay_legalization.proofs.both_ways, delaunay_location.proofs.OneLine.located_past}
use Rattle.delaunay_location.proofs.line.place_near.Goals as goal

pub is_strictly_within-requires : goal.is_strictly_within-requires
is_strictly_within-requires g c =
    let ends = rw (← c.embedding.view_is) at c.ends_of.ensures in
    record {
      from_covered = (rw (← c.embedding.view_is) at c.requires).covered;
      to_covered = ends.stop.to_covered;
      point_covered = ends.stop.from_covered;
      ends_apart = λ e. both_ways _ (c.is_same_point-else-is_same_point.ensures.1 (sym e))
          c.if-is_same_point-2.false;
      not_from = λ e. both_ways _ (c.is_same_point.ensures.1 e) c.if-is_same_point.false;
      not_to = λ e. ends.edge.apart (sym ends.stop.from ∙ e ∙ ends.stop.to);
    }

pub returns-then-is_strictly_within : goal.returns-then-is_strictly_within
returns-then-is_strictly_within g c =
    let ends = rw (← c.embedding.view_is) at c.ends_of.ensures in
    let given = rw (← c.embedding.view_is) at c.requires in
    let here = c.directed_edge.ensures in
    let alone = sym (c.fix-other.ensures.value ∙ rw (here.dcel, here.index) at c.cw.ensures.index)
    ∙ sym c.index.ensures ∙ c.if-index.false ∙ c.index-2.ensures in
    rw (← c.embedding.view_is) (located_past c.embedding.invariant.kept _ given.line _ given.within
    alone _ _ ends.stop.from ends.stop.to
    (c.is_strictly_within.ensures.0 c.if-is_strictly_within.true))
