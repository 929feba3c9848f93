use Rattle.std.proofs.Common.{map, sym, ◌∙◌}
use Rattle.delaunay_legalization.proofs.{both_ways}
use Rattle.delaunay_location.proofs.{Locating.at_vertex, Questions.within_edge}
use Rattle.delaunay_location.proofs.walk.place_on_edge.Goals as goal

pub is_strictly_within-requires : goal.is_strictly_within-requires
is_strictly_within-requires g c =
    let ends = rw (← c.embedding.view_is) at c.ends_of.ensures in
    record {
      from_covered = ends.stop.from_covered;
      to_covered = ends.stop.to_covered;
      point_covered = rw (← c.embedding.view_is) at c.requires.covered;
      ends_apart = λ e. ends.edge.apart (sym ends.stop.from ∙ e ∙ ends.stop.to);
      not_from = λ e. both_ways _ (c.is_same_point.ensures.1 (sym e)) c.if-is_same_point.false;
      not_to = λ e. both_ways _ (c.is_same_point-2.ensures.1 (sym e)) c.if-is_same_point-2.false;
    }

pub returns-then-is_same_point : goal.returns-then-is_same_point
returns-then-is_same_point g c =
    let ends = rw (← c.embedding.view_is) at c.ends_of.ensures in
    let here = c.directed_edge-here.ensures in
    rw (← c.embedding.view_is) (at_vertex _ _ c.embedding.invariant.kept _ _
    (rw (c.from.ensures.dcel, here.dcel) at c.fix.ensures.in_range)
    (rw (c.fix.ensures.value ∙ rw (here.dcel, here.index) at c.from.ensures.index)
    (sym ends.stop.from ∙ c.is_same_point.ensures.0 c.if-is_same_point.true)))

pub returns-then-is_same_point-2 : goal.returns-then-is_same_point-2
returns-then-is_same_point-2 g c =
    let ends = rw (← c.embedding.view_is) at c.ends_of.ensures in
    let here = c.directed_edge-here.ensures in
    rw (← c.embedding.view_is) (at_vertex _ _ c.embedding.invariant.kept _ _
    (rw (c.to.ensures.dcel, here.dcel) at c.fix-then-is_same_point-2.ensures.in_range)
    (rw (c.fix-then-is_same_point-2.ensures.value
    ∙ rw (here.dcel, here.index) at c.to.ensures.index)
    (sym ends.stop.to ∙ c.is_same_point-2.ensures.0 c.if-is_same_point-2.true)))

pub returns-then-is_strictly_within : goal.returns-then-is_strictly_within
returns-then-is_strictly_within g c =
    let d = c.args.embedding.now.dcel in
    let ends = c.ends_of.ensures in
    let within = within_edge (map g.V.HasPosition.place d.vertices) d.mesh _ _ _ c.args.edge
    ends.stop.from ends.stop.to in
    record {
      handle = ends.edge.within;
      location = (
        ends.edge.joined,
        within.0 (c.is_strictly_within.ensures.0 c.if-is_strictly_within.true),
      );
    }
