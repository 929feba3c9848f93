use Rattle.std.proofs.Common.{◌∙◌}
use Rattle.{delaunay_legalization.proofs.along_goes_on, half_edge_dcel.specs.hull_left}
use Rattle.delaunay_location.proofs.{MeshSteps.embedding_value, SegmentTests.unless}
use Rattle.delaunay_location.proofs.OutsideItems.{enters, hull_begins, nearest_is_first}
use Rattle.delaunay_location.proofs.OutsideItems.{none_entered, none_is_first, twin_along}
use Rattle.delaunay_location.proofs.outside.first_on_outline.Goals as goal

pub loop-outer-init : goal.loop-outer-init
loop-outer-init g c = rw (← c.embedding.view_is) (hull_begins c.embedding.invariant
    c.convex_hull-outer-items.ensures c.into_iter-outer-iterator.ensures.into_iter_gives)

pub is_crossed-requires-clause-within : goal.is_crossed-requires-clause-within
is_crossed-requires-clause-within g c =
    (twin_along (embedding_value c.embedding.view_is c.embedding.invariant) c.loop-outer.invariant
    c.in-Some.ensures.steps (c.fix-edge.ensures.value ∙ c.rev.ensures.index)).0

pub returns-then-is_crossed : goal.returns-then-is_crossed
returns-then-is_crossed g c =
    let over = embedding_value c.embedding.view_is c.embedding.invariant in
    let edge = twin_along over c.loop-outer.invariant c.in-Some.ensures.steps
    (c.fix-edge.ensures.value ∙ c.rev.ensures.index) in
    enters over c.requires.start c.requires.ends.apart c.fix-edge.result edge.0
    (edge.1, c.is_crossed.ensures.0 c.if-is_crossed.true)

pub loop-outer-preserved : goal.loop-outer-preserved
loop-outer-preserved g c =
    along_goes_on _ _ (hull_left c.loop-outer.outer-iterator) c.loop-outer.invariant _ _
    c.in-Some.ensures.steps (unless (rw (c.fix-edge.ensures.value, c.rev.ensures.index) at
    c.is_crossed.ensures) c.if-is_crossed.false)

pub returns-in-Some-nearest_vertex : goal.returns-in-Some-nearest_vertex
returns-in-Some-nearest_vertex g c =
    let over = embedding_value c.embedding.view_is c.embedding.invariant in
    nearest_is_first over c.requires.start c.requires.ends.apart
    (none_entered _ _ over c.loop-outer.invariant c.in-None.ensures.steps.0)
    c.in-Some-nearest_vertex.vertex c.in-Some-nearest_vertex.ensures

pub returns-in-None-nearest_vertex : goal.returns-in-None-nearest_vertex
returns-in-None-nearest_vertex g c =
    let over = embedding_value c.embedding.view_is c.embedding.invariant in
    none_is_first over c.requires.start c.requires.ends.apart (none_entered _ _ over
    c.loop-outer.invariant c.in-None.ensures.steps.0) c.in-None-nearest_vertex.ensures
