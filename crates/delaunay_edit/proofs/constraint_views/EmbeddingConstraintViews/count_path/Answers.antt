use Rattle.std.proofs.Common.{◌≡◌, ap, rules}
use Rattle.delaunay_location.specs.{item_in}
use Rattle.delaunay_edit.proofs.CountingWalk.{counting_along, counting_crosses, counting_goes_on}
use Rattle.delaunay_edit.proofs.CountingWalk.{counting_goes_past, counting_path_begins}
use Rattle.delaunay_edit.proofs.CountingWalk.{counting_stays, crossed_half_in, crossed_item}
use Rattle.delaunay_edit.proofs.CountingWalk.{crossed_within, half_listed, half_unlisted}
use Rattle.delaunay_edit.proofs.CountingWalk.{path_counted, path_is_barred, path_is_free}
use Rattle.{delaunay_edit.proofs.CountingWalk.vertex_item, delaunay_legalization.proofs.both_ways}
use Rattle.delaunay_edit.proofs.constraint_views.EmbeddingConstraintViews.count_path.Goals as goal

pub loop-item-init : goal.loop-item-init
loop-item-init g c =
    let line = c.line_between_vertices-line.ensures in
    counting_path_begins _ _ _ _ _ _ _ c.requires.ends.0 c.requires.ends.1 c.requires.apart
    line.ready line.line

pub is_constraint_edge-requires : goal.is_constraint_edge-requires
is_constraint_edge-requires g c = rw (ap (λ s. s.dcel) c.self.view_is)
    (crossed_half_in _ _ _ _ _ _ _ c.loop-item.invariant c.in-Some.ensures.steps _
    (crossed_within _ _ c.in-EdgeIntersection.is c.in-EdgeIntersection.edge.in_range)
    c.fix.ensures.value c.as_undirected.ensures)

pub returns-then-is_constraint_edge-clause-barred :
    goal.returns-then-is_constraint_edge-clause-barred
returns-then-is_constraint_edge-clause-barred g c =
    let is = rw (ap (λ s. s.dcel) c.self.view_is) at c.is_constraint_edge.ensures in
    path_is_barred _ _ _ _ _ _ _ c.loop-item.invariant c.in-Some.ensures.steps
    c.in-EdgeIntersection.edge.index (crossed_item _ _ c.in-EdgeIntersection.is)
    (half_listed _ _ _ _ c.fix.ensures.value c.as_undirected.ensures
    (is.0 c.if-is_constraint_edge.true))

pub loop-item-preserved-else-is_constraint_edge : goal.loop-item-preserved-else-is_constraint_edge
loop-item-preserved-else-is_constraint_edge g c =
    let is = rw (ap (λ s. s.dcel) c.self.view_is) at c.is_constraint_edge.ensures in
    counting_crosses _ _ _ _ _ _ _ c.loop-item.invariant c.in-Some.ensures.steps
    c.in-Some.ensures.goes.keeps c.in-EdgeIntersection.edge.index
    (crossed_within _ _ c.in-EdgeIntersection.is c.in-EdgeIntersection.edge.in_range)
    (crossed_item _ _ c.in-EdgeIntersection.is)
    (λ listed. both_ways _ (is.1 (half_unlisted _ _ _ _ c.fix.ensures.value
    c.as_undirected.ensures listed)) c.if-is_constraint_edge.false)

pub loop-item-preserved-then-not-is_constraint_between :
    goal.loop-item-preserved-then-not-is_constraint_between
loop-item-preserved-then-not-is_constraint_between g c =
    let joined = rw (ap (λ s. s.dcel) c.self.view_is) at c.is_constraint_between.ensures in
    counting_goes_on _ _ _ _ _ _ _ c.loop-item.invariant c.in-Some.ensures.steps _
    (vertex_item _ _ c.in-VertexIntersection.is _ c.fix-next.ensures.value)
    (search (rules, c.ne.ensures, c.if-ne.true))
    c.in-Some.ensures.goes.keeps
    (λ j. both_ways _ (joined.1 j) c.if-not-is_constraint_between.true)

pub loop-item-preserved-else-not-is_constraint_between :
    goal.loop-item-preserved-else-not-is_constraint_between
loop-item-preserved-else-not-is_constraint_between g c =
    let joined = rw (ap (λ s. s.dcel) c.self.view_is) at c.is_constraint_between.ensures in
    counting_goes_past _ _ _ _ _ _ _ c.loop-item.invariant c.in-Some.ensures.steps _
    (vertex_item _ _ c.in-VertexIntersection.is _ c.fix-next.ensures.value)
    (search (rules, c.ne.ensures, c.if-ne.true))
    c.in-Some.ensures.goes.keeps
    (joined.0 c.if-not-is_constraint_between.false)

pub loop-item-preserved-else-ne : goal.loop-item-preserved-else-ne
loop-item-preserved-else-ne g c =
    let same : c.fix-next.result ≡ c.loop-item.at = search (rules, c.ne.ensures, c.if-ne.false) in
    counting_stays _ _ _ _ _ _ _ c.loop-item.invariant c.in-Some.ensures.steps
    c.in-Some.ensures.goes.keeps (rw same at (vertex_item c.in-Some.item
    c.in-VertexIntersection.vertex c.in-VertexIntersection.is c.fix-next.result
    c.fix-next.ensures.value))

pub loop-item-preserved : goal.loop-item-preserved
loop-item-preserved g c =
    counting_along _ _ _ _ _ _ _ c.loop-item.invariant c.in-Some.ensures.steps
    c.in-Some.ensures.goes.keeps _ _ (ap item_in c.in-EdgeOverlap.is)

pub returns : goal.returns
returns g c = record {
  barred = tt;
  free = path_is_free _ _ _ _ _ _ _ c.loop-item.invariant c.in_default.ensures.steps;
  missing = path_counted _ _ _ _ _ _ _ c.loop-item.invariant c.in_default.ensures.steps;
}
