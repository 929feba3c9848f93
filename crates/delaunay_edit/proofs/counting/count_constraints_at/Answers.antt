use Rattle.std.proofs.Common.{ap}
use Rattle.{delaunay_legalization.proofs.both_ways, half_edge_dcel.specs.out_edges_left}
use Rattle.delaunay_edit.proofs.CountingAt.{counting_begins, counting_ends, counting_goes_on}
use Rattle.delaunay_edit.proofs.CountingAt.{counting_goes_past, next_within}
use Rattle.delaunay_edit.proofs.CountingWalk.{half_listed, half_unlisted}
use Rattle.delaunay_edit.proofs.counting.count_constraints_at.Goals as goal

pub loop-edge-init : goal.loop-edge-init
loop-edge-init g c =
    counting_begins _ _ _ g.met.M.ConstraintMarker.constraints_are_marked _ c.requires.kept
    c.args.vertex c.vertex.result.dcel (out_edges_left c.into_iter-edge-iterator.result)
    (ap (λ x. x.now) c.vertex.ensures.dcel)
    (rw c.into_iter-edge-iterator.ensures.into_iter_gives
    (rw c.vertex.ensures.index at c.out_edges-edge-items.ensures.round))

pub is_constraint_edge-requires : goal.is_constraint_edge-requires
is_constraint_edge-requires g c =
    next_within c.loop-edge.invariant c.in-Some.ensures.steps c.fix.ensures.value
    c.as_undirected.ensures

pub loop-edge-preserved-then-is_constraint_edge : goal.loop-edge-preserved-then-is_constraint_edge
loop-edge-preserved-then-is_constraint_edge g c =
    counting_goes_on c.loop-edge.invariant c.in-Some.ensures.steps
    (half_listed _ _ _ _ c.fix.ensures.value c.as_undirected.ensures
    (c.is_constraint_edge.ensures.0 c.if-is_constraint_edge.true))

pub loop-edge-preserved : goal.loop-edge-preserved
loop-edge-preserved g c =
    counting_goes_past c.loop-edge.invariant c.in-Some.ensures.steps
    (λ there. both_ways _ (c.is_constraint_edge.ensures.1 (half_unlisted _ _ _ _
    c.fix.ensures.value c.as_undirected.ensures there)) c.if-is_constraint_edge.false)

pub returns : goal.returns
returns g c = counting_ends c.loop-edge.invariant c.in-None.ensures.steps.0
