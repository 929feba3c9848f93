use Rattle.std.proofs.Common.{sym, ◌∙◌, arith}
use Rattle.half_edge_links.proofs.{rev-rev}
use Rattle.delaunay_vertices.proofs.BothRounds.{looking_begins, looking_goes_on, none_back}
use Rattle.delaunay_vertices.proofs.BothRounds.{none_of_all, none_when_back, starts_there}
use Rattle.delaunay_vertices.proofs.joining_edge.find_edge_between.Goals as goal

pub loop-i-init : goal.loop-i-init
loop-i-init g c =
    let whole = c.num_vertices-vertices.ensures.whole in
    record {
      outward = looking_begins whole c.in_ok-first.ensures.within
          c.in_ok-first.ensures.starts;
      inward = looking_begins whole c.in_ok-second.ensures.within
          c.in_ok-second.ensures.starts;
    }

pub returns-then-index-clause-starts : goal.returns-then-index-clause-starts
returns-then-index-clause-starts g c = starts_there c.loop-i.invariant.outward

pub returns-then-index-2-clause-ends : goal.returns-then-index-2-clause-ends
returns-then-index-2-clause-ends g c =
    rw (c.rev.ensures, rev-rev) (starts_there c.loop-i.invariant.inward)

pub returns-then-index-3-clause-none : goal.returns-then-index-3-clause-none
returns-then-index-3-clause-none g c =
    let after = c.ccw_edge-forward.ensures in
    none_when_back (looking_goes_on c.loop-i.invariant.outward
    (λ e. c.if-index.false (c.index-in-loop-i.ensures ∙ c.vertex_at_end.ensures ∙ e
    ∙ sym c.index-in-loop-i-2.ensures)) after.within after.value) (omega arith)
    (sym c.index-in-loop-i-5.ensures ∙ c.if-index-3.true ∙ c.index-in-loop-i-6.ensures)

pub returns-then-index-4-clause-none : goal.returns-then-index-4-clause-none
returns-then-index-4-clause-none g c =
    let inward = c.loop-i.invariant.inward in
    let after = c.ccw_edge-backward.ensures in
    none_back inward.valid (none_when_back (looking_goes_on inward
    (λ e. c.if-index-2.false (c.index-in-loop-i-3.ensures ∙ c.vertex_at_end-in-loop-i.ensures ∙ e
    ∙ sym c.index-in-loop-i-4.ensures)) after.within after.value) (omega arith)
    (sym c.index-in-loop-i-7.ensures ∙ c.if-index-4.true ∙ c.index-in-loop-i-8.ensures))

pub loop-i-preserved : goal.loop-i-preserved
loop-i-preserved g c =
    let forward = c.ccw_edge-forward.ensures in
    let backward = c.ccw_edge-backward.ensures in
    record {
      outward = looking_goes_on c.loop-i.invariant.outward
          (λ e. c.if-index.false (c.index-in-loop-i.ensures ∙ c.vertex_at_end.ensures ∙ e
          ∙ sym c.index-in-loop-i-2.ensures)) forward.within forward.value;
      inward = looking_goes_on c.loop-i.invariant.inward
          (λ e. c.if-index-2.false (c.index-in-loop-i-3.ensures
          ∙ c.vertex_at_end-in-loop-i.ensures ∙ e ∙ sym c.index-in-loop-i-4.ensures))
          backward.within backward.value;
    }

pub returns-clause-none : goal.returns-clause-none
returns-clause-none g c =
    let all = c.num_directed_edges-i-end.ensures.value in
    let past = c.loop-i-test.false in
    none_of_all c.loop-i.invariant.outward (omega (arith, all, past))
