use Rattle.std.proofs.Common.{ap, ◌∙◌, arith}
use Rattle.delaunay_legalization.proofs.{both_ways}
use Rattle.delaunay_legalization.proofs.Rounds.{next_starts, next_within, round_begins, round_ends}
use Rattle.{delaunay_legalization.proofs.Rounds.round_goes_on, half_edge_links.specs.origin}
use Rattle.delaunay_shapes.proofs.Crossed.{false_tells, true_tells}
use Rattle.delaunay_shapes.proofs.edges.is_free_round.Goals as goal

pub loop-edge-init : goal.loop-edge-init
loop-edge-init g c = round_begins c.args.dcel.now c.args.vertex _ c.vertex.result.dcel _
    (ap (λ x. x.now) c.vertex.ensures.dcel) (rw c.vertex.ensures.dcel at
    c.out_edges-edge-items.ensures.whole).valid
    (rw (← c.into_iter-edge-iterator.ensures.into_iter_gives, c.vertex.ensures.index) at
    c.out_edges-edge-items.ensures.round)

pub is_free_beside-requires : goal.is_free_beside-requires
is_free_beside-requires g c =
    let w = next_within _ _ _ _ c.loop-edge.invariant _ _ c.in-Some.ensures.steps in
    let whole = rw c.vertex.ensures.dcel at c.out_edges-edge-items.ensures.whole in
    let fit = whole.fits.directed_fit in
    let is = c.fix-edge.ensures.value in
    omega (arith, w, fit, is)

pub loop-edge-preserved : goal.loop-edge-preserved
loop-edge-preserved g c =
    round_goes_on _ _ _ _ c.loop-edge.invariant _ _ c.in-Some.ensures.steps (λ x. both_ways _
    (c.is_free_beside.ensures.1 (rw c.fix-edge.ensures.value x)) c.if-is_free_beside.false)

pub returns : goal.returns
returns g c = false_tells
    (λ r. round_ends _ _ _ _ c.loop-edge.invariant c.in-None.ensures.steps.0 r.0 r.1 r.2 r.3)

pub returns-then-is_free_beside : goal.returns-then-is_free_beside
returns-then-is_free_beside g c =
    let o = next_starts _ _ _ _ c.loop-edge.invariant _ _ c.in-Some.ensures.steps in
    let w = next_within _ _ _ _ c.loop-edge.invariant _ _ c.in-Some.ensures.steps in
    let is = c.fix-edge.ensures.value in true_tells (
      c.fix-edge.result,
      omega (arith, w, is),
      ap (origin c.args.dcel.now.mesh) is ∙ o,
      c.is_free_beside.ensures.0 c.if-is_free_beside.true,
    )
