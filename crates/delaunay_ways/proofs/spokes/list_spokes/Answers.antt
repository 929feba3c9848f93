use Rattle.std.proofs.Common.{◌<◌, ap, arith, length, subst, sym}
use Rattle.std.specs.Prelude.{All}
use Rattle.std.proofs.lemmas.List.Elements.{All-nil, All-push}
use Rattle.delaunay_legalization.proofs.Rounds.{next_within, round_begins, round_goes_on}
use Rattle.delaunay_ways.proofs.spokes.list_spokes.Goals as goal

pub loop-edge-init : goal.loop-edge-init
loop-edge-init g c = (
  subst (All (λ h. h < length c.args.dcel.now.directed)) (sym c.new-spokes.ensures.items)
      (All-nil (λ h. h < length c.args.dcel.now.directed)),
  round_begins c.args.dcel.now c.args.vertex _ c.vertex.result.dcel _
      (ap (λ x. x.now) c.vertex.ensures.dcel) (rw c.vertex.ensures.dcel at
      c.out_edges-edge-items.ensures.whole).valid
      (rw (← c.into_iter-edge-iterator.ensures.into_iter_gives, c.vertex.ensures.index) at
      c.out_edges-edge-items.ensures.round),
)

pub loop-edge-preserved : goal.loop-edge-preserved
loop-edge-preserved g c =
    let w = next_within _ _ _ _ c.loop-edge.invariant.1 _ _ c.in-Some.ensures.steps in
    let fit = (rw c.vertex.ensures.dcel at c.out_edges-edge-items.ensures.whole).fits.directed_fit in
    let is = c.fix.ensures.value in (
      rw c.in_ok-push.ensures.items (All-push (λ h. h < length c.args.dcel.now.directed)
          c.loop-edge.spokes.items c.fix.result c.loop-edge.invariant.0
          (omega (arith, w, fit, is))),
      round_goes_on _ _ _ _ c.loop-edge.invariant.1 _ _ c.in-Some.ensures.steps w,
    )
