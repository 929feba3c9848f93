use Rattle.std.proofs.Common.{◌∙◌, ap, arith, refl, sym}
use Rattle.{delaunay_legalization.proofs.both_ways, delaunay_ways.specs.label_at}
use Rattle.delaunay_legalization.proofs.Rounds.{next_starts, next_within, round_begins}
use Rattle.delaunay_ways.proofs.LabelRounds.{label_given, labels_ended, round_labels}
use Rattle.delaunay_ways.proofs.Spreading.{end_as, side_as}
use Rattle.delaunay_ways.proofs.labels.Labels.spread.Goals as goal

pub loop-edge-init : goal.loop-edge-init
loop-edge-init g c = (
  refl,
  c.requires.flood,
  λ u k is. is,
  omega arith,
  round_begins c.args.dcel.now c.args.vertex _ c.vertex.result.dcel _
      (ap (λ x. x.now) c.vertex.ensures.dcel) (rw c.vertex.ensures.dcel at
      c.out_edges-edge-items.ensures.whole).valid
      (rw (← c.into_iter-edge-iterator.ensures.into_iter_gives, c.vertex.ensures.index) at
      c.out_edges-edge-items.ensures.round),
)

pub directed_edge-side-requires : goal.directed_edge-side-requires
directed_edge-side-requires g c =
    let w = next_within _ _ _ _ c.loop-edge.invariant.4 _ _ c.in-Some.ensures.steps in
    let fit = c.requires.kept.fits.directed_fit in
    let is = c.fix.ensures.value in
    omega (arith, w, fit, is)

pub loop-edge-preserved-in-Continue-1 : goal.loop-edge-preserved-in-Continue-1
loop-edge-preserved-in-Continue-1 g c =
    let at = g.V.HasPosition.place in
    let free = g.G.FreeFaces.free c.args.free.now in
    let before = c.loop-edge.self in
    let after = c.give.new.self in
    let h = c.in-Some.edge.index in
    let w = next_within _ _ _ _ c.loop-edge.invariant.4 _ _ c.in-Some.ensures.steps in
    let starts = next_starts _ _ _ _ c.loop-edge.invariant.4 _ _ c.in-Some.ensures.steps in
    let is = c.directed_edge-side.ensures.index ∙ c.fix.ensures.value in
    let side = side_as c.directed_edge-side.result.dcel c.args.dcel free
    c.directed_edge-side.result.index h c.directed_edge-side.ensures.dcel is
    (c.is_side.ensures.0 c.if-is_side.true) in
    let end = end_as c.directed_edge-side.result.dcel c.args.dcel c.directed_edge-side.result.index
    h c.index.result c.directed_edge-side.ensures.dcel is
    (c.index.ensures ∙ c.to-to.ensures.index) in
    let gave = label_given at c.args.dcel.now c.requires.kept free c.args.vertex c.args.label
    before.labels.items after.labels.items before.left.items after.left.items h c.index.result w
    starts side end c.loop-edge.invariant.1
    (c.loop-edge.invariant.2 c.args.vertex c.args.label c.requires.here)
    c.in_ok-give.ensures.gives in (
      c.give.ensures.count ∙ c.loop-edge.invariant.0,
      gave.flood,
      λ u k it. gave.kept u k (c.loop-edge.invariant.2 u k it),
      (let less = gave.work in let so_far = c.loop-edge.invariant.3 in
          omega (arith, less, so_far)),
      round_labels at c.args.dcel.now c.requires.kept free c.args.vertex c.args.label
          before.labels.items after.labels.items gave.kept _ _ _ c.in-Some.ensures.steps
          c.loop-edge.invariant.4
          (λ s. ap (label_at after.labels.items) (sym end) ∙ gave.here),
    )

pub loop-edge-preserved : goal.loop-edge-preserved
loop-edge-preserved g c =
    let at = g.V.HasPosition.place in
    let free = g.G.FreeFaces.free c.args.free.now in
    let is = c.directed_edge-side.ensures.index ∙ c.fix.ensures.value in (
      c.loop-edge.invariant.0,
      c.loop-edge.invariant.1,
      c.loop-edge.invariant.2,
      c.loop-edge.invariant.3,
      round_labels at c.args.dcel.now c.requires.kept free c.args.vertex c.args.label
          c.loop-edge.self.labels.items c.loop-edge.self.labels.items (λ u k it. it) _ _ _
          c.in-Some.ensures.steps c.loop-edge.invariant.4 (λ s. absurd (both_ways _
          (c.is_side.ensures.1 (side_as c.args.dcel c.directed_edge-side.result.dcel free
          c.in-Some.edge.index c.directed_edge-side.result.index
          (sym c.directed_edge-side.ensures.dcel) (sym is) s)) c.if-is_side.false)),
    )

pub returns-clause-flood : goal.returns-clause-flood
returns-clause-flood g c =
    labels_ended g.V.HasPosition.place c.args.dcel.now c.requires.kept
    (g.G.FreeFaces.free c.args.free.now) c.args.vertex c.args.label
    c.loop-edge.self.labels.items c.loop-edge.self.left.items _ _ c.loop-edge.invariant.1
    (c.loop-edge.invariant.2 c.args.vertex c.args.label c.requires.here)
    c.loop-edge.invariant.4 c.in-None.ensures.steps.0
