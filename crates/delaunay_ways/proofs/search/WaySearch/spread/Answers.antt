use Rattle.std.proofs.Common.{◌≡◌, ◌∙◌, length, ap, arith, refl, sym}
use Rattle.std.specs.BinaryHeap.{heap_items}
use Rattle.delaunay_legalization.proofs.{both_ways}
use Rattle.delaunay_legalization.proofs.Rounds.{next_starts, next_within, round_begins}
use Rattle.delaunay_ways.proofs.Spreading.{end_as, round_adds, round_passes, side_as, spread_adds}
use Rattle.delaunay_ways.proofs.Spreading.{spread_begins, spread_ends}
use Rattle.delaunay_ways.proofs.search.WaySearch.spread.Goals as goal

pub loop-edge-init : goal.loop-edge-init
loop-edge-init g c = (
  refl,
  refl,
  spread_begins g.V.HasPosition.place c.args.dcel.now c.requires.kept
      (g.G.FreeFaces.free c.args.free.now) c.args.vertex (length c.args.self.now.steps.items)
      (heap_items c.args.self.now.leads),
  round_begins c.args.dcel.now c.args.vertex _ c.vertex-2.result.dcel _
      (ap (λ x. x.now) c.vertex-2.ensures.dcel) (rw c.vertex-2.ensures.dcel at
      c.out_edges-edge-items.ensures.whole).valid
      (rw (← c.into_iter-edge-iterator.ensures.into_iter_gives, c.vertex-2.ensures.index) at
      c.out_edges-edge-items.ensures.round),
)

pub directed_edge-side-requires : goal.directed_edge-side-requires
directed_edge-side-requires g c =
    let w = next_within _ _ _ _ c.loop-edge.invariant.3 _ _ c.in-Some.ensures.steps in
    let fit = c.requires.kept.fits.directed_fit in
    let is = c.fix.ensures.value in
    omega (arith, w, fit, is)

pub loop-edge-preserved-in-Continue-1 : goal.loop-edge-preserved-in-Continue-1
loop-edge-preserved-in-Continue-1 g c =
    let at = g.V.HasPosition.place in
    let free = g.G.FreeFaces.free c.args.free.now in
    let leads = heap_items c.loop-edge.self.leads in
    let leads' = heap_items c.add.new.self.leads in
    let x = c.new.result in
    let h = c.in-Some.edge.index in
    let w = next_within _ _ _ _ c.loop-edge.invariant.3 _ _ c.in-Some.ensures.steps in
    let starts = next_starts _ _ _ _ c.loop-edge.invariant.3 _ _ c.in-Some.ensures.steps in
    let is = c.directed_edge-side.ensures.index ∙ c.fix.ensures.value in
    let side = side_as c.directed_edge-side.result.dcel c.args.dcel free
    c.directed_edge-side.result.index h c.directed_edge-side.ensures.dcel is
    (c.is_side.ensures.0 c.if-is_side.true) in
    let end = end_as c.directed_edge-side.result.dcel c.args.dcel c.directed_edge-side.result.index
    h x.vertex c.directed_edge-side.ensures.dcel is
    (c.new.ensures.vertex ∙ c.index.ensures ∙ c.to-to.ensures.index) in
    let before : x.before ≡ length c.args.self.now.steps.items =
    let b = c.new.ensures.before in let n = c.len-before.ensures in
    let fits = c.args.self.now.steps.ok.0 in omega (arith, b, n, fits) in (
      c.add.ensures.marks ∙ c.loop-edge.invariant.0,
      c.add.ensures.steps ∙ c.loop-edge.invariant.1,
      spread_adds at c.args.dcel.now c.requires.kept free c.args.vertex
          (length c.args.self.now.steps.items) (heap_items c.args.self.now.leads) leads leads' x
          c.in_ok-add.ensures.lead c.loop-edge.invariant.2 h w starts side end before,
      round_adds at c.args.dcel.now c.requires.kept free c.args.vertex
          (length c.args.self.now.steps.items) (heap_items c.args.self.now.leads) leads leads' x
          c.in_ok-add.ensures.lead _ _ _ c.in-Some.ensures.steps c.loop-edge.invariant.3 end,
    )

pub loop-edge-preserved : goal.loop-edge-preserved
loop-edge-preserved g c =
    let at = g.V.HasPosition.place in
    let free = g.G.FreeFaces.free c.args.free.now in
    let is = c.directed_edge-side.ensures.index ∙ c.fix.ensures.value in (
      c.loop-edge.invariant.0,
      c.loop-edge.invariant.1,
      c.loop-edge.invariant.2,
      round_passes at c.args.dcel.now c.requires.kept free c.args.vertex
          (length c.args.self.now.steps.items) (heap_items c.args.self.now.leads)
          (heap_items c.loop-edge.self.leads) _ _ _ c.in-Some.ensures.steps
          c.loop-edge.invariant.3 (λ s. both_ways _ (c.is_side.ensures.1
          (side_as c.args.dcel c.directed_edge-side.result.dcel free c.in-Some.edge.index
          c.directed_edge-side.result.index (sym c.directed_edge-side.ensures.dcel) (sym is) s))
          c.if-is_side.false),
    )

pub returns-clause-leads : goal.returns-clause-leads
returns-clause-leads g c =
    spread_ends g.V.HasPosition.place c.args.dcel.now c.requires.kept
    (g.G.FreeFaces.free c.args.free.now) c.args.vertex (length c.args.self.now.steps.items)
    (heap_items c.args.self.now.leads) (heap_items c.loop-edge.self.leads) _
    c.loop-edge.invariant.2 c.loop-edge.invariant.3 c.in-None.ensures.steps.0
