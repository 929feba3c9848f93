use Rattle.std.proofs.Common.{◌∙◌, ◌<◌, inl, inr, arith, sym, subst}
use Rattle.drawing_faces.specs.PolygonSearch.{IsClosedAt}
use Rattle.drawing_faces.proofs.PolygonSearching.{below_last}
use Rattle.drawing_faces.proofs.polygons.PolygonsOfFaces.open_edge.Goals as goal

pub loop-index-preserved : goal.loop-index-preserved
loop-index-preserved g c h w = elim (below_last c.loop-index.index h w) [
  | inl less ↦ c.loop-index.invariant h less
  | inr last ↦ subst (IsClosedAt c.args.dcel.now.mesh c.args.self.now.labels.items)
      (c.from_index-edge.ensures ∙ sym last)
      (c.is_open.ensures.closed c.if-is_open.false)
]

pub returns-clause-closed : goal.returns-clause-closed
returns-clause-closed g c h w =
    let fits = c.num_directed_edges-index-end.ensures.whole.fits.directed_fit in
    let value = c.num_directed_edges-index-end.ensures.value in
    let last = c.loop-index-test.false in
    let below : h < c.loop-index.index =
    omega (arith, fits, value, c.loop-index.auto.index-end, last, w) in
    c.loop-index.invariant h below
