use Rattle.std.proofs.Common.{◌∙◌, ◌≡◌, ◌<◌, inl, inr, arith, sym, subst}
use Rattle.drawing_faces.specs.{lists_in, PolygonSearch.AreEvenAt, sides_in}
use Rattle.drawing_faces.proofs.PolygonSearching.{below_last}
use Rattle.drawing_faces.proofs.polygons.PolygonsOfFaces.is_even.Goals as goal

pub loop-index-preserved : goal.loop-index-preserved
loop-index-preserved g c h w = elim (below_last c.loop-index.index h w) [
  | inl less ↦ c.loop-index.invariant h less
  | inr last ↦ subst (AreEvenAt c.args.dcel.now.mesh (sides_in c.args.borders.now)
      c.args.self.now.labels.items (lists_in c.args.self.now))
      (c.from_index-edge.ensures ∙ sym last)
      (c.fits_across.ensures.fits c.if-not-fits_across.false)
]

pub returns-clause-even : goal.returns-clause-even
returns-clause-even g c e h w =
    let fits = c.num_directed_edges-index-end.ensures.whole.fits.directed_fit in
    let value = c.num_directed_edges-index-end.ensures.value in
    let last = c.loop-index-test.false in
    let below : h < c.loop-index.index =
    omega (arith, fits, value, c.loop-index.auto.index-end, last, w) in
    c.loop-index.invariant h below
