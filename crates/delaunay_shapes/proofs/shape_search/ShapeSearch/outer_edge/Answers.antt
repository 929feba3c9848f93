use Rattle.std.proofs.Common.{arith}
use Rattle.delaunay_legalization.proofs.{along_ends, along_goes_on, along_next, both_ways}
use Rattle.delaunay_legalization.proofs.{one_outline, OutlineGiven.along_begins}
use Rattle.{delaunay_shapes.proofs.Searches.search_of, half_edge_dcel.specs.hull_left}
use Rattle.delaunay_shapes.proofs.shape_search.ShapeSearch.outer_edge.Goals as goal

pub loop-edge-init : goal.loop-edge-init
loop-edge-init g c =
    let kept = c.embedding.invariant.kept in
    rw (← c.self.view_is, ← c.embedding.view_is) (along_begins c.embedding.inside.dcel
    (hull_left c.into_iter-edge-iterator.result) _ kept.valid
    (one_outline _ _ kept.valid kept.shape)
    (rw c.into_iter-edge-iterator.ensures.into_iter_gives c.convex_hull-edge-items.ensures))

pub has_edge-requires : goal.has_edge-requires
has_edge-requires g c =
    let o = along_next c.args.self.now.dcel.mesh _ _ c.loop-edge.invariant _ _
    c.in-Some.ensures.steps in
    let fits = (search_of c.self.view_is c.self.invariant).kept.fits in
    let is = c.fix-edge.ensures.value in
    omega (arith, o.0, fits.directed_fit, fits.undirected_fit, is, c.as_undirected.ensures)

pub loop-edge-preserved : goal.loop-edge-preserved
loop-edge-preserved g c =
    along_goes_on _ _ _ c.loop-edge.invariant _ _ c.in-Some.ensures.steps
    (λ x. both_ways _ (c.has_edge.ensures.1
    (rw (c.as_undirected.ensures, c.fix-edge.ensures.value) x)) c.if-has_edge.false)

pub returns-then-has_edge-clause-some : goal.returns-then-has_edge-clause-some
returns-then-has_edge-clause-some g c =
    let o = along_next c.args.self.now.dcel.mesh _ _ c.loop-edge.invariant _ _
    c.in-Some.ensures.steps in
    let fits = (search_of c.self.view_is c.self.invariant).kept.fits in (
      omega (arith, o.0, fits.directed_fit, c.fix-edge.ensures.value),
      rw c.as_undirected.ensures at c.has_edge.ensures.0 c.if-has_edge.true,
    )

pub returns-clause-none : goal.returns-clause-none
returns-clause-none g c h within outer =
    along_ends _ _ _ c.loop-edge.invariant c.in-None.ensures.steps.0 h (within, outer)
