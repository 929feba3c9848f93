use Rattle.std.proofs.Common.{ℕ, ◌*◌, ◌∙◌, ap, arith}
use Rattle.half_edge_links.specs.{rev}
use Rattle.delaunay_shapes.proofs.{FirstEdges.on_ok, VertexFlood.ends_kept}
use Rattle.delaunay_shapes.proofs.shape_search.ShapeSearch.keep_ends.Goals as goal

pub undirected_edge-requires : goal.undirected_edge-requires
undirected_edge-requires g c =
    let fits = c.self-inside.invariant.kept.fits in
    let within = rw (← c.self.view_is, ← c.self-inside.view_is) at c.requires in
    omega (arith, within, fits.directed_fit, fits.undirected_fit, c.as_undirected.ensures)

pub returns : goal.returns
returns g c =
    let half = c.undirected_edge.ensures.index ∙ c.as_undirected.ensures in
    let way = c.as_directed-edge.ensures.index ∙ ap (λ (k : ℕ). 2 * k) half in
    on_ok c.keep_start-2.result
    (λ to. ends_kept _ c.args.self.now.dcel.mesh _ _ _ c.args.edge _ _
    (c.fix.ensures.value ∙ way) (c.fix-2.ensures.value ∙ c.rev.ensures.index ∙ ap rev way)
    c.in_ok-keep_start.ensures to)
    c.keep_start-2.ensures
