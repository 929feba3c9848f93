use Rattle.std.proofs.Common.{◌<◌, ◌≡◌, ◌∙◌, length, arith, ap, sym, subst}
use Rattle.{delaunay_extensions.specs.PutsIn, half_edge_links.specs.face}
use Rattle.delaunay_extensions.proofs.Searching.{puts_more, puts_no_more, puts_none}
use Rattle.delaunay_extensions.proofs.search.LayerSearch.list_outer_edges.Goals as goal
use goal.{else-is_outer_edge, then-is_outer_edge+in_ok-list}

pub loop-index-init : goal.loop-index-init
loop-index-init g c = puts_none c.args.dcel.now.mesh

pub loop-index-preserved : goal.loop-index-preserved
loop-index-preserved g c =
    let at = ap (λ d. face d.now.mesh c.directed_edge.result.index) c.directed_edge.ensures.dcel
    ∙ ap (face c.args.dcel.now.mesh) c.directed_edge.ensures.index in
    elim c.if-is_outer_edge.branch [
      | then-is_outer_edge+in_ok-list w ↦ rw w.self-is (puts_more c.args.dcel.now.mesh
          c.loop-index.invariant c.from_index-edge.ensures (record {
            lists = w.in_ok-list.ensures.lists;
            layers = w.list.ensures.layers;
            layer = w.list.ensures.layer;
          }) (sym at ∙ c.is_outer_edge.ensures.0 w.if-is_outer_edge.true))
      | else-is_outer_edge w ↦ rw w.self-is (puts_no_more c.args.dcel.now.mesh
          c.loop-index.invariant c.from_index-edge.ensures (λ e. let on =
          c.is_outer_edge.ensures.1 (at ∙ e) in let off = w.if-is_outer_edge.false in absurd (cc)))
    ]

pub returns : goal.returns
returns g c =
    let fits = c.num_directed_edges-index-end.ensures.whole.fits.directed_fit in
    let value = c.num_directed_edges-index-end.ensures.value in
    let all : c.loop-index.index ≡ length c.args.dcel.now.mesh.half_edges =
    omega (arith, fits, value, c.loop-index.auto.index-end, c.loop-index-test.false) in
    subst (λ n. PutsIn (g.M.ConstraintMarker.constraints c.args.dcel.now.undirected)
    (λ h. (h < n) × (face c.args.dcel.now.mesh h ≡ 0)) c.args.self.now c.loop-index.self) all
    c.loop-index.invariant
