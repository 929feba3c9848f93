use Rattle.std.proofs.Common.{◌≡◌, ◌∙◌, ◌<◌, ◌+◌, ℕ, List, length, get_or, sym, subst, arith}
use Rattle.std.proofs.lemmas.List.{get_or_default}
use Rattle.{c_calls.specs.Layers.IsLayerAt, half_edge_links.specs.Mesh}
use Rattle.{c_calls.proofs.Writing.one_more, delaunay_extensions.specs.AreLayers}
use Rattle.c_calls.proofs.layers.ListLayersQuery.ask.Goals as goal

-- the layer at a place that leaves out the outer face
layer_at : (m : Mesh) (marked layers : List ℕ) → AreLayers m marked layers → (i : ℕ)
    → i < length m.face_edges → IsLayerAt m marked i (get_or layers (i + 1) 0)
layer_at m marked layers are i below =
    let size = are.count in are.each (i + 1) (omega (arith, size, below))

pub loop-index-preserved : goal.loop-index-preserved
loop-index-preserved g c =
    let s = g.T.Triangulation.state c.args.points.now in
    let marked = g.T.Constraints.ConstraintMarker.constraints s.undirected in
    let room = c.loop-index.auto.layers in
    let count = c.num_inner_faces-count.ensures.values in
    let fit = c.recall_invariant.ensures.kept.fits.faces_fit in
    let below = c.loop-index-test.true in
    let layers = c.in-Ok.found.items in
    let index = c.loop-index.index in
    let within : index < length s.mesh.face_edges = omega (arith, count, fit, below) in
    let value : get_or layers (index + 1) 0 ≡ c.index.result.now =
    get_or_default layers (index + 1) 0 c.index.result.now (omega (
      arith,
      c.in-Ok.ensures.count,
      count,
      fit,
      below,
    )) ∙ sym c.index.ensures in
    one_more _ index c.args.layers.now c.loop-index.layers c.index.result.now (omega (arith, room))
    c.loop-index.invariant (subst (λ (n : ℕ). IsLayerAt s.mesh marked index n) value
    (layer_at s.mesh marked layers c.in-Ok.ensures index within))
