use Rattle.std.proofs.Common.{ℕ, ◌/◌, ◌∙◌, ap, sym, subst, arith}
use Rattle.std.proofs.lemmas.Grind.{common_steps}
use Rattle.half_edge_links.specs.{face_edge, next, prev}
use Rattle.{delaunay_shapes.proofs.FirstEdges.three_sides, delaunay_shapes.specs.HasSides}
use Rattle.delaunay_shapes.proofs.flood_start.sides_of_face.Goals as goal

pub returns-clause-starts : goal.returns-clause-starts
returns-clause-starts g c =
    let m = c.args.dcel.now.mesh in
    let half = λ (h : ℕ). h / 2 in
    let same = c.adjacent_edge-edge.ensures.dcel ∙ c.face.ensures.dcel in
    let index = c.adjacent_edge-edge.ensures.index
    ∙ (λ t. face_edge (c.face.ensures.dcel t).now.mesh (c.face.ensures.index t)) in
    let first = c.fix-first.ensures.value ∙ c.as_undirected.ensures.index ∙ ap half index in
    let second = c.fix-second.ensures.value ∙ c.as_undirected-2.ensures.index
    ∙ ap half (c.next.ensures.index ∙ (λ t. next (same t).now.mesh (index t))) in
    let third = c.fix-third.ensures.value ∙ c.as_undirected-3.ensures.index
    ∙ ap half (c.prev.ensures.index ∙ (λ t. prev (same t).now.mesh (index t))) in
    subst (λ starts. HasSides m starts (face_edge m c.args.face)) (sym c.in_ok-starts.ensures.items)
    (three_sides m (face_edge m c.args.face) c.fix-first.result c.fix-second.result
    c.fix-third.result first second
    third)

pub returns-clause-within : goal.returns-clause-within
returns-clause-within g c = grind (arith, common_steps)
