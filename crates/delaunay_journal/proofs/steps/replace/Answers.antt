use Rattle.std.proofs.Common.{◌∙◌, map, refl, ap, arith}
use Rattle.{delaunay_edit.proofs.Overwriting.same_places, delaunay_legalization.proofs.both_ways}
use Rattle.delaunay_journal.proofs.SingleEdits.{position_same, same_position}
use Rattle.delaunay_journal.proofs.steps.replace.Goals as goal

pub returns-then-index-num_vertices-clause-gives : goal.returns-then-index-num_vertices-clause-gives
returns-then-index-num_vertices-clause-gives g c =
    let past = c.if-index-num_vertices.true in
    (omega (arith, past, c.index.ensures, c.num_vertices.ensures.value), refl)

pub returns-then-not-is_same-clause-gives : goal.returns-then-not-is_same-clause-gives
returns-then-not-is_same-clause-gives g c =
    let same = position_same g.T.Vertex.HasPosition.place
    (g.T.Triangulation.state c.args.points.now).vertices c.args.value
    c.vertex_position-here.ensures c.vertex.ensures.index c.position.ensures in (
      (
        omega (arith, c.if-index-num_vertices.false, c.index.ensures, c.num_vertices.ensures.value),
        (λ e. both_ways _ (c.is_same.ensures.1 (same e)) c.if-not-is_same.true),
      ),
      refl,
    )

pub returns-clause-gives : goal.returns-clause-gives
returns-clause-gives g c =
    let replaced = c.replace_vertex.ensures in
    record { had = replaced.value; plain = replaced.plain; rest = replaced.new }

pub returns-clause-places : goal.returns-clause-places
returns-clause-places g c =
    let place = g.T.Vertex.HasPosition.place in
    let was = (g.T.Triangulation.state c.args.points.now).vertices in
    ap (λ s. map place s.vertices) c.replace_vertex.ensures.new
    ∙ same_places place was c.args.vertex c.args.value (same_position place was c.args.value
    c.vertex_position-here.ensures c.vertex.ensures.index c.position.ensures
    (c.is_same.ensures.0 c.if-not-is_same.false))
