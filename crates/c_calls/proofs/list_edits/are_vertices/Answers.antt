use Rattle.std.proofs.Common.{◌<◌, length}
use Rattle.std.proofs.lemmas.List.Elements.{All-more}
use Rattle.c_calls.proofs.list_edits.are_vertices.Goals as goal

pub loop-index-preserved : goal.loop-index-preserved
loop-index-preserved g c =
    All-more (λ i. i < length (g.T.Triangulation.state c.args.points.now).vertices)
    c.args.indexes.now c.loop-index.index 0 c.loop-index-test.true c.loop-index.invariant
    (c.is_vertex.ensures.0 c.if-not-is_vertex.false)
