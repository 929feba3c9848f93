use Rattle.delaunay_edit.proofs.Vertices.{here_if_on_vertex, unknown_elsewhere}
use Rattle.delaunay_interface.proofs.triangulation.Triangulation.locate_vertex.Goals as goal

pub returns-in-OnVertex : goal.returns-in-OnVertex
returns-in-OnVertex g c =
    let here =
    here_if_on_vertex _ (g.Self.Triangulation.state c.args.self.now) _ c.in-OnVertex.vertex
    c.in-OnVertex.ensures.location in
    rw c.vertex.ensures.index (c.vertex.ensures.state, here.0, here.1)

pub returns-in_default : goal.returns-in_default
returns-in_default g c = unknown_elsewhere _ _ c.recall_invariant.ensures.kept _ c.locate.result
    c.locate.ensures.location c.in_default.not-OnVertex
