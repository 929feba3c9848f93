use Rattle.std.proofs.Common.{sym, ◌∙◌}
use Rattle.half_edge_mesh.proofs.voronoi.VoronoiVertex.out_edges.Goals as goal

pub returns : goal.returns
returns g c =
    rw (sym c.as_delaunay_face.ensures ∙ c.unwrap.ensures)
    (c.edges_out_of.ensures.dcel, c.edges_out_of.ensures.indexes)
