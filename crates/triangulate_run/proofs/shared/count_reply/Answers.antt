use Rattle.triangulate_run.proofs.Locations.{edges_counted}
use Rattle.triangulate_run.proofs.shared.count_reply.Goals as goal

pub returns : goal.returns
returns g c = record {
  vertices_are = c.num_vertices.ensures.value;
  edges_are = edges_counted _ c.recall_invariant.ensures.headline.tiling _
      c.num_undirected_edges.ensures.value;
  faces_are = c.num_inner_faces.ensures.value;
  constraints_are = c.requires;
}
