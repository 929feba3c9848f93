use Rattle.half_edge_dcel.proofs.vertex.VertexHandle.data.Goals as goal

pub returns : goal.returns
returns g c = rw c.fix.ensures.value at c.vertex_data.ensures
