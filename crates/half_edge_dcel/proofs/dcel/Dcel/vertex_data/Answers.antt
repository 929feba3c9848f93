use Rattle.half_edge_dcel.proofs.dcel.Dcel.vertex_data.Goals as goal

pub returns : goal.returns
returns g c = rw (← c.self.view_is) (rw c.index.ensures at c.vertex_data.ensures)
