use Rattle.half_edge_dcel.proofs.views.DcelMeshViews.vertex.Goals as goal

pub returns-clause-index : goal.returns-clause-index
returns-clause-index g c = c.index.ensures
