use Rattle.delaunay_interface.proofs.triangulation_core.TriangulationCore.insert_counting.Goals as goal

pub returns-clause-counted : goal.returns-clause-counted
returns-clause-counted g c = c.insert_told.ensures.counted
