use Rattle.delaunay_interface.proofs.triangulation_core.TriangulationCore.halves_at.Goals as goal

pub returns : goal.returns
returns g c = rw (← c.mesh-dcel.ensures.state) c.straight_halves.ensures
