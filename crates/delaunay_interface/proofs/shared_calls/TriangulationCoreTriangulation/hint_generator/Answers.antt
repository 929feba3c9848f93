use Rattle.delaunay_interface.proofs.shared_calls.TriangulationCoreTriangulation.hint_generator.Goals as goal

pub returns : goal.returns
returns g c = rw (← c.self.view_is) c.self.invariant.1
