use Rattle.std.proofs.Common.{length, ◌+◌}
use Rattle.delaunay_interface.proofs.Faces.{gives_all}
use Rattle.delaunay_interface.proofs.triangulation.Triangulation.all_faces.Goals as goal

pub returns : goal.returns
returns g c = gives_all c.s.result (λ s. length s.faces + 1) c.faces.ensures c.s.ensures.state
