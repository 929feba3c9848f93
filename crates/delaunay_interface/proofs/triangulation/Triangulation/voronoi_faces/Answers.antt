use Rattle.std.proofs.Common.{length}
use Rattle.delaunay_interface.proofs.Faces.{gives_all}
use Rattle.delaunay_interface.proofs.triangulation.Triangulation.voronoi_faces.Goals as goal

pub returns : goal.returns
returns g c =
    gives_all c.s.result (λ s. length s.vertices) c.voronoi_faces.ensures c.s.ensures.state
