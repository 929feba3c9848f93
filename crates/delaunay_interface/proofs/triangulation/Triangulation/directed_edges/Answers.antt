use Rattle.std.proofs.Common.{length}
use Rattle.delaunay_interface.proofs.Faces.{gives_all}
use Rattle.delaunay_interface.proofs.triangulation.Triangulation.directed_edges.Goals as goal

pub returns : goal.returns
returns g c =
    gives_all c.s.result (λ s. length s.directed) c.directed_edges.ensures c.s.ensures.state
