use Rattle.std.proofs.Common.{length, refl}
use Rattle.delaunay_interface.proofs.Faces.{gives_all}
use Rattle.delaunay_interface.proofs.triangulation.Triangulation.inner_faces.Goals as goal

pub returns : goal.returns
returns g c = gives_all c.s.result (λ s. length s.faces)
    (rw (c.new.ensures.dcel, c.new.ensures.rest) refl) c.s.ensures.state
