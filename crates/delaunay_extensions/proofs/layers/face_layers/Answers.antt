use Rattle.std.proofs.Common.{sym, subst}
use Rattle.std.specs.Prelude.{IfOk}
use Rattle.{delaunay_extensions.specs.AreLayers, delaunay_legalization.specs.IsTriangulated}
use Rattle.delaunay_extensions.proofs.layers.face_layers.Goals as goal

pub find_layers-requires : goal.find_layers-requires
find_layers-requires g c =
    subst (IsTriangulated g.T.Vertex.HasPosition.place) (sym c.s.ensures.state)
    c.s.ensures.well_formed.kept

pub returns : goal.returns
returns g c =
    subst (λ s. IfOk c.find_layers.result (λ v. AreLayers s.mesh
    (g.T.Constraints.ConstraintMarker.constraints s.undirected) v.items)) c.s.ensures.state
    c.find_layers.ensures
