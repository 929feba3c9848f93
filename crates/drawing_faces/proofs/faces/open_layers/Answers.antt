use Rattle.std.proofs.Common.{◌≤◌, length, sym, subst}
use Rattle.std.specs.Prelude.{All, IfOk}
use Rattle.{delaunay_extensions.specs.AreLayers, drawing_faces.specs.MarkOpenFaces}
use Rattle.drawing_faces.proofs.faces.open_layers.Goals as goal

pub reach_faces-requires-clause-layers : goal.reach_faces-requires-clause-layers
reach_faces-requires-clause-layers g c =
    subst (λ s. AreLayers s.mesh (g.T.Constraints.ConstraintMarker.constraints s.undirected)
    c.in_ok-layers.layers.items) (sym c.s.ensures.state) c.in_ok-layers.ensures

pub reach_faces-requires-clause-within : goal.reach_faces-requires-clause-within
reach_faces-requires-clause-within g c =
    subst (λ s. All (λ f. f ≤ length s.faces) c.args.starts.now) (sym c.s.ensures.state) c.requires

pub returns : goal.returns
returns g c =
    subst (λ s. IfOk c.reach_faces.result (λ v. MarkOpenFaces s.mesh
    (g.T.Constraints.ConstraintMarker.constraints s.undirected) c.args.starts.now v.items))
    c.s.ensures.state c.reach_faces.ensures
