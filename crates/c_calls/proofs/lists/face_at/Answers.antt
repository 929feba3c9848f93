use Rattle.std.proofs.Common.{◌∙◌}
use Rattle.{c_calls.proofs.Sides.face_at, delaunay_legalization.specs.state_of}
use Rattle.c_calls.proofs.lists.face_at.Goals as goal

pub returns : goal.returns
returns g c = face_at g.T.Vertex.HasPosition.place g.T.Constraints.ConstraintMarker.marks
    g.T.Constraints.ConstraintMarker.constraints
    g.met.T.Constraints.ConstraintMarker.constraints_are_marked
    (g.T.Triangulation.state c.args.points.now) c.recall_invariant.ensures.kept
    (state_of c.face.result.dcel.now) c.args.index c.face.result.index c.raw_face.result
    c.face.ensures.state (c.face.ensures.index ∙ c.from_index.ensures) c.requires
    c.raw_face.ensures
