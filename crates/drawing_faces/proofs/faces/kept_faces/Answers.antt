use Rattle.std.proofs.Common.{◌≡◌, map}
use Rattle.std.proofs.lemmas.Result.{IfOk-weaker}
use Rattle.{delaunay_legalization.specs.triangulation_of, drawing_faces.proofs.Keeping.all_of}
use Rattle.drawing_faces.specs.{All, AreKept, face_of, IsLeftOut, position}
use Rattle.drawing_faces.proofs.faces.kept_faces.Goals as goal

pub returns-in-All : goal.returns-in-All
returns-in-All g c =
    let s = g.T.Triangulation.state c.args.triangulation.now in
    let constraints = g.T.Constraints.ConstraintMarker.constraints s.undirected in
    rw c.in-All.is (IfOk-weaker c.faces_of.result
    (λ v. map face_of v.items ≡ (triangulation_of position s).faces)
    (λ v. AreKept (IsLeftOut All s.mesh constraints c.args.holes.now) 1
    (triangulation_of position s).faces (map face_of v.items))
    (λ v e. all_of s constraints c.args.holes.now v.items e) c.faces_of.ensures)

pub returns-in-Inside : goal.returns-in-Inside
returns-in-Inside g c = rw c.in-Inside.is c.closed_faces.ensures
