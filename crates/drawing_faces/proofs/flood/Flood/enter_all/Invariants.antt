use Rattle.drawing_faces.proofs.Flooding.{AreBegun}
use Rattle.drawing_faces.proofs.flood.Flood.enter_all.Given as goal

abbrev pub invariant-loop-face : goal.invariant-loop-face
invariant-loop-face g l =
    AreBegun l.dcel.mesh (g.M.ConstraintMarker.constraints l.dcel.undirected) l.faces
    l.self.reached.items l.self.due.items l.face-index
