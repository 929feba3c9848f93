use Rattle.delaunay_legalization.specs.{constraints_by, triangulation_of}
use Rattle.c_calls.specs.{Answered, IsFaceEntry}
use Rattle.c_calls.proofs.lists.write_faces.Given as goal

abbrev pub invariant-loop-index : goal.invariant-loop-index
invariant-loop-index g l = let s = g.T.Triangulation.state l.points in
    Answered (IsFaceEntry (triangulation_of g.T.Vertex.HasPosition.place s)
    (constraints_by g.T.Constraints.ConstraintMarker.constraints s)) l.index l.fn.faces l.faces
