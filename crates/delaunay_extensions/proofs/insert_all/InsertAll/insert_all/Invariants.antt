use Rattle.std.proofs.Common.{length}
use Rattle.delaunay_extensions.proofs.Turns.{IsInserting}
use Rattle.delaunay_extensions.proofs.insert_all.InsertAll.insert_all.Given as goal

abbrev pub invariant-vertices : goal.invariant-vertices
invariant-vertices g l = IsInserting g.Self.Vertex.HasPosition.place
    g.Self.Constraints.ConstraintMarker.constraints (g.P.PlaneTests.sites l.tests)
    l.fn.vertices.items l.initial.insertion l.insertion l.handles
    (g.Self.Triangulation.state l.fn.self) (g.Self.Triangulation.state l.self)

abbrev pub decreases-vertices : goal.decreases-vertices
decreases-vertices g l = length l.insertion
