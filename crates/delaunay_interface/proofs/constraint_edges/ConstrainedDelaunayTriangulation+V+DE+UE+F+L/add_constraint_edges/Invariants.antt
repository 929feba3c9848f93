use Rattle.delaunay_interface.proofs.Stepping.{IsOnPath}
use Rattle.delaunay_interface.proofs.constraint_edges.ConstrainedDelaunayTriangulation+V+DE+UE+F+L.add_constraint_edges.Given as goal

abbrev pub invariant-loop-vertex : goal.invariant-loop-vertex
invariant-loop-vertex g l = record {
  can_next : (goal.iterator-loop-vertex g).can_next l.vertex-iterator;
  ends : (goal.iterator-loop-vertex g).is_finite l.vertex-iterator;
  path : IsOnPath g.V.HasPosition.place (g.P.PlaneTests.sites l.tests) l.yielded l.first
      l.initial.self l.last l.self;
}
