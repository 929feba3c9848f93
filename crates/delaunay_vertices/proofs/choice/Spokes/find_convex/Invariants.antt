use Rattle.{delaunay_vertices.proofs.Searching.IsSeeking, delaunay_vertices.specs.IsConvexAt}
use Rattle.delaunay_vertices.proofs.choice.Spokes.find_convex.Given as goal

abbrev pub invariant-loop-i : goal.invariant-loop-i
invariant-loop-i g l = IsSeeking IsConvexAt l.self l.i l.edge
