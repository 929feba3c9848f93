use Rattle.delaunay_shapes.specs.{ShapeSearch.EnclosesVertex, undirected_of}
use Rattle.delaunay_shapes.proofs.VertexFlood.{AreNamedAmong, IsAmongFirst}
use Rattle.delaunay_shapes.proofs.shape_search.ShapeSearch.named_inside.Given as goal

abbrev pub invariant-loop-index : goal.invariant-loop-index
invariant-loop-index g l =
    AreNamedAmong (EnclosesVertex g.V.HasPosition.place g.M.DistanceMetric.shape l.self)
    l.self.dcel.mesh (IsAmongFirst (undirected_of l.flood.found.items) l.index) l.found.items
