use Rattle.std.proofs.Common.{◌-◌, length}
use Rattle.delaunay_shapes.specs.{IsFloodFor, IsSpreadTo, Spreads, undirected_of}
use Rattle.delaunay_shapes.specs.ShapeSearch.{EnclosesVertex}
use Rattle.delaunay_shapes.proofs.VertexFlood.{AreNamedAmong, IsAmongFirst}
use Rattle.delaunay_shapes.proofs.shape_search.ShapeSearch.spread_to_vertices.Given as goal

abbrev pub invariant-edges : goal.invariant-edges
invariant-edges g l = record {
  flooding : IsFloodFor g.V.HasPosition.place g.M.DistanceMetric.shape l.self l.flood;
  on : Spreads l.fn.flood.asked l.flood.asked l.fn.flood.found.items l.flood.found.items;
  spread : IsSpreadTo l.self.dcel.mesh l.flood.asked l.flood.found.items 0 l.index;
  named : AreNamedAmong (EnclosesVertex g.V.HasPosition.place g.M.DistanceMetric.shape l.self)
      l.self.dcel.mesh (IsAmongFirst (undirected_of l.flood.found.items) l.index)
      l.vertices.items;
}

abbrev pub decreases-edges : goal.decreases-edges
decreases-edges g l = length l.self.dcel.undirected - l.index
