use Rattle.std.proofs.Common.{length}
use Rattle.delaunay_shapes.specs.{IsFloodFor, IsSpreadTo, Spreads}
use Rattle.delaunay_shapes.proofs.shape_search.ShapeSearch.spread_starts.Given as goal

abbrev pub invariant-loop-index : goal.invariant-loop-index
invariant-loop-index g l = record {
  flooding : IsFloodFor g.V.HasPosition.place g.M.DistanceMetric.shape l.self l.flood;
  on : Spreads l.fn.flood.asked l.flood.asked l.fn.flood.found.items l.flood.found.items;
  spread : IsSpreadTo l.self.dcel.mesh l.flood.asked l.flood.found.items
      (length l.fn.flood.found.items) l.index;
}
