use Rattle.std.proofs.Common.{◌-◌, length}
use Rattle.delaunay_shapes.specs.{IsFloodFor, IsSpreadTo, Spreads}
use Rattle.delaunay_shapes.proofs.shape_search.ShapeSearch.spread.Given as goal

abbrev pub invariant-edges : goal.invariant-edges
invariant-edges g l = record {
  flooding : IsFloodFor g.V.HasPosition.place g.M.DistanceMetric.shape l.self l.flood;
  on : Spreads l.fn.flood.asked l.flood.asked l.fn.flood.found.items l.flood.found.items;
  spread : IsSpreadTo l.self.dcel.mesh l.flood.asked l.flood.found.items 0 l.index;
}

abbrev pub decreases-edges : goal.decreases-edges
decreases-edges g l = length l.self.dcel.undirected - l.index
