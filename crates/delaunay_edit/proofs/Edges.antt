-- The directed edges of a mesh and the pairs of vertices that its edges join, passed on.
pub use Rattle.delaunay_legalization.proofs.EdgePairs.{Contains-map}
pub use Rattle.delaunay_legalization.proofs.EdgePairs.{Contains-map_from}
pub use Rattle.delaunay_legalization.proofs.{edge_joins, joins_edge}
