pub mod Layers
pub mod Search
pub mod Found
pub mod Distances
pub mod Curve
pub mod ByPlace
pub mod Order
pub mod Bulk
pub use Bulk.{HaveHandles, InsertsAll, IsAt, RefusesWhere, StopsAt}
unfoldable pub use ByPlace.{written}
pub use Layers.{AreLayers, crossed, is_constrained, Leads}
pub use Order.{IsFirstOutside}
pub use Search.{IsMet, IsSearching, IsSideOf, layer_at, PutsIn, weight}
pub use declared.error.BulkInsertionError.{BulkInsertionError}
pub use declared.error.BulkInsertionError.TheVariants.{NoRoom, Vertex}
