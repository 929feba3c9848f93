pub mod Known
pub mod Tests
pub mod Distance
pub mod InShape
pub mod Flood
pub mod Marks
pub mod Left
pub mod Start
pub mod Enclosing
pub mod ShapeSearch
pub mod Beside
pub mod Passing
pub use Beside.{by_place, IsFreeBeside}
pub use Flood.{IsAsked, IsFlooding, IsSpreadTo, Spreads}
pub use InShape.{AreEdgesInShape, AreVerticesInShape, IsEdgeInShape, undirected_of}
pub use Known.{point_at}
pub use Left.{edges_left, vertices_left}
pub use Marks.{has_mark}
pub use ShapeSearch.{IsFloodFor}
pub use Start.{HasSides, HasStartAt}
pub use Tests.{circle_distance, corners, is_reversed}
