-- What shapes answer of points and edges, passed on.
pub use Rattle.delaunay_shapes.specs.Distance.{IsLeastDistance, clamped, farthest}
pub use Rattle.delaunay_shapes.specs.Distance.{rectangle_distance}
pub use Rattle.delaunay_shapes.specs.{IsEdgeInShape}
pub use Rattle.delaunay_shapes.specs.{circle_distance, is_reversed}
pub use Rattle.delaunay_shapes.specs.Tests.{meets_circle}
pub use Rattle.delaunay_shapes.specs.Tests.{meets_rectangle}
