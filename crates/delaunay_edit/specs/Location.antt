-- What an answer to a location says, passed on.
pub use Rattle.plane.specs.{Location, IsLocation, IsOuter, on_vertex}
pub use Rattle.plane.specs.{on_edge, on_face, outside_hull}
pub use Rattle.plane.specs.{no_triangulation}
pub use Rattle.delaunay_legalization.specs.{IsApart, IsWithinEdge}
pub use Rattle.delaunay_legalization.specs.{IsInsideFaceOf, IsMeshEdge}
pub use Rattle.delaunay_legalization.specs.{IsMeshFace}
pub use Rattle.delaunay_location.specs.{location_of, HasHandle, Locates}
